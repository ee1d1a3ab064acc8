-- The ways out of writing a report, and of diagnosing a sheet: the answer and the lent bytes in each. Assumes nothing.
use Rattle.std.proofs.Common.{◌≡◌, Result, Ok, Err, refl, sym, ap, subst, ◌∙◌, Bool, true, false, cond, List, ℕ, ◌*◌, ◌<◌, ◌≤◌, le_refl, arith, T, eqb, ltb, lit≤, length, take, drop, replicate, take_at, ltb-true, ltb-false}
use Rattle.answer.specs.declared.refusal.Refusal.{Refusal}
use Rattle.answer.specs.Told.{Told, number_of, told, counted, refusal, refusal_row, accepts, lent_space_short}
use Rattle.answer.specs.Length.{rows_in}
use Rattle.answer.specs.Lists.{joined, part, over}
use Rattle.answer.proofs.Lists.{over_length}
use Rattle.answer.proofs.Refusals.{either_by_number, refused_told, refused_first}
use Rattle.sheet.specs.Sheet.{reading, after_reading, lines_of, after_printing}
use Rattle.sheet.proofs.Sheets.{numbers_length, line_length, lines_length, printing_rows}
use Rattle.sheet.proofs.Answers.{Readable, accepted_readable, readable_accepted, never_short, reading_by_number}
use Rattle.survey.specs.Judgement.{judging}
use Rattle.survey.proofs.RefusalNumbers.{judging_known, judging_by_number, accepted_number}
use Rattle.diagnosis.specs.Program.{most_numbers, table_of, diagnosing, after_diagnosing, most_report_bytes, output, output_bytes}
use Rattle.diagnosis.specs.Report.{report_rows, report_lines, report_bytes, reporting, after_reporting, refusal_line}
use Rattle.diagnosis.proofs.AcceptedTables.{storeys_few}

-- Writing the report of a table that is refused: the answer, and the lent bytes afterwards.
pub report_refused : (table lent : List ℕ) (r : Refusal) → told (Err r) ≡ judging table
    → record { answer : told (Err r) ≡ reporting table (length lent); report : lent ≡ after_reporting table lent }
unfolding reporting after_reporting
report_refused table lent r judged =
    let refused = refused_first {answer = Err r} (judging table) _ _ lent judged refl in
    record { answer = refused.0; report = refused.1 }

-- An answer to diagnosing a sheet into lent bytes, and these afterwards.
abbrev Diagnosed : List ℕ → List ℕ → Told → List ℕ → Type 0
Diagnosed sheet lent answer after = (answer ≡ diagnosing sheet (length lent)) × (after ≡ after_diagnosing sheet lent)

-- A sheet that cannot be read.
pub diagnose_refused : (sheet lent : List ℕ) (r : Refusal) → told (Err r) ≡ reading sheet most_numbers → Diagnosed sheet lent (told (Err r)) lent
unfolding diagnosing after_diagnosing
diagnose_refused sheet lent r read = refused_first {answer = Err r} (reading sheet most_numbers) _ _ lent read refl

-- One that can: its rows are its table.
module _ (sheet table lent : List ℕ) (long : length table ≡ most_numbers) {rows : ℕ} (read : counted rows ≡ reading sheet (length table)) where
  counts : reading sheet (length table) ≡ counted rows
  counts = sym read

  readable : Readable sheet (rows_in 65 (length sheet)) × (8 * rows_in 65 (length sheet) ≤ length table)
  readable = accepted_readable sheet (length table) (ap (λ (t : Told). t.number) counts)

  both : (counted (rows_in 65 (length sheet)) ≡ reading sheet (length table)) × (over table (table_of sheet) ≡ after_reading sheet table)
  unfolding table_of
  both = readable_accepted sheet table (rows_in 65 (length sheet)) readable.0 readable.1

  so_many : rows ≡ rows_in 65 (length sheet)
  so_many = ap (λ (t : Told). t.count) (sym (both.0 ∙ counts))

  pub rows_fit : {filled : List ℕ} → filled ≡ after_reading sheet table → 8 * rows ≤ length filled
  unfolding table_of
  rows_fit f =
      let kept = over_length table (table_of sheet) (omega (arith, numbers_length (8 * rows_in 65 (length sheet)) sheet, readable.1)) in
      rw (f, ← both.1, kept) (omega (arith, so_many, readable.1))

  table_taken : {filled : List ℕ} → filled ≡ after_reading sheet table → take (8 * rows) filled ≡ table_of sheet
  unfolding table_of over
  table_taken f = rw (f, ← both.1, so_many) (take_at (table_of sheet) (drop (length (table_of sheet)) table) _ (numbers_length _ sheet))

  pub diagnose_read : {filled after : List ℕ} {reported : Told} → filled ≡ after_reading sheet table
      → reported ≡ reporting (take (8 * rows) filled) (length lent) → after ≡ after_reporting (take (8 * rows) filled) lent
      → Diagnosed sheet lent reported after
  unfolding diagnosing after_diagnosing after_reporting
  diagnose_read f r a =
      let accepted : accepts (reading sheet most_numbers) ≡ true = rw (← long, counts) in
      let taken = table_taken f in
      (r ∙ rw (taken, accepted), a ∙ rw (taken, accepted))

-- An answer is a count just where its number is 0.
pub reporting_by_number : (table : List ℕ) (lent : ℕ) → (reporting table lent).is_count ≡ eqb (reporting table lent).number 0
unfolding reporting
reporting_by_number table lent =
    let bytes = 65 * report_lines table in
    let written = either_by_number (ltb lent bytes) (refusal lent_space_short 0 0) (counted bytes) refl refl in
    either_by_number (accepts (judging table)) _ (judging table) written (judging_by_number table)

pub diagnosing_by_number : (sheet : List ℕ) (lent : ℕ) → (diagnosing sheet lent).is_count ≡ eqb (diagnosing sheet lent).number 0
unfolding diagnosing
diagnosing_by_number sheet lent =
    let read = reading sheet most_numbers in
    either_by_number (accepts read) (reporting (table_of sheet) lent) read (reporting_by_number (table_of sheet) lent) (reading_by_number sheet most_numbers)

-- The ways out of diagnosing a sheet: a refusal of reading, a refusal of judging, 9, or the count of the report's bytes. What holds of all of
-- them holds of the answer.
module _ (sheet : List ℕ) (lent : ℕ) where
  abbrev needed : ℕ
  needed = 65 * report_lines (table_of sheet)

  by_way_out : (P : Told → Type 0) → (accepts (reading sheet most_numbers) ≡ false → P (reading sheet most_numbers))
      → (accepts (judging (table_of sheet)) ≡ false → P (judging (table_of sheet)))
      → (accepts (judging (table_of sheet)) ≡ true → lent < needed → P (refusal lent_space_short 0 0)) → (needed ≤ lent → P (counted needed))
      → P (diagnosing sheet lent)
  unfolding diagnosing reporting
  by_way_out P unread refused short written =
      go (accepts (reading sheet most_numbers)) refl (accepts (judging (table_of sheet))) refl (ltb lent needed) refl
    where
      go : (a : Bool) → accepts (reading sheet most_numbers) ≡ a → (b : Bool) → accepts (judging (table_of sheet)) ≡ b → (c : Bool) → ltb lent needed ≡ c
          → P (cond a (cond b (cond c (refusal lent_space_short 0 0) (counted needed)) (judging (table_of sheet))) (reading sheet most_numbers))
      go true r true j true l = short j (ltb-true lent needed l)
      go true r true j false l = written (ltb-false lent needed l)
      go true r false j c l = refused j
      go false r b j c l = unread r

  -- 9 is told only where the report needs more bytes than were lent, and no report needs more than 455.
  pub short_only : (diagnosing sheet lent).number ≡ lent_space_short → (lent < needed) × (needed ≤ 455)
  short_only =
      by_way_out
      (λ answer. answer.number ≡ lent_space_short → (lent < needed) × (needed ≤ 455))
      (λ r e. absurd (never_short sheet most_numbers (le_refl most_numbers) e))
      (λ j e. absurd ((judging_known (table_of sheet)).1 e))
      (λ j l e. (l, omega (arith, storeys_few (table_of sheet) (accepted_number (table_of sheet) j))))
      (λ l e. absurd (omega arith))

  -- Where it is accepted the report fits.
  report_room : accepts (diagnosing sheet lent) ≡ true → needed ≤ lent
  report_room =
      by_way_out
      (λ answer. accepts answer ≡ true → needed ≤ lent)
      (λ r e. absurd (subst T (sym e ∙ r) tt))
      (λ j e. absurd (subst T (sym e ∙ j) tt))
      (λ j l e. absurd (subst T (sym e) tt))
      (λ l e. l)

  -- What is told is a count just where it is no refusal, and the count is the report's bytes.
  module _ {answer : Result ℕ Refusal} (diagnosed : told answer ≡ diagnosing sheet lent) where
    pub diagnosed_count : {count : ℕ} → answer ≡ Ok count → (accepts (diagnosing sheet lent) ≡ true) × (count ≡ needed) × (count ≤ lent)
    diagnosed_count {count} e =
        by_way_out
        (λ answer. counted count ≡ answer → (accepts answer ≡ true) × (count ≡ needed) × (count ≤ lent))
        (λ r e. absurd (subst T (ap accepts e ∙ r) tt))
        (λ j e. absurd (subst T (ap accepts e ∙ j) tt))
        (λ j l e. absurd (omega (arith, ap (λ (t : Told). t.number) e)))
        (λ l e. (refl, omega (arith, ap (λ (t : Told). t.count) e), omega (arith, ap (λ (t : Told). t.count) e)))
        (sym (ap told e) ∙ diagnosed)

    pub diagnosed_refusal : {r : Refusal} → answer ≡ Err r → accepts (diagnosing sheet lent) ≡ false
    diagnosed_refusal e = refused_told diagnosed e

-- One row printed.
refusal_line_lem : (number row column : ℕ) → lines_of 1 (refusal_row number row column) ≡ refusal_line number row column
unfolding lines_of joined part refusal_line
refusal_line_lem number row column = refl

refusal_length : (number row column : ℕ) → length (refusal_line number row column) ≡ 65
unfolding refusal_line
refusal_length number row column = line_length (refusal_row number row column)

-- The two ways out of what the program prints: an answer, the bytes and how many of them are printed.
abbrev Output : List ℕ → Told → List ℕ → ℕ → Type 0
Output sheet answer bytes count =
    (answer ≡ diagnosing sheet most_report_bytes) × ((bytes ≡ output_bytes sheet) × (count ≡ length (output sheet)))

module _ (sheet : List ℕ) {answer : Result ℕ Refusal} (diagnosed : told answer ≡ diagnosing sheet most_report_bytes)
    {after : List ℕ} (written : after ≡ after_diagnosing sheet (replicate most_report_bytes 0)) where
  pub output_report : {count : ℕ} → answer ≡ Ok count → Output sheet (counted count) after count
  unfolding output output_bytes after_diagnosing report_bytes
  output_report e =
      let counts = diagnosed_count sheet most_report_bytes diagnosed e in
      (sym (ap told e) ∙ diagnosed, (written ∙ rw counts.0, rw counts.0 (counts.1 ∙ sym (lines_length _ _))))

  pub output_refusal : {r : Refusal} {bytes : List ℕ} → answer ≡ Err r
      → bytes ≡ after_printing (refusal_row (number_of r.reason) r.row r.column) after → Output sheet (told (Err r)) bytes 65
  unfolding output output_bytes after_diagnosing
  output_refusal {r} e printed =
      let number = number_of r.reason in
      let row = r.row in
      let column = r.column in
      let refused = diagnosed_refusal sheet most_report_bytes diagnosed e in
      let tells = sym (ap told e) ∙ diagnosed in
      let blank : List ℕ = replicate most_report_bytes 0 in
      let line = printing_rows (refusal_row number row column) blank 1 refl (lit≤ tt) ∙ ap (over blank) (refusal_line_lem number row column) in (
        tells,
        (printed ∙ rw (written, refused) (line ∙ rw (← tells)), rw (refused, ← tells) (sym (refusal_length number row column))),
      )

-- No more is printed than the longest report has.
pub output_most : (sheet : List ℕ) → length (output sheet) ≤ most_report_bytes
unfolding output report_bytes
output_most sheet = go (accepts (diagnosing sheet most_report_bytes)) refl
  where
    answer : Told
    answer = diagnosing sheet most_report_bytes

    go : (b : Bool) → accepts answer ≡ b
        → length (cond b (report_bytes (table_of sheet)) (refusal_line answer.number answer.row answer.column)) ≤ most_report_bytes
    go true e = omega (arith, lines_length (report_lines (table_of sheet)) (report_rows (table_of sheet)), report_room sheet most_report_bytes e)
    go false e = omega (arith, refusal_length answer.number answer.row answer.column)

-- So what is printed is a part of the bytes, for whoever prints it.
pub output_within : {bytes : List ℕ} {count : ℕ} (sheet : List ℕ) → (bytes ≡ output_bytes sheet) × (count ≡ length (output sheet)) → count ≤ length bytes
unfolding output_bytes
output_within sheet told = rw (told.0, told.1, over_length (replicate {A = ℕ} most_report_bytes 0) (output sheet) (output_most sheet)) (output_most sheet)

pub output_front : {bytes : List ℕ} {count : ℕ} (sheet : List ℕ) → (bytes ≡ output_bytes sheet) × (count ≡ length (output sheet)) → take count bytes ≡ output sheet
unfolding output_bytes over
output_front sheet told = rw (told.0, told.1) (take_at (output sheet) _ _ refl)
