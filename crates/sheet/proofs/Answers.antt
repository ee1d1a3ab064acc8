-- What reading and writing answer, and what they leave, case by case in the order of their tests. Assumes nothing.
use Rattle.std.proofs.Common.{◌≡◌, refl, sym, ap, ◌∙◌, Bool, true, false, cond, List, ℕ, ◌*◌, ◌<◌, ◌≤◌, eqb, ltb, lit<, length, arith, eq-eqb, ne_eqb, lt-ltb, le-ltb, ltb-true, ltb-false, Result, Ok, Some, None, rules}
use borrow.Author.Tests.{eqb-false}
use Rattle.answer.specs.declared.refusal.Refusal.{Refusal}
use Rattle.answer.specs.Told.{Told, told, counted, refusal, accepts, sheet_length, misprint, out_of_range, lent_space_short}
use Rattle.answer.specs.First.{first}
use Rattle.answer.specs.Length.{most_rows, rows_in, Whole}
use Rattle.answer.specs.Lists.{over}
use Rattle.answer.proofs.Refusals.{passed, kept, either_by_number}
use Rattle.answer.proofs.Places.{first_none, before_first}
use Rattle.answer.proofs.Lengths.{rows_whole, rows_counted, rows_most}
use Rattle.sheet.specs.Sheet.{refusal_at, misprinted, lines_read, numbers_of, reading, after_reading, too_large, large_place, lines_of, writing, after_writing}
use Rattle.sheet.proofs.Sheets.{lines_counted}

-- A sheet of so many lines that can be read: whole lines, not too many, nothing misprinted.
pub record Readable (sheet : List ℕ) (lines : ℕ) : Type 0 where
  pub lengths : Whole 65 (length sheet) lines
  pub right : (place : ℕ) → place < 9 * lines → misprinted sheet place ≡ false

-- A table of so many rows that can be written: whole rows, not too many, no number too large.
pub record Writable (table : List ℕ) (rows : ℕ) : Type 0 where
  pub lengths : Whole 8 (length table) rows
  pub right : (place : ℕ) → place < length table → too_large table place ≡ false

module _ (sheet table : List ℕ) {lines : ℕ} (so_many : lines ≡ rows_in 65 (length sheet)) where
  abbrev Read : Told → List ℕ → Type 0
  Read answer left = (answer ≡ reading sheet (length table)) × (left ≡ after_reading sheet table)

  -- A refusal leaves the table as it was.
  pub reading_refused : {answer : Told} → answer ≡ reading sheet (length table) → accepts answer ≡ false → Read answer table
  unfolding after_reading
  reading_refused e f = (e, kept (reading sheet (length table)) _ table e f)

  pub reading_length : lines ≡ 0 → Read (refusal sheet_length 0 0) table
  unfolding reading
  reading_length none = reading_refused (rw (← so_many, eq-eqb lines 0 none)) refl

  module _ (some : lines ≡ 0 → ⊥) where
    pub reading_short : length table < 8 * lines → Read (refusal lent_space_short 0 0) table
    unfolding reading
    reading_short short = reading_refused (rw (← so_many, ne_eqb lines 0 some, lt-ltb (length table) (8 * lines) short)) refl

    -- Where there is room, what is told of the lines is the answer.
    pub reading_lines : {answer : Told} → 8 * lines ≤ length table → answer ≡ lines_read sheet lines → answer ≡ reading sheet (length table)
    unfolding reading
    reading_lines room e = rw (← so_many, ne_eqb lines 0 some, le-ltb (length table) (8 * lines) room, e)

  pub reading_counted : {n : ℕ} → counted n ≡ reading sheet (length table) → Read (counted n) (over table (numbers_of (8 * lines) sheet))
  unfolding after_reading
  reading_counted e = (e, rw (← e, ← so_many))

module _ (table sheet : List ℕ) {rows : ℕ} (so_many : rows ≡ rows_in 8 (length table)) where
  abbrev Written : Told → List ℕ → Type 0
  Written answer left = (answer ≡ writing table (length sheet)) × (left ≡ after_writing table sheet)

  -- A refusal leaves the bytes as they were.
  writing_refused : {answer : Told} → answer ≡ writing table (length sheet) → accepts answer ≡ false → Written answer sheet
  unfolding after_writing
  writing_refused e f = (e, kept (writing table (length sheet)) _ sheet e f)

  pub writing_length : rows ≡ 0 → Written (refusal sheet_length 0 0) sheet
  unfolding writing
  writing_length none = writing_refused (rw (← so_many, eq-eqb rows 0 none)) refl

  module _ (some : rows ≡ 0 → ⊥) {at : ℕ} (found : at ≡ first (too_large table) (length table)) where
    pub writing_large : at < length table → Written (refusal_at out_of_range 8 at) sheet
    unfolding writing refusal_at
    writing_large h = writing_refused (rw (← so_many, ← found, ne_eqb rows 0 some, lt-ltb at (length table) h)) refl

    module _ (fit : length table ≤ at) where
      pub writing_short : length sheet < 65 * rows → Written (refusal lent_space_short 0 0) sheet
      unfolding writing
      writing_short h =
          writing_refused
          (rw (← so_many, ← found, ne_eqb rows 0 some, le-ltb at (length table) fit, lt-ltb (length sheet) (65 * rows) h)) refl

      counted_writing : 65 * rows ≤ length sheet → counted (65 * rows) ≡ writing table (length sheet)
      unfolding writing
      counted_writing h =
          rw (← so_many, ← found, ne_eqb rows 0 some, le-ltb at (length table) fit, le-ltb (length sheet) (65 * rows) h)

      pub writing_accepted : 65 * rows ≤ length sheet → Written (counted (65 * rows)) (over sheet (lines_of rows table))
      unfolding after_writing
      writing_accepted h = (counted_writing h, rw (← counted_writing h, ← so_many))

-- What the code finds of the numbers that are too large.
module _ (table : List ℕ) where
  pub large_found : {at : ℕ} → Some at ≡ large_place table → (at ≡ first (too_large table) (length table)) × (at < length table)
  unfolding large_place
  large_found {at} = go (ltb (first (too_large table) (length table)) (length table)) refl
    where
      go : (b : Bool) → ltb (first (too_large table) (length table)) (length table) ≡ b
          → Some at ≡ cond b (Some (first (too_large table) (length table))) None
          → (at ≡ first (too_large table) (length table)) × (at < length table)
      go true f e =
          let same : at ≡ first (too_large table) (length table) = search rules in
          (same, rw same (ltb-true (first (too_large table) (length table)) (length table) f))
      go false f e = absurd (search rules)

  pub none_large_found : None ≡ large_place table → length table ≤ first (too_large table) (length table)
  unfolding large_place
  none_large_found = go (ltb (first (too_large table) (length table)) (length table)) refl
    where
      go : (b : Bool) → ltb (first (too_large table) (length table)) (length table) ≡ b
          → None ≡ cond b (Some (first (too_large table) (length table))) None → length table ≤ first (too_large table) (length table)
      go true f e = absurd (search rules)
      go false f e = ltb-false (first (too_large table) (length table)) (length table) f

-- An answer is a count just where its number is 0.
pub reading_by_number : (sheet : List ℕ) (lent : ℕ) → (reading sheet lent).is_count ≡ eqb (reading sheet lent).number 0
unfolding reading refusal_at
reading_by_number sheet lent =
    let lines = rows_in 65 (length sheet) in
    let at = first (misprinted sheet) (9 * lines) in
    let last = either_by_number (ltb at (9 * lines)) (refusal_at misprint 9 at) (counted lines) refl refl in
    either_by_number (eqb lines 0) (refusal sheet_length 0 0) _ refl (either_by_number (ltb lent (8 * lines)) (refusal lent_space_short 0 0) _ refl last)

pub writing_by_number : (table : List ℕ) (lent : ℕ) → (writing table lent).is_count ≡ eqb (writing table lent).number 0
unfolding writing refusal_at
writing_by_number table lent =
    let rows = rows_in 8 (length table) in
    let at = first (too_large table) (length table) in
    let last = either_by_number (ltb lent (65 * rows)) (refusal lent_space_short 0 0) (counted (65 * rows)) refl refl in
    either_by_number (eqb rows 0) (refusal sheet_length 0 0) _ refl (either_by_number (ltb at (length table)) (refusal_at out_of_range 8 at) _ refl last)

-- A sheet is accepted just where it can be read into what is lent, and a table just where it can be written into what is lent.
pub accepted_readable : (sheet : List ℕ) (lent : ℕ) → (reading sheet lent).number ≡ 0
    → Readable sheet (rows_in 65 (length sheet)) × (8 * rows_in 65 (length sheet) ≤ lent)
unfolding reading refusal_at
accepted_readable sheet lent z =
    let lines = rows_in 65 (length sheet) in
    let at = first (misprinted sheet) (9 * lines) in
    let second = passed (eqb lines 0) (refusal sheet_length 0 0) _ refl z in
    let third = passed (ltb lent (8 * lines)) (refusal lent_space_short 0 0) _ refl second.1 in
    let last = passed (ltb at (9 * lines)) (refusal_at misprint 9 at) _ refl third.1 in
    let searched : 9 * lines ≤ at = ltb-false at (9 * lines) last.0 in
    let readable : Readable sheet lines = record {
      lengths = rows_whole 65 (length sheet) {rows = lines} refl (eqb-false lines 0 second.0);
      right = λ place h. before_first (misprinted sheet) (9 * lines) place (omega arith);
    } in
    (readable, ltb-false lent (8 * lines) third.0)

module _ (sheet table : List ℕ) (lines : ℕ) (readable : Readable sheet lines) where
  pub readable_accepted : 8 * lines ≤ length table
      → (counted lines ≡ reading sheet (length table)) × (over table (numbers_of (8 * lines) sheet) ≡ after_reading sheet table)
  readable_accepted room =
      let so_many : lines ≡ rows_in 65 (length sheet) = rows_counted 65 readable.lengths.whole (lit< tt) readable.lengths.most in
      let read = lines_counted sheet lines readable.right in
      reading_counted sheet table so_many (reading_lines sheet table so_many (λ z. omega (arith, readable.lengths.some)) room read)

-- A table with room for the longest sheet is never too short.
pub never_short : (sheet : List ℕ) (lent : ℕ) → 8 * most_rows ≤ lent → (reading sheet lent).number ≡ lent_space_short → ⊥
unfolding reading refusal_at
never_short sheet lent room e =
    go (eqb lines 0) (ltb at (9 * lines)) (rw (le-ltb lent (8 * lines) (omega (arith, rows_most 65 (length sheet)))) at e)
  where
    lines : ℕ
    lines = rows_in 65 (length sheet)

    at : ℕ
    at = first (misprinted sheet) (9 * lines)

    go : (b d : Bool) → (cond b (refusal sheet_length 0 0) (cond d (refusal_at misprint 9 at) (counted lines))).number ≡ lent_space_short → ⊥
    go true d e = omega arith
    go false true e = omega arith
    go false false e = omega arith

-- What an accepted sheet's count says.
pub accepted_count : (sheet table : List ℕ) → (reading sheet (length table)).number ≡ 0
    → Readable sheet (reading sheet (length table)).count × (8 * (reading sheet (length table)).count ≤ length table)
accepted_count sheet table z =
    let readable = accepted_readable sheet (length table) z in
    let answer = (readable_accepted sheet table (rows_in 65 (length sheet)) readable.0 readable.1).0 in
    rw (← answer) readable

-- For whoever takes apart what reading answered.
pub read_accepted : (sheet table : List ℕ) {answer : Result ℕ Refusal} {rows : ℕ} → told answer ≡ reading sheet (length table) → answer ≡ Ok rows
    → reading sheet (length table) ≡ counted rows
read_accepted sheet table read e = sym read ∙ ap told e

pub accepted_writable : (table : List ℕ) (lent : ℕ) → (writing table lent).number ≡ 0
    → Writable table (rows_in 8 (length table)) × (65 * rows_in 8 (length table) ≤ lent)
unfolding writing refusal_at
accepted_writable table lent z =
    let rows = rows_in 8 (length table) in
    let at = first (too_large table) (length table) in
    let second = passed (eqb rows 0) (refusal sheet_length 0 0) _ refl z in
    let third = passed (ltb at (length table)) (refusal_at out_of_range 8 at) _ refl second.1 in
    let last = passed (ltb lent (65 * rows)) (refusal lent_space_short 0 0) _ refl third.1 in
    let searched : length table ≤ at = ltb-false at (length table) third.0 in
    let writable : Writable table rows = record {
      lengths = rows_whole 8 (length table) {rows = rows} refl (eqb-false rows 0 second.0);
      right = λ place h. before_first (too_large table) (length table) place (omega arith);
    } in
    (writable, ltb-false lent (65 * rows) last.0)

module _ (table sheet : List ℕ) (rows : ℕ) (writable : Writable table rows) where
  so_many_rows : rows ≡ rows_in 8 (length table)
  so_many_rows = rows_counted 8 writable.lengths.whole (lit< tt) writable.lengths.most

  none_large : length table ≡ first (too_large table) (length table)
  none_large = sym (first_none (too_large table) (length table) writable.right)

  pub writable_accepted : 65 * rows ≤ length sheet
      → (counted (65 * rows) ≡ writing table (length sheet)) × (over sheet (lines_of rows table) ≡ after_writing table sheet)
  writable_accepted room = writing_accepted table sheet so_many_rows (λ z. omega (arith, writable.lengths.some)) none_large (omega arith) room

  pub writable_short : length sheet < 65 * rows
      → (refusal lent_space_short 0 0 ≡ writing table (length sheet)) × (sheet ≡ after_writing table sheet)
  writable_short short = writing_short table sheet so_many_rows (λ z. omega (arith, writable.lengths.some)) none_large (omega arith) short
