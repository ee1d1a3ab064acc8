-- `read_with` meets its contract: the refusal of a misprint, or the numbers copied. Assumes nothing.
use Rattle.std.proofs.Common.{◌≡◌, ◌∙◌, refl, sym, ap, List, ℕ, ◌*◌, ◌/◌, ◌<◌, ◌≤◌, Ok, Err, length, take, drop, take_at, arith, rules, length-take-le}
use Rattle.std.proofs.lemmas.List.{length-replicate}
use Rattle.answer.specs.Told.{told, counted}
use Rattle.answer.specs.Length.{most_rows, rows_in}
use Rattle.answer.specs.Lists.{over}
use Rattle.answer.proofs.Lengths.{rows_whole}
use Rattle.sheet.specs.Sheet.{lines_read, numbers_of}
use Rattle.sheet.proofs.Answers.{reading_refused, reading_lines, reading_counted}
use Rattle.sheet.proofs.Sheets.{numbers_length, counted_lines}
use Rattle.sheet.proofs.reader.read_with.Goals as goal

-- The whole lines are as many as refusal 1 counts.
rows_are : (n : ℕ) → 0 < rows_in 65 n → (rows_in 65 n ≡ n / 65) × (n / 65 ≤ most_rows)
rows_are n some =
    let whole = rows_whole 65 n {rows = rows_in 65 n} refl (λ none. omega arith) in
    (omega (arith, whole.whole), omega (arith, whole.whole, whole.most))

lines_are : (sheet : List ℕ) {lines : ℕ} → 0 < rows_in 65 (length sheet) → counted lines ≡ lines_read sheet (length sheet / 65)
    → (lines ≡ rows_in 65 (length sheet)) × (lines ≤ most_rows)
lines_are sheet some e =
    let rows = rows_are (length sheet) some in
    let same = counted_lines sheet (length sheet / 65) e in
    (omega arith, omega arith)

-- The numbers that were read, put over the table's front.
put : (table zeros numbers : List ℕ) {read : List ℕ} (count : ℕ) → length numbers ≡ count → read ≡ over zeros numbers
    → over table (take count read) ≡ over table numbers
unfolding over
put table zeros numbers count long e = rw (e, take_at numbers (drop (length numbers) zeros) count long) refl

pub whole_as_slice-read_lines : goal.whole_as_slice-read_lines
whole_as_slice-read_lines g c = omega arith

pub read_lines-requires : goal.read_lines-requires
read_lines-requires g c =
    let rows = rows_are (length c.args.sheet.now) c.requires.lines in
    record { lines = rows.1; numbers = rw length-replicate (omega arith) }

pub returns-in_err-lines : goal.returns-in_err-lines
returns-in_err-lines g c =
    let sheet = c.args.sheet.now in
    let rows = rows_are (length sheet) c.requires.lines in
    let same : c.from_residual.result ≡ Err c.in_err-lines.field-0.0 = search rules in
    let told_lines = c.in_err-lines.ensures.answer ∙ ap (lines_read sheet) (sym rows.0) in
    let case = reading_refused sheet c.args.table.now refl (reading_lines sheet c.args.table.now refl (λ none. omega arith) c.requires.table told_lines) refl in
    record { answer = ap told same ∙ case.0; table = case.1 }

pub overflow_mul-lines : goal.overflow_mul-lines
overflow_mul-lines g c = omega (arith, lines_are _ c.requires.lines c.in_ok-lines.ensures.answer)

pub shared_whole_as_front-put_numbers : goal.shared_whole_as_front-put_numbers
shared_whole_as_front-put_numbers g c = (omega (arith, lines_are _ c.requires.lines c.in_ok-lines.ensures.answer), omega arith)

pub put_numbers-requires : goal.put_numbers-requires
put_numbers-requires g c =
    let lines = lines_are c.args.sheet.now c.requires.lines c.in_ok-lines.ensures.answer in
    let long = c.read_lines.auto.numbers ∙ length-replicate g.row.ROOM 0 in
    omega (arith, length-take-le (8 * c.in_ok-lines.lines) c.read_lines.new.numbers (omega arith))

pub overflow_cast-result : goal.overflow_cast-result
overflow_cast-result g c = omega (arith, lines_are _ c.requires.lines c.in_ok-lines.ensures.answer)

pub returns : goal.returns
returns g c =
    let sheet = c.args.sheet.now in
    let table = c.args.table.now in
    let rows = rows_are (length sheet) c.requires.lines in
    let lines = lines_are sheet c.requires.lines c.in_ok-lines.ensures.answer in
    let told_lines = c.in_ok-lines.ensures.answer ∙ ap (lines_read sheet) (sym rows.0) in
    let case = reading_counted sheet table refl (reading_lines sheet table refl (λ none. omega arith) c.requires.table told_lines) in
    let read = c.in_ok-lines.ensures.numbers (ap (λ (n : ℕ). Ok n) (lines.0 ∙ rows.0)) in
    let numbers = numbers_of (8 * rows_in 65 (length sheet)) sheet in
    let long = numbers_length (8 * rows_in 65 (length sheet)) sheet in
    record { answer = case.0; table = c.put_numbers.ensures ∙ put table _ numbers _ (omega (arith, long)) (rw (← rows.0) at read) ∙ case.1 }
