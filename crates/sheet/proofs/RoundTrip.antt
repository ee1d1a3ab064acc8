-- A sheet that is read and written again is the same sheet, and a table that is written and read again is the same table, with lent
-- storage of any sufficient length, whose rest stays. Assumes nothing.
use Rattle.std.proofs.Common.{◌≡◌, refl, sym, ap, ap₂, ◌∙◌, Bool, true, false, cond, not, List, [], ◌∷◌, ◌++◌, ℕ, ◌+◌, ◌*◌, ◌/◌, ◌%◌, ◌<◌, ◌≤◌, arith, eqb, length, get_or, take, drop, take_all, take_at, take-suc, ne_eqb, le-ltb, ltb-false, eqb-true}
use mathlib.Core.Bool.{false≢true}
use lib.Seq.{get_or_at}
use borrow.Author.Tests.{eqb-false, not-false}
use Rattle.answer.specs.Told.{Told, counted, refusal, lent_space_short}
use Rattle.answer.specs.Length.{rows_in}
use Rattle.answer.specs.Lists.{joined, part, over}
use Rattle.answer.proofs.Lists.{part_length, part_at, part_append, joined_part, joined_same, joined_parts, joined_elements, joined_at}
use Rattle.sheet.specs.Field.{Field, Blank, Number, Misprint, field, is_number, value, printed}
use Rattle.sheet.specs.Line.{line}
use Rattle.sheet.specs.Sheet.{field_at, misprinted, numbers_of, reading, after_reading, lines_of, too_large, writing, after_writing, rows_read, bytes_written}
use Rattle.sheet.proofs.Fields.{field_below, field_printed, printed_field}
use Rattle.sheet.proofs.Sheets.{fields, field_long, fields_length, line_length, numbers_length, lines_length}
use Rattle.sheet.proofs.Answers.{Readable, Writable, accepted_readable, accepted_writable, readable_accepted, writable_accepted, writable_short}

-- Eight characters that are a field are its number printed.
field_of_number : (characters : List ℕ) → length characters ≡ 8 → is_number (field characters) ≡ true
    → printed (value (field characters)) ≡ characters
unfolding is_number value
field_of_number characters long number = go (field characters) refl number
  where
    go : (f : Field) → field characters ≡ f → is_number f ≡ true → printed (value f) ≡ characters
    go Blank e n = absurd (false≢true n)
    go (Number v) e n = sym (printed_field characters v long e)
    go Misprint e n = absurd (false≢true n)

-- From a sheet to its numbers and back.
module _ (sheet : List ℕ) (lines : ℕ) (readable : Readable sheet lines) where
  -- A field that is read is a number.
  read_field : (i j : ℕ) → i < lines → j < 8 → is_number (field (field_at sheet i j)) ≡ true
  unfolding misprinted
  read_field i j hi hj =
      let row : (9 * i + j) / 9 ≡ i = omega arith in
      let column : (9 * i + j) % 9 ≡ j = omega arith in
      let right : misprinted sheet (9 * i + j) ≡ false = readable.right (9 * i + j) (omega arith) in
      not-false _ (rw (row, column, ne_eqb j 8 (λ e. omega arith)) at right)

  -- A line that is read ends in byte 10.
  read_end : (i : ℕ) → i < lines → get_or (part 65 i sheet) 64 0 ≡ 10
  unfolding misprinted
  read_end i hi =
      let row : (9 * i + 8) / 9 ≡ i = omega arith in
      let column : (9 * i + 8) % 9 ≡ 8 = omega arith in
      let right : misprinted sheet (9 * i + 8) ≡ false = readable.right (9 * i + 8) (omega arith) in
      eqb-true _ 10 (not-false _ (rw (row, column) at right))

  -- The number that was read from a field, and the field it is printed as.
  read_number : (i j : ℕ) → i < lines → j < 8
      → get_or (part 8 i (numbers_of (8 * lines) sheet)) j 0 ≡ value (field (field_at sheet i j))
  unfolding numbers_of
  read_number i j hi hj =
      let row : (8 * i + j) / 8 ≡ i = omega arith in
      let column : (8 * i + j) % 8 ≡ j = omega arith in
      part_at 8 i (numbers_of (8 * lines) sheet) j hj
      ∙ joined_at (λ place. value (field (field_at sheet (place / 8) (place % 8)))) (8 * lines) (8 * i + j) (omega arith)
      ∙ rw (row, column)

  line_long : (i : ℕ) → i < lines → length (part 65 i sheet) ≡ 65
  line_long i hi = part_length 65 i sheet (omega (arith, readable.lengths.whole))

  field_at_long : (i j : ℕ) → i < lines → j < 8 → length (field_at sheet i j) ≡ 8
  unfolding field_at
  field_at_long i j hi hj = part_length 8 j (part 65 i sheet) (omega (arith, line_long i hi))

  read_printed : (i j : ℕ) → i < lines → j < 8 → fields (part 8 i (numbers_of (8 * lines) sheet)) j ≡ field_at sheet i j
  read_printed i j hi hj =
      ap printed (read_number i j hi hj) ∙ field_of_number (field_at sheet i j) (field_at_long i j hi hj) (read_field i j hi hj)

  -- The numbers of a line are printed as that line.
  read_line : (i : ℕ) → i < lines → line (part 8 i (numbers_of (8 * lines) sheet)) ≡ part 65 i sheet
  unfolding line field_at
  read_line i hi =
      let row = part 8 i (numbers_of (8 * lines) sheet) in
      let l = part 65 i sheet in
      ap₂ (λ (front : List ℕ) (end : ℕ). front ++ (end ∷ []))
      (joined_same (fields row) (λ j. part 8 j l) 8 (λ j hj. read_printed i j hi hj) ∙ joined_parts 8 8 l)
      (sym (read_end i hi))
      ∙ sym (take-suc l 64 0 (omega (arith, line_long i hi)))
      ∙ take_all 65 l (omega (arith, line_long i hi))

  read_again : lines_of lines (numbers_of (8 * lines) sheet) ≡ sheet
  unfolding lines_of
  read_again =
      joined_same (λ i. line (part 8 i (numbers_of (8 * lines) sheet))) (λ i. part 65 i sheet) lines read_line
      ∙ joined_parts 65 lines sheet
      ∙ take_all (65 * lines) sheet (omega (arith, readable.lengths.whole))

  -- What was read can be written.
  read_small : (place : ℕ) → place < 8 * lines → too_large (numbers_of (8 * lines) sheet) place ≡ false
  unfolding numbers_of too_large
  read_small place h =
      let characters = field_at sheet (place / 8) (place % 8) in
      let below = rw (field_at_long (place / 8) (place % 8) (omega arith) (omega arith)) at (field_below characters) in
      rw (joined_at (λ place. value (field (field_at sheet (place / 8) (place % 8)))) (8 * lines) place h)
      (le-ltb 99_999_999 (value (field characters)) (omega arith))

  read_writable : Writable (numbers_of (8 * lines) sheet) lines
  read_writable =
      record {
        lengths = record { some = readable.lengths.some; most = readable.lengths.most; whole = sym (numbers_length (8 * lines) sheet) };
        right = λ place h. read_small place (omega (arith, numbers_length (8 * lines) sheet));
      }

-- From a table to its lines and back.
module _ (table : List ℕ) (rows : ℕ) (writable : Writable table rows) where
  -- A field of what is written is a number printed.
  written_line : (i : ℕ) → i < rows → part 65 i (lines_of rows table) ≡ line (part 8 i table)
  unfolding lines_of
  written_line i hi = joined_part 65 (λ i. line (part 8 i table)) (λ i. line_length (part 8 i table)) rows i hi

  written_field : (i j : ℕ) → i < rows → j < 8 → field (field_at (lines_of rows table) i j) ≡ Number (get_or table (8 * i + j) 0)
  unfolding field_at line too_large
  written_field i j hi hj =
      let row = part 8 i table in
      let n = get_or table (8 * i + j) 0 in
      let fits : n ≤ 99_999_999 = ltb-false 99_999_999 n (writable.right (8 * i + j) (omega (arith, writable.lengths.whole))) in
      ap (λ (l : List ℕ). field (part 8 j l)) (written_line i hi)
      ∙ ap field (part_append 8 j (joined 8 (fields row)) (10 ∷ []) (omega (arith, fields_length row 8)))
      ∙ ap field (joined_part 8 (fields row) (field_long row) 8 j hj)
      ∙ ap (λ (k : ℕ). field (printed k)) (part_at 8 i table j hj)
      ∙ field_printed n (omega arith)

  written_end : (i : ℕ) → i < rows → get_or (part 65 i (lines_of rows table)) 64 0 ≡ 10
  unfolding line
  written_end i hi =
      let row = part 8 i table in
      ap (λ (l : List ℕ). get_or l 64 0) (written_line i hi) ∙ get_or_at (joined 8 (fields row)) 10 [] 0 64 (fields_length row 8)

  written_again : numbers_of (8 * rows) (lines_of rows table) ≡ table
  unfolding numbers_of value
  written_again =
      joined_same
      (λ place. value (field (field_at (lines_of rows table) (place / 8) (place % 8))) ∷ [])
      (λ place. get_or table place 0 ∷ [])
      (8 * rows)
      (λ place h.
      let same : 8 * (place / 8) + place % 8 ≡ place = omega arith in
      ap (λ (f : Field). value f ∷ []) (written_field (place / 8) (place % 8) (omega arith) (omega arith))
      ∙ ap (λ (k : ℕ). get_or table k 0 ∷ []) same)
      ∙ joined_elements (8 * rows) table (omega (arith, writable.lengths.whole))
      ∙ take_all (8 * rows) table (omega (arith, writable.lengths.whole))

  -- What was written can be read.
  written_right : (place : ℕ) → place < 9 * rows → misprinted (lines_of rows table) place ≡ false
  unfolding misprinted is_number
  written_right place h = go (eqb (place % 9) 8) refl
    where
      go : (b : Bool) → eqb (place % 9) 8 ≡ b
          → cond b (not (eqb (get_or (part 65 (place / 9) (lines_of rows table)) 64 0) 10))
          (not (is_number (field (field_at (lines_of rows table) (place / 9) (place % 9)))))
          ≡ false
      go true e = rw (written_end (place / 9) (omega arith))
      go false e =
          let column : place % 9 ≡ 8 → ⊥ = eqb-false (place % 9) 8 e in
          rw (written_field (place / 9) (place % 9) (omega arith) (omega arith))

  written_readable : Readable (lines_of rows table) rows
  written_readable =
      record {
        lengths = record { some = writable.lengths.some; most = writable.lengths.most; whole = sym (lines_length rows table) };
        right = written_right;
      }

-- The rows that were read, and the bytes that were written, are the definitions' own.
rows_read_lem : (sheet table : List ℕ) → (reading sheet (length table)).number ≡ 0
    → rows_read sheet table ≡ numbers_of (8 * rows_in 65 (length sheet)) sheet
unfolding over
rows_read_lem sheet table accepted =
    let lines = rows_in 65 (length sheet) in
    let readable = accepted_readable sheet (length table) accepted in
    let read = readable_accepted sheet table lines readable.0 readable.1 in
    let numbers = numbers_of (8 * lines) sheet in
    ap₂ (λ (a : Told) (l : List ℕ). take (8 * a.count) l) (sym read.0) (sym read.1)
    ∙ take_at numbers (drop (length numbers) table) (8 * lines) (numbers_length (8 * lines) sheet)

bytes_written_lem : (table sheet : List ℕ) → (writing table (length sheet)).number ≡ 0
    → bytes_written table sheet ≡ lines_of (rows_in 8 (length table)) table
unfolding over
bytes_written_lem table sheet accepted =
    let rows = rows_in 8 (length table) in
    let writable = accepted_writable table (length sheet) accepted in
    let written = writable_accepted table sheet rows writable.0 writable.1 in
    let lines = lines_of rows table in
    ap₂ (λ (a : Told) (l : List ℕ). take a.count l) (sym written.0) (sym written.1)
    ∙ take_at lines (drop (length lines) sheet) (65 * rows) (lines_length rows table)

-- What is after those rows, or after those bytes, stays.
pub read_rest : (sheet table : List ℕ) → (reading sheet (length table)).number ≡ 0
    → after_reading sheet table ≡ rows_read sheet table ++ drop (length (rows_read sheet table)) table
unfolding over
read_rest sheet table accepted =
    let readable = accepted_readable sheet (length table) accepted in
    rw (rows_read_lem sheet table accepted) (sym (readable_accepted sheet table _ readable.0 readable.1).1)

pub written_rest : (table sheet : List ℕ) → (writing table (length sheet)).number ≡ 0
    → after_writing table sheet ≡ bytes_written table sheet ++ drop (length (bytes_written table sheet)) sheet
unfolding over
written_rest table sheet accepted =
    let writable = accepted_writable table (length sheet) accepted in
    rw (bytes_written_lem table sheet accepted) (sym (writable_accepted table sheet _ writable.0 writable.1).1)

-- A sheet that is read and written again is the same sheet, byte for byte. Where too little is lent for that, it is said, and no
-- byte changes.
module _ (sheet table bytes : List ℕ) (accepted : (reading sheet (length table)).number ≡ 0) where
  pub read_then_write : length sheet ≤ length bytes
      → (writing (rows_read sheet table) (length bytes) ≡ counted (length sheet))
      × (after_writing (rows_read sheet table) bytes ≡ sheet ++ drop (length sheet) bytes)
  unfolding over
  read_then_write room =
      let lines = rows_in 65 (length sheet) in
      let readable = (accepted_readable sheet (length table) accepted).0 in
      let numbers = numbers_of (8 * lines) sheet in
      let written = writable_accepted numbers bytes lines (read_writable sheet lines readable) (omega (arith, readable.lengths.whole)) in
      rw (rows_read_lem sheet table accepted) (
        sym written.0 ∙ ap counted readable.lengths.whole,
        sym written.1 ∙ ap (λ (l : List ℕ). l ++ drop (length l) bytes) (read_again sheet lines readable),
      )

  pub read_then_short : length bytes < length sheet
      → (writing (rows_read sheet table) (length bytes) ≡ refusal lent_space_short 0 0)
      × (after_writing (rows_read sheet table) bytes ≡ bytes)
  read_then_short short =
      let lines = rows_in 65 (length sheet) in
      let readable = (accepted_readable sheet (length table) accepted).0 in
      let numbers = numbers_of (8 * lines) sheet in
      let refused = writable_short numbers bytes lines (read_writable sheet lines readable) (omega (arith, readable.lengths.whole)) in
      rw (rows_read_lem sheet table accepted) (sym refused.0, sym refused.1)

-- A table that is written and read again is the same table, number for number.
pub write_then_read : (table sheet numbers : List ℕ) → (writing table (length sheet)).number ≡ 0 → length table ≤ length numbers
    → (reading (bytes_written table sheet) (length numbers) ≡ counted (length table / 8))
    × (after_reading (bytes_written table sheet) numbers ≡ table ++ drop (length table) numbers)
unfolding over
write_then_read table sheet numbers accepted room =
    let rows = rows_in 8 (length table) in
    let writable = (accepted_writable table (length sheet) accepted).0 in
    let bytes = lines_of rows table in
    let read = readable_accepted bytes numbers rows (written_readable table rows writable) (omega (arith, writable.lengths.whole)) in
    let whole : rows ≡ length table / 8 = omega (arith, writable.lengths.whole) in
    rw (bytes_written_lem table sheet accepted) (
      sym read.0 ∙ ap counted whole,
      sym read.1 ∙ ap (λ (l : List ℕ). l ++ drop (length l) numbers) (written_again table rows writable),
    )
