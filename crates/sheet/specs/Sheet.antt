-- A sheet read into a lent table, and a table written as a sheet. Document 01, "The sheet and the table" and "What a refused sheet is
-- told": "Reading tests 1, then 9, then 2 from the top, leftmost field first"; "The writer tests 1, 4 (..), 9".
use Rattle.std.specs.Prelude.{ℕ, ◌+◌, ◌*◌, ◌/◌, ◌%◌, Bool, cond, not, List, [], ◌∷◌, length, get_or, take, eqb, ltb, Option, Some, None, Result, Ok, Err}
use Rattle.answer.specs.Told.{Told, counted, refusal, accepts, sheet_length, misprint, out_of_range, lent_space_short}
use Rattle.answer.specs.declared.refusal.Reason.{Reason}
use Rattle.answer.specs.declared.refusal.Reason.TheVariants.{Misprint}
use Rattle.answer.specs.declared.refusal.Refusal.{Refusal}
use Rattle.answer.specs.First.{first}
use Rattle.answer.specs.Length.{rows_in}
use Rattle.answer.specs.Lists.{joined, part, over}
use Rattle.sheet.specs.Field.{field, is_number, value}
use Rattle.sheet.specs.Line.{line}

-- The refusal at a place. Places count from 0, from the top and from the left, `columns` to a row.
unfoldable pub refusal_at : ℕ → ℕ → ℕ → Told
refusal_at number columns at = refusal number (at / columns + 1) (at % columns + 1)

-- The refusal at a row and a column that count from 0, as the code has it.
abbrev pub placed : Reason → ℕ → ℕ → Refusal
placed reason row column = record { reason = reason; row = row + 1; column = column + 1 }

-- Reading

-- Field j of line i of a sheet, both from 0.
unfoldable pub field_at : List ℕ → ℕ → ℕ → List ℕ
field_at sheet i j = part 8 j (part 65 i sheet)

-- Whether refusal 2 is due at a place. A line has nine places: its eight fields, and then its last byte, which must be 10.
unfoldable pub misprinted : List ℕ → ℕ → Bool
misprinted sheet place =
    cond (eqb (place % 9) 8) (not (eqb (get_or (part 65 (place / 9) sheet) 64 0) 10))
    (not (is_number (field (field_at sheet (place / 9) (place % 9)))))

-- The first `count` numbers of a sheet, eight to a line.
unfoldable pub numbers_of : ℕ → List ℕ → List ℕ
numbers_of count sheet = joined count (λ place. value (field (field_at sheet (place / 8) (place % 8))) ∷ [])

-- The line at a row read: its numbers, or the refusal of its first misprint.
unfoldable pub line_read : ℕ → List ℕ → Result (List ℕ) Refusal
line_read row line =
    let column = first (misprinted line) 9 in
    cond (ltb column 9) (Err (placed Misprint row column)) (Ok (numbers_of 8 line))

-- The same where the numbers are written into what is lent.
abbrev pub with_numbers : Result (Unit {0}) Refusal → List ℕ → Result (List ℕ) Refusal
with_numbers (Ok _) numbers = Ok numbers
with_numbers (Err r) numbers = Err r

-- What is told of so many lines of a sheet: the refusal of their first misprint, or their count.
abbrev pub lines_read : List ℕ → ℕ → Told
lines_read sheet lines =
    let at = first (misprinted sheet) (9 * lines) in
    cond (ltb at (9 * lines)) (refusal_at misprint 9 at) (counted lines)

-- The answer of reading a sheet into a table of `lent` numbers.
unfoldable pub reading : List ℕ → ℕ → Told
reading sheet lent =
    let lines = rows_in 65 (length sheet) in
    cond (eqb lines 0) (refusal sheet_length 0 0)
    (cond (ltb lent (8 * lines)) (refusal lent_space_short 0 0)
    (lines_read sheet lines))

-- The lent table afterwards.
unfoldable pub after_reading : List ℕ → List ℕ → List ℕ
after_reading sheet table =
    cond (accepts (reading sheet (length table))) (over table (numbers_of (8 * rows_in 65 (length sheet)) sheet)) table

-- Writing

-- The first `rows` rows of a table, each printed as a line.
unfoldable pub lines_of : ℕ → List ℕ → List ℕ
lines_of rows table = joined rows (λ i. line (part 8 i table))

-- Lent bytes with a table's whole rows printed at their front, where they have room for all of them.
unfoldable pub after_printing : List ℕ → List ℕ → List ℕ
after_printing table sheet =
    cond (ltb (length sheet) (65 * (length table / 8))) sheet (over sheet (lines_of (length table / 8) table))

-- Whether refusal 4 is due at a place, eight to a row: a number over 99,999,999.
unfoldable pub too_large : List ℕ → ℕ → Bool
too_large table place = ltb 99_999_999 (get_or table place 0)

-- The first place of a number too large, if there is one.
unfoldable pub large_place : List ℕ → Option ℕ
large_place table =
    let at = first (too_large table) (length table) in
    cond (ltb at (length table)) (Some at) None

-- The answer of writing a table into `lent` bytes.
unfoldable pub writing : List ℕ → ℕ → Told
writing table lent =
    let rows = rows_in 8 (length table) in
    let at = first (too_large table) (length table) in
    cond (eqb rows 0) (refusal sheet_length 0 0)
    (cond (ltb at (length table)) (refusal_at out_of_range 8 at)
    (cond (ltb lent (65 * rows)) (refusal lent_space_short 0 0)
    (counted (65 * rows))))

-- The lent bytes afterwards.
unfoldable pub after_writing : List ℕ → List ℕ → List ℕ
after_writing table sheet =
    cond (accepts (writing table (length sheet))) (over sheet (lines_of (rows_in 8 (length table)) table)) sheet

-- Reading and writing again. Document 01: "reports how many rows it wrote", "reports the bytes written".

-- The rows that reading a sheet into a table wrote: as many as it counted, from the table's front.
abbrev pub rows_read : List ℕ → List ℕ → List ℕ
rows_read sheet table = take (8 * (reading sheet (length table)).count) (after_reading sheet table)

-- The bytes that writing a table into a sheet wrote: as many as it counted, from the sheet's front.
abbrev pub bytes_written : List ℕ → List ℕ → List ℕ
bytes_written table sheet = take (writing table (length sheet)).count (after_writing table sheet)
