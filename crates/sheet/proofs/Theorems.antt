-- The sheet's theorems on one page, each with its statement in full and a citation for its proof. They are about demand 2 of the
-- customer: a sheet read and written again is the same sheet, and a valid table written and read again is the same table. A table is
-- valid where the writer accepts it. The words of the statements are defined in specs/Field.antt and specs/Sheet.antt, and in
-- Told.antt, Length.antt, Text.antt and Houses.antt of crates/answer/specs/. Assumes nothing.
use Rattle.std.proofs.Common.{◌≡◌, List, ◌++◌, ℕ, ◌*◌, ◌/◌, ◌<◌, ◌≤◌, eqb, length, drop, replicate}
use Rattle.answer.specs.Told.{counted, refusal, lent_space_short}
use Rattle.answer.specs.Length.{most_rows}
use Rattle.answer.specs.Text.{bytes}
use Rattle.answer.specs.Houses.{p1, p1_sheet}
use Rattle.sheet.specs.Field.{Number, Misprint, field, printed}
use Rattle.sheet.specs.Sheet.{reading, after_reading, writing, after_writing, rows_read, bytes_written}
use Rattle.sheet.proofs.Fields as fields
use Rattle.sheet.proofs.Answers as answers
use Rattle.sheet.proofs.RoundTrip as round_trip
use Rattle.sheet.proofs.Examples as examples

-- A field. A number of up to eight digits, printed, is a field that is read as that number;
pub field_printed : (n : ℕ) → n < 100_000_000 → field (printed n) ≡ Number n
field_printed = fields.field_printed

-- and eight characters that are read as a number are that number printed. So each number has one field.
pub printed_field : (characters : List ℕ) (n : ℕ) → length characters ≡ 8 → field characters ≡ Number n → characters ≡ printed n
printed_field = fields.printed_field

-- The largest number of a field is 99,999,999. The one after it has nine digits, and its last eight are no field.
pub largest_field : (printed 99_999_999 ≡ bytes "99999999")
    × (field (bytes "99999999") ≡ Number 99_999_999)
    × (field (printed 100_000_000) ≡ Misprint)
largest_field = examples.largest_field

-- Reading. After a sheet that is accepted, the rows that were read stand at the table's front, and the numbers after them stay.
pub read_rest : (sheet table : List ℕ) → (reading sheet (length table)).number ≡ 0
    → after_reading sheet table ≡ rows_read sheet table ++ drop (length (rows_read sheet table)) table
read_rest = round_trip.read_rest

-- A table with room for the longest sheet is never too short, whatever the sheet.
pub never_short : (sheet : List ℕ) (lent : ℕ) → 8 * most_rows ≤ lent → (reading sheet lent).number ≡ lent_space_short → ⊥
never_short = answers.never_short

-- The longest sheet has 312 lines, 20,280 bytes, for which 2,495 numbers are one too few; a line more is refusal 1.
pub longest_sheet : (reading (replicate 20_280 32) 2_495 ≡ refusal 9 0 0) × (reading (replicate 20_345 32) 2_504 ≡ refusal 1 0 0)
longest_sheet = examples.longest_sheet

-- Writing. After a table that is accepted, the bytes that were written stand at the front, and the bytes after them stay.
pub written_rest : (table sheet : List ℕ) → (writing table (length sheet)).number ≡ 0
    → after_writing table sheet ≡ bytes_written table sheet ++ drop (length (bytes_written table sheet)) sheet
written_rest = round_trip.written_rest

-- What either is told is a count just where the number is 0, so a host can tell by the number.
pub reading_by_number : (sheet : List ℕ) (lent : ℕ) → (reading sheet lent).is_count ≡ eqb (reading sheet lent).number 0
reading_by_number = answers.reading_by_number

pub writing_by_number : (table : List ℕ) (lent : ℕ) → (writing table lent).is_count ≡ eqb (writing table lent).number 0
writing_by_number = answers.writing_by_number

-- The round trip. A sheet that was read into any table is, when the rows that were read are written again, the same sheet, byte for
-- byte; the count is its length, and the bytes after it stay.
pub read_then_write : (sheet table lent : List ℕ) → (reading sheet (length table)).number ≡ 0 → length sheet ≤ length lent
    → (writing (rows_read sheet table) (length lent) ≡ counted (length sheet))
    × (after_writing (rows_read sheet table) lent ≡ sheet ++ drop (length sheet) lent)
read_then_write = round_trip.read_then_write

-- Where fewer bytes are lent than the sheet has, refusal 9 is due, and no byte changes.
pub read_then_short : (sheet table lent : List ℕ) → (reading sheet (length table)).number ≡ 0 → length lent < length sheet
    → (writing (rows_read sheet table) (length lent) ≡ refusal lent_space_short 0 0)
    × (after_writing (rows_read sheet table) lent ≡ lent)
read_then_short = round_trip.read_then_short

-- A table that was written into any bytes is, when the bytes that were written are read again, the same table, number for number;
-- the count is its rows, and the numbers after it stay.
pub write_then_read : (table sheet numbers : List ℕ) → (writing table (length sheet)).number ≡ 0 → length table ≤ length numbers
    → (reading (bytes_written table sheet) (length numbers) ≡ counted (length table / 8))
    × (after_reading (bytes_written table sheet) numbers ≡ table ++ drop (length table) numbers)
write_then_read = round_trip.write_then_read

-- P1 of document 01 both ways. Its sheet is read into 104 numbers that are all 7: twelve rows, P1's table, and the last eight stay 7.
-- Its table is written into 785 bytes that are all 7: 780 bytes, P1's sheet, and the last five stay 7. With 779 bytes it is refusal 9,
-- and they all stay 7.
pub p1_round_trip :
    ((reading p1_sheet 104 ≡ counted 12)
    × (rows_read p1_sheet (replicate 104 7) ≡ p1)
    × (after_reading p1_sheet (replicate 104 7) ≡ p1 ++ replicate 8 7))
    × ((writing p1 785 ≡ counted 780)
    × (bytes_written p1 (replicate 785 7) ≡ p1_sheet)
    × (after_writing p1 (replicate 785 7) ≡ p1_sheet ++ replicate 5 7))
    × ((writing p1 779 ≡ refusal 9 0 0)
    × (after_writing p1 (replicate 779 7) ≡ replicate 779 7))
p1_round_trip = (examples.p1_read_in, examples.p1_written_out, examples.p1_too_short)
