-- Examples by computation, so that each word of the theorems is seen with numbers: P1 of document 01 read and written, with more lent than it needs
-- and with a byte too few; the largest number of a field; the longest sheet; a line of P1's report as document 01 prints it. Then the
-- theorems of the round trip applied to P1, which meets their premises. Assumes nothing.
use Rattle.std.proofs.Common.{◌≡◌, refl, ap, [], ◌∷◌, ◌++◌, arith, replicate}
use Rattle.answer.specs.Houses.{p1, p1_sheet}
use Rattle.answer.specs.Told.{Told, counted, refusal}
use Rattle.answer.specs.First.{first}
use Rattle.answer.specs.Length.{rows_in}
use Rattle.answer.specs.Text.{bytes}
use Rattle.answer.specs.Lists.{joined, part, over}
use Rattle.sheet.specs.Field.{Number, Misprint, digit_after, after, field, is_number, value, digit_or_space, printed}
use Rattle.sheet.specs.Line.{line}
use Rattle.sheet.specs.Sheet.{field_at, misprinted, numbers_of, reading, after_reading, lines_of, too_large, writing, after_writing, rows_read, bytes_written}
use Rattle.sheet.proofs.RoundTrip.{read_then_write, read_then_short, write_then_read}

-- The largest number of a field. The one after it has nine digits, and its last eight are no field.
pub largest_field : (printed 99_999_999 ≡ bytes "99999999")
    × (field (bytes "99999999") ≡ Number 99_999_999)
    × (field (printed 100_000_000) ≡ Misprint)
unfolding printed digit_or_space field after digit_after
largest_field = (refl, refl, refl)

-- The longest sheet has 312 lines, and needs 2,496 numbers. Both refusals come before any character is judged.
pub longest_sheet : (reading (replicate 20_280 32) 2_495 ≡ refusal 9 0 0) × (reading (replicate 20_345 32) 2_504 ≡ refusal 1 0 0)
unfolding reading rows_in
longest_sheet = (refl, refl)

-- P1 read into a table that is a row longer than it needs,
p1_read : reading p1_sheet 104 ≡ counted 12
unfolding reading rows_in first misprinted field_at part field after digit_after is_number
p1_read = refl

p1_numbers : numbers_of 96 p1_sheet ≡ p1
unfolding numbers_of joined field_at part field after digit_after value
p1_numbers = refl

p1_table_after : after_reading p1_sheet (replicate 104 7) ≡ p1 ++ replicate 8 7
unfolding after_reading rows_in over
p1_table_after = rw (p1_read, p1_numbers)

-- written into five bytes more than it needs,
p1_written : writing p1 785 ≡ counted 780
unfolding writing rows_in first too_large
p1_written = refl

p1_lines : lines_of 12 p1 ≡ p1_sheet
unfolding lines_of joined part line printed digit_or_space
p1_lines = refl

p1_bytes_after : after_writing p1 (replicate 785 7) ≡ p1_sheet ++ replicate 5 7
unfolding after_writing rows_in over
p1_bytes_after = rw (p1_written, p1_lines)

-- and with a byte too few.
p1_short : writing p1 779 ≡ refusal 9 0 0
unfolding writing rows_in first too_large
p1_short = refl

p1_bytes_stay : after_writing p1 (replicate 779 7) ≡ replicate 779 7
unfolding after_writing
p1_bytes_stay = rw p1_short

pub p1_read_in : (reading p1_sheet 104 ≡ counted 12) × (rows_read p1_sheet (replicate 104 7) ≡ p1) × (after_reading p1_sheet (replicate 104 7) ≡ p1 ++ replicate 8 7)
p1_read_in = (p1_read, rw (p1_read, p1_table_after), p1_table_after)

pub p1_written_out :
    (writing p1 785 ≡ counted 780) × (bytes_written p1 (replicate 785 7) ≡ p1_sheet) × (after_writing p1 (replicate 785 7) ≡ p1_sheet ++ replicate 5 7)
p1_written_out = (p1_written, rw (p1_written, p1_bytes_after), p1_bytes_after)

pub p1_too_short : (writing p1 779 ≡ refusal 9 0 0) × (after_writing p1 (replicate 779 7) ≡ replicate 779 7)
p1_too_short = (p1_short, p1_bytes_stay)

-- The theorems of the round trip say the same of P1.
p1_again : after_writing (rows_read p1_sheet (replicate 104 7)) (replicate 785 7) ≡ p1_sheet ++ replicate 5 7
p1_again = (read_then_write p1_sheet (replicate 104 7) (replicate 785 7) (ap (λ (a : Told). a.number) p1_read) (omega arith)).1

p1_again_short : writing (rows_read p1_sheet (replicate 104 7)) 779 ≡ refusal 9 0 0
p1_again_short = (read_then_short p1_sheet (replicate 104 7) (replicate 779 7) (ap (λ (a : Told). a.number) p1_read) (omega arith)).0

p1_back : after_reading (bytes_written p1 (replicate 785 7)) (replicate 104 7) ≡ p1 ++ replicate 8 7
p1_back = (write_then_read p1 (replicate 785 7) (replicate 104 7) (ap (λ (a : Told). a.number) p1_written) (omega arith)).1

-- The report's first line.
report_line : line (6 ∷ 1 ∷ 1 ∷ 920 ∷ 1600 ∷ 100 ∷ 83 ∷ 47 ∷ [])
    ≡ bytes "       6       1       1     920    1600     100      83      47\n"
unfolding line joined printed digit_or_space
report_line = refl
