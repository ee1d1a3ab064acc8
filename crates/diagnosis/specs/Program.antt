-- The whole program on slices, from a sheet's bytes to its report's or to the refusal: reading, judging, scoring and printing in turn.
use Rattle.std.specs.Prelude.{cond, List, ℕ, ◌*◌, length, replicate}
use Rattle.answer.specs.Told.{Told, accepts}
use Rattle.answer.specs.Length.{most_rows, rows_in}
use Rattle.answer.specs.Lists.{over}
use Rattle.sheet.specs.Sheet.{numbers_of, reading}
use Rattle.diagnosis.specs.Report.{report_bytes, reporting, refusal_line}

-- The program reads into a table of its own, as long as the longest.
abbrev pub most_numbers : ℕ
most_numbers = 8 * most_rows

-- The table of a sheet that can be read.
unfoldable pub table_of : List ℕ → List ℕ
table_of sheet = numbers_of (8 * rows_in 65 (length sheet)) sheet

-- The answer of writing a sheet's report into `lent` bytes: the refusal of reading the sheet, or the answer of writing its table's report.
unfoldable pub diagnosing : List ℕ → ℕ → Told
diagnosing sheet lent = cond (accepts (reading sheet most_numbers)) (reporting (table_of sheet) lent) (reading sheet most_numbers)

-- The lent bytes afterwards.
unfoldable pub after_diagnosing : List ℕ → List ℕ → List ℕ
after_diagnosing sheet report = cond (accepts (diagnosing sheet (length report))) (over report (report_bytes (table_of sheet))) report

-- What the program prints

-- The longest report has seven lines, so with so many bytes lent 9 is never told.
abbrev pub most_report_bytes : ℕ
most_report_bytes = 65 * 7

-- "The scoring program reads a sheet on standard input and prints" its report. "For a refused sheet it prints one line alone."
unfoldable pub output : List ℕ → List ℕ
output sheet =
    let answer = diagnosing sheet most_report_bytes in
    cond (accepts answer) (report_bytes (table_of sheet)) (refusal_line answer.number answer.row answer.column)

-- As many bytes as the longest report has: what is printed, and then 0s.
unfoldable pub output_bytes : List ℕ → List ℕ
output_bytes sheet = over (replicate most_report_bytes 0) (output sheet)
