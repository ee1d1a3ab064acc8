-- The report of a table. Document 01, "Score and verdict": "prints, in the sheet's own columns, for each storey and direction: 6; storey;
-- direction; held in 0.01 kN rounded down; required in 0.01 kN rounded up; layout; deterioration in hundredths rounded down; score. Then 7;
-- verdict; least score; five 0s."
use Rattle.std.specs.Prelude.{cond, List, [], ◌∷◌, ◌++◌, ℕ, ◌+◌, ◌-◌, ◌*◌, ◌/◌, length, ltb}
use Rattle.answer.specs.Told.{Told, counted, refusal, refusal_row, accepts, lent_space_short}
use Rattle.answer.specs.Lists.{joined, over}
use Rattle.sheet.specs.Line.{line}
use Rattle.sheet.specs.Sheet.{lines_of}
use Rattle.survey.specs.Table.{storeys}
use Rattle.survey.specs.Judgement.{judging}
use Rattle.method.specs.declared.deterioration.Fraction.{Fraction}
use Rattle.method.specs.Score.{verdict}
use Rattle.diagnosis.specs.declared.assessment.Assessment.{Assessment}
use Rattle.diagnosis.specs.House.{assessment, deterioration, least_score}

-- How many of a unit a number is, rounded down and rounded up.
abbrev pub rounded_down : ℕ → ℕ → ℕ
rounded_down n unit = n / unit

abbrev pub rounded_up : ℕ → ℕ → ℕ
rounded_up n unit = (n + (unit - 1)) / unit

-- 0.01 kN in the units of held and of required strength.
abbrev pub held_unit : ℕ
held_unit = 10_000

abbrev pub required_unit : ℕ
required_unit = 10_000_000

-- A fraction in hundredths.
abbrev pub in_hundredths : Fraction → ℕ
in_hundredths f = rounded_down (100 * f.upper) f.lower

-- The row of a storey and direction, by what is worked out for it.
abbrev pub result_row : ℕ → ℕ → Assessment → Fraction → List ℕ
result_row storey direction found factor =
    6 ∷ storey ∷ direction ∷ rounded_down found.held held_unit ∷ rounded_up found.required required_unit ∷ found.layout
    ∷ in_hundredths factor ∷ found.score ∷ []

abbrev pub storey_rows : List ℕ → ℕ → List ℕ
storey_rows table storey =
    result_row storey 1 (assessment table storey 1) (deterioration table) ++ result_row storey 2 (assessment table storey 2) (deterioration table)

-- The rows of every storey and direction.
unfoldable pub result_rows : List ℕ → List ℕ
result_rows table = joined (storeys table) (λ below. storey_rows table (below + 1))

-- The row of the verdict, by the least score.
abbrev pub verdict_row : ℕ → List ℕ
verdict_row least = 7 ∷ verdict least ∷ least ∷ 0 ∷ 0 ∷ 0 ∷ 0 ∷ 0 ∷ []

-- The report's rows, and how many they are.
unfoldable pub report_rows : List ℕ → List ℕ
report_rows table = result_rows table ++ verdict_row (least_score table)

abbrev pub report_lines : List ℕ → ℕ
report_lines table = 2 * storeys table + 1

-- And its bytes.
unfoldable pub report_bytes : List ℕ → List ℕ
report_bytes table = lines_of (report_lines table) (report_rows table)

-- The answer of writing a table's report into `lent` bytes: the refusal of judging it, 9 last, or the count of bytes.
unfoldable pub reporting : List ℕ → ℕ → Told
reporting table lent =
    cond (accepts (judging table))
    (cond (ltb lent (65 * report_lines table)) (refusal lent_space_short 0 0) (counted (65 * report_lines table)))
    (judging table)

-- The lent bytes afterwards.
unfoldable pub after_reporting : List ℕ → List ℕ → List ℕ
after_reporting table report = cond (accepts (reporting table (length report))) (over report (report_bytes table)) report

-- The one line that is printed for a refused sheet.
unfoldable pub refusal_line : ℕ → ℕ → ℕ → List ℕ
refusal_line number row column = line (refusal_row number row column)
