-- What only the code needs. No promise to callers and no theorem is stated with these.
use Rattle.std.specs.Prelude.{◌≡◌, Bool, cond, Option, Some, None, List, ◌++◌, ℕ, ◌+◌, ◌*◌, ◌≤◌, length, get_or, map, ltb}
use Rattle.answer.specs.Told.{Told, counted, refusal, lent_space_short}
use Rattle.answer.specs.Lists.{joined, over}
use Rattle.sheet.specs.Sheet.{lines_of}
use Rattle.survey.specs.Table.{storeys}
use Rattle.method.specs.declared.rows.House.{House}
use Rattle.method.specs.declared.rows.HousePart.{HousePart}
use Rattle.method.specs.declared.deterioration.Fraction.{Fraction}
use Rattle.method.specs.Held.{held_strength, most_held}
use Rattle.method.specs.Required.{required_strength}
use Rattle.method.specs.LayoutFactor.{band}
use Rattle.method.specs.declared.scores.Quotient.{Quotient}
use Rattle.method.specs.Score.{verdict}
use Rattle.diagnosis.specs.declared.accepted.Direction.{Direction}
use Rattle.diagnosis.specs.declared.accepted.Direction.TheVariants.{X, Y}
use Rattle.diagnosis.specs.declared.accepted.End.{End}
use Rattle.diagnosis.specs.declared.accepted.End.TheVariants.{A, B}
use Rattle.diagnosis.specs.declared.held.HeldSums.{HeldSums}
use Rattle.diagnosis.specs.declared.assessment.Assessment.{Assessment}
use Rattle.diagnosis.specs.declared.assessment.HouseAssessment.{HouseAssessment}
use Rattle.diagnosis.specs.Rows.{end_a, end_b}
use Rattle.diagnosis.specs.House.{InHouse, share, in_direction, solid_at_end, held, end_held, narrow, deterioration, scores_with, least_of, assessment_with}
use Rattle.diagnosis.specs.Answers.{ToldRecord, counted_as}
use Rattle.diagnosis.specs.Report.{result_row, verdict_row}
use Rattle.diagnosis.specs.Premises.{six, storey_at, direction_at, no_assessment}

-- The numbers of the code's directions and ends.
abbrev pub direction_number : Direction → ℕ
direction_number X = 1
direction_number Y = 2

abbrev pub end_number : End → ℕ
end_number A = end_a
end_number B = end_b

-- The band of an end, by its storey's narrow factor and what its solid walls hold, which are given.
abbrev pub part_band : House → HousePart → ℕ → ℕ → ℕ
part_band house end narrow held = band (record { held = held; required = required_strength house end narrow })

-- The sums over a storey's walls

-- The three sums over the first n walls of a storey: all walls in a direction, and the solid ones at its ends.
abbrev pub sums_over : House → ℕ → List ℕ → ℕ → ℕ → HeldSums
sums_over house storey walls direction n = record {
  all = held_strength (in_direction walls direction) (share house storey walls) n;
  a = held_strength (solid_at_end walls direction end_a) (share house storey walls) n;
  b = held_strength (solid_at_end walls direction end_b) (share house storey walls) n;
}

-- Such sums and what one wall counts, none of them above 60,000 kN, so that a 64-bit number holds what they add up to.
pub record Addable (sums : HeldSums) (counted : ℕ) : Type 0 where
  pub all_most : sums.all ≤ most_held
  pub a_most : sums.a ≤ most_held
  pub b_most : sums.b ≤ most_held
  pub counted_most : counted ≤ most_held

-- Such sums with one wall more, by its row and by what it counts.
abbrev pub with_wall : List ℕ → ℕ → ℕ → HeldSums → HeldSums
with_wall wall direction counted sums = record {
  all = sums.all + cond (in_direction wall direction 0) counted 0;
  a = sums.a + cond (solid_at_end wall direction end_a 0) counted 0;
  b = sums.b + cond (solid_at_end wall direction end_b 0) counted 0;
}

-- No walls hold nothing.
abbrev pub no_sums : HeldSums
no_sums = record { all = 0; a = 0; b = 0 }

-- What a storey holds in a direction, whole and at each end; the whole is given, or what the storey's own walls hold.
abbrev pub sums_with : List ℕ → (ℕ → ℕ → ℕ) → ℕ → ℕ → HeldSums
sums_with table held storey direction = record {
  all = held storey direction;
  a = end_held table storey direction end_a;
  b = end_held table storey direction end_b;
}

abbrev pub held_sums : List ℕ → ℕ → ℕ → HeldSums
held_sums table = sums_with table (held table)

-- What is held in each storey and direction: what six given numbers say, or else what the storeys' own walls hold.
abbrev pub held_by : List ℕ → Option (List ℕ) → ℕ → ℕ → ℕ
held_by table None = held table
held_by table (Some given) = counted_as given

-- A house worked out

-- A storey and direction of a house, by what it holds, which is any strength up to 60,000 kN, what its ends hold, and the house's deterioration factor:
-- all of these are given.
pub record Assessable (table : List ℕ) (storey direction : ℕ) (sums : HeldSums) (factor : Fraction) : Type 0 where
  pub in_house : InHouse table storey direction
  pub all_most : sums.all ≤ most_held
  pub a_is : sums.a ≡ end_held table storey direction end_a
  pub b_is : sums.b ≡ end_held table storey direction end_b
  pub factor_is : factor ≡ deterioration table

-- Place by place, and all of it, by what is held in each storey and direction.
abbrev pub assessment_at : List ℕ → (ℕ → ℕ → ℕ) → ℕ → Assessment
assessment_at table held at = assessment_with table (held (storey_at at) (direction_at at)) (storey_at at) (direction_at at)

abbrev pub places_of : List ℕ → (ℕ → ℕ → ℕ) → ℕ → List Assessment
places_of table held count = six count no_assessment (assessment_at table held)

pub record WorkedOut (table : List ℕ) (held : ℕ → ℕ → ℕ) (found : HouseAssessment) : Type 0 where
  pub places : found.places ≡ places_of table held (2 * storeys table)
  pub count : found.count ≡ 2 * storeys table
  pub least : found.least ≡ least_of (scores_with table held)
  pub factor : found.factor ≡ deterioration table

-- Its record, by whether work started by 31 May 1981, which is given.
abbrev pub record_by : HouseAssessment → Bool → ToldRecord
record_by found started =
    let quotients = map (λ (one : Assessment). one.quotient) found.places in
    record {
      scores = map (λ (one : Assessment). one.score) found.places;
      count = found.count;
      verdict = verdict found.least;
      started_by_31_may_1981 = cond started 1 0;
      hundredths = map (λ (q : Quotient). q.hundredths) quotients;
      remainders = map (λ (q : Quotient). q.remainder) quotients;
      divisors = map (λ (q : Quotient). q.divisor) quotients;
    }

-- Its report: the row of a place, all rows, and their bytes.
abbrev pub row_by : List Assessment → Fraction → ℕ → List ℕ
row_by places factor at = result_row (storey_at at) (direction_at at) (get_or places at no_assessment) factor

abbrev pub rows_by : HouseAssessment → List ℕ
rows_by found = joined found.count (row_by found.places found.factor) ++ verdict_row found.least

abbrev pub lines_by : HouseAssessment → ℕ
lines_by found = found.count + 1

abbrev pub bytes_by : HouseAssessment → List ℕ
bytes_by found = lines_of (lines_by found) (rows_by found)

-- The answer of writing it into `lent` bytes, 9 or the count of bytes; and the lent bytes afterwards.
unfoldable pub reporting_by : HouseAssessment → ℕ → Told
reporting_by found lent = cond (ltb lent (65 * lines_by found)) (refusal lent_space_short 0 0) (counted (65 * lines_by found))

unfoldable pub after_reporting_by : HouseAssessment → List ℕ → List ℕ
after_reporting_by found report = cond (ltb (length report) (65 * lines_by found)) report (over report (bytes_by found))
