-- Which two houses are compared, and what of them. Document 01, "Score and verdict": "In demand 3 an accepted house is a table that scoring
-- refuses on no ground, lent space apart. A and B have equally many rows and equal numbers in them, but for columns 3, 4, 5 and 7 of the
-- house row, none of which is lower in B, and the marked set, which in B has every mark of A." Document 02, request 3, has the survey day in the place
-- of column 7: "A later survey day now counts as having passed more time when two houses are compared." Among the numbers that are equal are the snow
-- (request 1) and whether a house is repaired (request 5: "A repaired house compares with another only if both are marked repaired").
use Rattle.std.specs.Prelude.{◌≡◌, Bool, true, false, ◌&&◌, ◌||◌, List, ℕ, ◌<◌, ◌≤◌, length, get_or, eqb}
use Rattle.survey.specs.Table.{cell, parts_row, dates_row}
use Rattle.survey.specs.Judgement.{judging, within}
use Rattle.diagnosis.specs.Rows.{weight_column, zone_column, ground_column, marked_column, survey_day_column, weight, zone, ground_class, marked, survey_day}
use Rattle.diagnosis.specs.House.{InHouse, higher_band, score_before, full_score, house_verdict}
use Rattle.diagnosis.specs.Answers.{score_at, Scoring, told_scoring, scoring}

-- The columns that may differ: 3, 4 and 5 of the house row (weight class, zone, ground), the marked set and the survey day.
abbrev pub house_may_differ : ℕ → Bool
house_may_differ column = eqb column weight_column || eqb column zone_column || eqb column ground_column

abbrev pub parts_may_differ : ℕ → Bool
parts_may_differ column = eqb column marked_column

abbrev pub dates_may_differ : ℕ → Bool
dates_may_differ column = eqb column survey_day_column

unfoldable pub may_differ : List ℕ → ℕ → ℕ → Bool
may_differ table row column =
    eqb row 0 && house_may_differ column
    || eqb row (parts_row table) && parts_may_differ column
    || eqb row (dates_row table) && dates_may_differ column

-- Of the numbers that may differ, the marked set apart, none is lower in B: heavier, in a higher zone, on softer ground, surveyed later.
pub record NoLower (A B : List ℕ) : Type 0 where
  pub heavier : weight A ≤ weight B
  pub higher : zone A ≤ zone B
  pub softer : ground_class A ≤ ground_class B
  pub later : survey_day A ≤ survey_day B

-- B is A, or A made worse.
pub record SameOrWorse (A B : List ℕ) : Type 0 where
  -- Scoring refuses neither.
  pub A_accepted : (judging A).number ≡ 0
  pub B_accepted : (judging B).number ≡ 0
  -- Equally many rows, and equal numbers in them but for those.
  pub rows : length A ≡ length B
  pub same : (row column : ℕ) → column < 8 → may_differ A row column ≡ false → cell A row column ≡ cell B row column
  -- None of which is lower in B.
  pub no_lower : NoLower A B
  -- In B every mark of A is marked.
  pub marks : within (marked A) (marked B) ≡ true

-- "it stays in its band when the higher band is the same in both houses compared".
abbrev pub BandKept : List ℕ → List ℕ → ℕ → ℕ → Type 0
BandKept A B storey direction = higher_band B storey direction ≡ higher_band A storey direction

-- What demand 3 says of B against A: in every storey and direction B's score before the layout factor is at most A's; wherever the better end
-- stays in its band, B's full score as the program answers it is at most A's, rounding included; where all keep it, B's verdict is no better.
pub record NoBetter (A B : List ℕ) : Type 0 where
  pub before : (storey direction : ℕ) → InHouse A storey direction → score_before B storey direction ≤ score_before A storey direction
  pub full : (storey direction : ℕ) → InHouse A storey direction → BandKept A B storey direction → full_score B storey direction ≤ full_score A storey direction
  -- "A verdict is no better when its number isn't lower."
  pub verdict : ((storey direction : ℕ) → InHouse A storey direction → BandKept A B storey direction) → house_verdict A ≤ house_verdict B
  -- "the full scores and the verdict are also those in the record of any scoring of the table that isn't refused": of any answers that
  -- meet the promise of `score`.
  pub record_full : (a b : Scoring) → told_scoring a ≡ scoring A → told_scoring b ≡ scoring B
      → (storey direction : ℕ) → InHouse A storey direction → BandKept A B storey direction
      → get_or (told_scoring b).result.scores (score_at storey direction) 0 ≤ get_or (told_scoring a).result.scores (score_at storey direction) 0
  pub record_verdict : (a b : Scoring) → told_scoring a ≡ scoring A → told_scoring b ≡ scoring B
      → ((storey direction : ℕ) → InHouse A storey direction → BandKept A B storey direction)
      → (told_scoring a).result.verdict ≤ (told_scoring b).result.verdict

-- A pair to which all of demand 3 applies: B is A made worse, and every better end stays in its band.
pub record Applies (A B : List ℕ) : Type 0 where
  pub worse : SameOrWorse A B
  pub kept : (storey direction : ℕ) → InHouse A storey direction → BandKept A B storey direction
