-- What a house's record has beside each score: whole hundredths, remainder and divisor. Assumes nothing.
use Rattle.std.proofs.Common.{◌≡◌, List, ℕ, ◌+◌, ◌*◌, ◌<◌, min, mul-pos, get_or}
use Rattle.survey.specs.Judgement.{judging}
use Rattle.method.specs.Score.{score}
use Rattle.method.proofs.Theorems.{score_divided, remainder_smaller}
use Rattle.diagnosis.specs.House.{InHouse, held, required, layout, deterioration, strengths_with, score_with, quotient_with, full_score, full_quotient}
use Rattle.diagnosis.specs.Answers.{Scoring, told_scoring, record_with, record_of, scoring, score_at}
use Rattle.diagnosis.proofs.AcceptedTables.{required_some}
use Rattle.diagnosis.proofs.Assessments.{lower_some}
use Rattle.diagnosis.proofs.ScoreLists.{number_in_six, record_told}

-- A score and its three numbers are these of a storey and direction.
abbrev Divided : List ℕ → ℕ → ℕ → ℕ → ℕ → ℕ → ℕ → Type 0
Divided table storey direction score hundredths remainder divisor =
    (hundredths * divisor + remainder ≡ 1000 * held table storey direction * layout table storey direction * (deterioration table).upper)
    × (remainder < divisor)
    × (divisor ≡ required table storey * (deterioration table).lower)
    × (score ≡ min hundredths 999)

module _ (table : List ℕ) (h : (judging table).number ≡ 0) (storey direction : ℕ) (s : InHouse table storey direction) where
  -- The divisor is not 0.
  pub divisor_some : 0 < required table storey * (deterioration table).lower
  divisor_some = mul-pos (required_some table h s.some_storey s.last_storey) (lower_some table)

  quotient_divided : let found = full_quotient table storey direction in
      Divided table storey direction (full_score table storey direction) found.hundredths found.remainder found.divisor
  unfolding quotient_with score_with score
  quotient_divided =
      let strengths = strengths_with table (held table storey direction) storey in
      let divided = score_divided strengths (layout table storey direction) (deterioration table) in
      (divided.0, remainder_smaller strengths (layout table storey direction) (deterioration table) divisor_some, divided.1, divided.2)

  pub record_divided : (a : Scoring) → told_scoring a ≡ scoring table
      → let place : List ℕ → ℕ = λ numbers. get_or numbers (score_at storey direction) 0 in
      Divided table storey direction (place (told_scoring a).result.scores) (place (told_scoring a).result.hundredths) (place (told_scoring a).result.remainders)
      (place (told_scoring a).result.divisors)
  unfolding record_of record_with
  record_divided a e =
      rw (
        record_told table a h e,
        number_in_six table storey direction s (full_score table),
        number_in_six table storey direction s (λ storey direction. (full_quotient table storey direction).hundredths),
        number_in_six table storey direction s (λ storey direction. (full_quotient table storey direction).remainder),
        number_in_six table storey direction s (λ storey direction. (full_quotient table storey direction).divisor),
      )
      quotient_divided
