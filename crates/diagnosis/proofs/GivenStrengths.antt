-- The record of a house by held strengths that are given: it goes by those of the house's storeys alone. Assumes nothing.
use Rattle.std.proofs.Common.{◌≡◌, refl, ap, List, ℕ, ◌+◌, ◌<◌, ◌≤◌, arith}
use Rattle.answer.proofs.Lists.{joined_same}
use Rattle.survey.specs.Table.{storeys}
use Rattle.method.specs.Held.{most_held}
use Rattle.diagnosis.specs.House.{InHouse, held, score_with, quotient_with, storey_by_storey}
use Rattle.diagnosis.specs.Answers.{six_numbers, number_at, counted_as, record_with, record_of}

-- What two functions of a storey and direction have in common for a house's.
abbrev pub SameInHouse : List ℕ → (ℕ → ℕ → ℕ) → (ℕ → ℕ → ℕ) → Type 0
SameInHouse table one other = (storey direction : ℕ) → InHouse table storey direction → one storey direction ≡ other storey direction

module _ (table : List ℕ) where
  in_house : (below direction : ℕ) → below < storeys table → 1 ≤ direction → direction ≤ 2 → InHouse table (below + 1) direction
  in_house below direction inside some last =
      record { some_storey = omega arith; last_storey = omega arith; some_direction = some; last_direction = last }

  listed_same : (one other : ℕ → ℕ → ℕ) → SameInHouse table one other → storey_by_storey table one ≡ storey_by_storey table other
  listed_same one other same =
      joined_same _ _ (storeys table) (λ below inside.
      rw (same (below + 1) 1 (in_house below 1 inside (omega arith) (omega arith)), same (below + 1) 2 (in_house below 2 inside (omega arith) (omega arith))) refl)

  numbers_same : (one other : ℕ → ℕ → ℕ) → SameInHouse table one other → six_numbers table one ≡ six_numbers table other
  unfolding six_numbers
  numbers_same one other same = rw (listed_same one other same)

  -- Held strengths that are the same for the house's storeys have the same record.
  module _ (one other : ℕ → ℕ → ℕ) (same : SameInHouse table one other) where
    each : (kind : ℕ → ℕ → ℕ → ℕ)
        → SameInHouse table (λ storey direction. kind (one storey direction) storey direction) (λ storey direction. kind (other storey direction) storey direction)
    each kind storey direction here = ap (λ (held : ℕ). kind held storey direction) (same storey direction here)

    six_same : (kind : ℕ → ℕ → ℕ → ℕ) → six_numbers table (λ storey direction. kind (one storey direction) storey direction)
        ≡ six_numbers table (λ storey direction. kind (other storey direction) storey direction)
    six_same kind = numbers_same _ _ (each kind)

    pub record_same : record_with table one ≡ record_with table other
    unfolding record_with
    record_same =
        rw (
          six_same (score_with table),
          listed_same _ _ (each (score_with table)),
          six_same (λ held storey direction. (quotient_with table held storey direction).hundredths),
          six_same (λ held storey direction. (quotient_with table held storey direction).remainder),
          six_same (λ held storey direction. (quotient_with table held storey direction).divisor),
        )
        refl

  -- So what a house's own walls hold has the house's record,
  pub record_own : (given : ℕ → ℕ → ℕ) → SameInHouse table given (held table) → record_with table given ≡ record_of table
  unfolding record_of
  record_own given own = record_same given (held table) own

  -- and so it is with given strengths of which none is above 60,000 kN: none counts as less than it is.
  pub record_counted : (given : List ℕ) → ((storey direction : ℕ) → InHouse table storey direction → number_at given storey direction ≤ most_held)
      → record_with table (counted_as given) ≡ record_with table (number_at given)
  record_counted given small = record_same (counted_as given) (number_at given) (λ storey direction here. omega (arith, small storey direction here))
