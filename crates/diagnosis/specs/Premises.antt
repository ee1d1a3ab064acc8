-- What the code's structs always hold: an accepted table with its house, and what is worked out for a house. Callers meet one of these records,
-- `HouseOf`, which every `AcceptedTable` keeps; no theorem and no other promise to them is stated with these.
use Rattle.std.specs.Prelude.{◌≡◌, cond, List, [], ◌∷◌, ℕ, ◌+◌, ◌*◌, ◌/◌, ◌%◌, ◌<◌, ◌≤◌, length, get_or, ltb}
use Rattle.survey.specs.Table.{storeys}
use Rattle.survey.specs.Judgement.{judging}
use Rattle.method.specs.declared.rows.House.{House}
use Rattle.method.specs.declared.deterioration.Fraction.{Fraction}
use Rattle.method.specs.Held.{most_held}
use Rattle.method.specs.Required.{most_required}
use Rattle.diagnosis.specs.declared.assessment.Assessment.{Assessment}
use Rattle.diagnosis.specs.Rows.{zone, house_of}

-- The table is accepted. From that follows what the code needs: it has one to three storeys, it is at least as long as the rows that are due
-- without walls (the house's, three for each storey, the parts', the dates'), and its zone is at most 100.
pub record Stands (table : List ℕ) : Type 0 where
  pub accepted : (judging table).number ≡ 0
  pub some : 1 ≤ storeys table
  pub few : storeys table ≤ 3
  pub long : 8 * (3 * storeys table + 3) ≤ length table
  pub zone_most : zone table ≤ 100

-- The table is accepted, and this is what its house row says.
pub record HouseOf (table : List ℕ) (house : House) : Type 0 where
  pub stands : Stands table
  pub row : house ≡ house_of table
  pub storeys_same : house.storeys ≡ storeys table

-- Six places, by storey from the ground up, and in each storey direction X, then direction Y: the storey and the direction of a place from 0.
abbrev pub storey_at : ℕ → ℕ
storey_at at = at / 2 + 1

abbrev pub direction_at : ℕ → ℕ
direction_at at = at % 2 + 1

-- What stands in a place, where the first `count` places are filled by f and the others with `none`; and six such places.
abbrev pub filled : {A : Type 0} → ℕ → A → (ℕ → A) → ℕ → A
filled count none f at = cond (ltb at count) (f at) none

unfoldable pub six : {A : Type 0} → ℕ → A → (ℕ → A) → List A
six count none f =
    filled count none f 0 ∷ filled count none f 1 ∷ filled count none f 2 ∷ filled count none f 3 ∷ filled count none f 4 ∷ filled count none f 5 ∷ []

-- Where the house lacks the storey, nothing is worked out.
abbrev pub no_assessment : Assessment
no_assessment = record { held = 0; required = 0; layout = 0; score = 0; quotient = record { hundredths = 0; remainder = 0; divisor = 0 } }

-- The numbers worked out for a house fit the rows of a report.
pub record Printable (places : List Assessment) (count : ℕ) (factor : Fraction) : Type 0 where
  pub few : count ≤ 6
  pub lower_some : 0 < factor.lower
  pub held_most : (at : ℕ) → at < count → (get_or places at no_assessment).held ≤ most_held
  pub required_most : (at : ℕ) → at < count → (get_or places at no_assessment).required ≤ most_required
