-- Where the rows of an accepted table stand, and the ranges that its numbers have, as the code needs them. Assumes nothing.
use Rattle.std.proofs.Common.{◌≡◌, List, ℕ, ◌<◌, ◌≤◌, arith}
use Rattle.survey.specs.Table.{storeys}
use Rattle.survey.specs.Judgement.{judging}
use Rattle.survey.specs.Acceptance.{Accepted}
use Rattle.survey.proofs.Acceptance.{accepted, accepted_zone}
use Rattle.method.specs.Required.{most_required}
use Rattle.method.proofs.Requirements.{required_positive, required_most}
use Rattle.diagnosis.specs.Rows.{house_of, storey_of, storey_part}
use Rattle.diagnosis.specs.House.{required_of, required}
use Rattle.diagnosis.specs.Premises.{Stands}
use Rattle.diagnosis.proofs.NarrowStoreys.{factor_least, factor_most}

module _ (table : List ℕ) (h : (judging table).number ≡ 0) where
  a : Accepted table
  a = accepted table h

  pub storeys_few : (1 ≤ storeys table) × (storeys table ≤ 3)
  storeys_few = a.house_inside 1 (omega arith)

  pub stands : Stands table
  stands = record { accepted = h; some = storeys_few.0; few = storeys_few.1; long = omega (arith, a.sizes); zone_most = (accepted_zone a).1 }

  -- Every storey needs something.
  pub required_some : {storey : ℕ} → 1 ≤ storey → storey ≤ storeys table → 0 < required table storey
  unfolding required required_of
  required_some {storey} some most =
      let class = a.house_inside 2 (omega arith) in
      let area = a.storey_inside storey some most 2 (omega arith) in
      required_positive (house_of table) (storey_part (house_of table) (storey_of table storey)) some most storeys_few.1 class.0 class.1 area.0
      (omega (arith, accepted_zone a)) (omega (arith, factor_least table storey))

  -- No storey needs more than `method` computes a score with.
  pub required_within : {storey : ℕ} → 1 ≤ storey → storey ≤ storeys table → required table storey ≤ most_required
  unfolding required required_of
  required_within {storey} some most =
      required_most (house_of table) (storey_part (house_of table) (storey_of table storey)) (a.storey_inside storey some most 2 (omega arith)).1
      (accepted_zone a).1 (factor_most table storey)
