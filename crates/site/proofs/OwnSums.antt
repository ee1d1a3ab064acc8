-- Six totals that are the sums over a house's walls. Assumes nothing.
use Rattle.std.proofs.Common.{◌≡◌, refl, ap, false, List, ℕ, ◌+◌, ◌*◌, ◌/◌, ◌%◌, arith, length, get_or}
use Rattle.answer.proofs.Lists.{over_length, joined_length}
use Rattle.survey.specs.Table.{storeys}
use Rattle.survey.specs.Judgement.{judging}
use Rattle.diagnosis.specs.House.{held, storey_by_storey}
use Rattle.diagnosis.specs.Answers.{no_numbers, six_numbers, score_at, number_at}
use Rattle.diagnosis.proofs.AcceptedTables.{storeys_few}
use Rattle.diagnosis.proofs.Sums.{storey_held_most}
use Rattle.diagnosis.proofs.ScoreLists.{number_in_six, in_house_at}
use Rattle.diagnosis.proofs.GivenStrengths.{SameInHouse}
use Rattle.site.specs.Totals.{some_above}
use Rattle.site.proofs.SixTotals.{all_within}

module _ (table : List ℕ) (h : (judging table).number ≡ 0) where
  -- The sums as a start fills them in.
  pub sums_six : length (six_numbers table (held table)) ≡ 6
  unfolding six_numbers
  sums_six =
      let listed = storey_by_storey table (held table) in
      let long : length listed ≡ 2 * storeys table = joined_length 2 _ (λ i. refl) (storeys table) in
      over_length no_numbers listed (omega (arith, long, storeys_few table h))

  pub sums_own : SameInHouse table (number_at (six_numbers table (held table))) (held table)
  sums_own storey direction here = number_in_six table storey direction here (held table)

  -- Sums over walls are none of them above the most.
  pub own_within : (totals : List ℕ) → length totals ≡ 6 → SameInHouse table (number_at totals) (held table) → some_above (storeys table) totals ≡ false
  own_within totals six own =
      all_within (storeys table) (storeys_few table h).1 totals six (λ at inside.
      let here = in_house_at table at inside in
      let place : score_at (at / 2 + 1) (at % 2 + 1) ≡ at = omega arith in
      omega (arith, ap (λ (k : ℕ). get_or totals k 0) place, own (at / 2 + 1) (at % 2 + 1) here, storey_held_most table h (at / 2 + 1) (at % 2 + 1)))
