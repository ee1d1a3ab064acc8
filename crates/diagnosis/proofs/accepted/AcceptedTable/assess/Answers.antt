-- `AcceptedTable::assess` meets its contract. Assumes nothing.
use Rattle.std.proofs.Common.{◌≡◌, ◌∙◌, refl, ap, ℕ, ◌+◌, ◌≤◌, arith, rules}
use Rattle.answer.specs.Lists.{joined}
use Rattle.survey.specs.Table.{storeys}
use Rattle.diagnosis.specs.declared.held.HeldSums.{HeldSums}
use Rattle.diagnosis.specs.declared.assessment.Assessment.{Assessment}
use Rattle.diagnosis.specs.House.{InHouse, assessment_with, least_of}
use Rattle.diagnosis.specs.Premises.{no_assessment}
use Rattle.diagnosis.specs.Internal.{Assessable, sums_with, held_by}
use Rattle.diagnosis.proofs.SixPlaces.{six_none}
use Rattle.diagnosis.proofs.ScoreLists.{storey_more}
use Rattle.diagnosis.proofs.Assessments.{held_by_most, assessable, printable, places_more}
use Rattle.diagnosis.proofs.accepted.AcceptedTable.assess.Goals as goal
use Rattle.diagnosis.proofs.accepted.AcceptedTable.assess.Goals.{After-sums_by-sums}

pub loop-below-init : goal.loop-below-init
unfolding joined least_of
loop-below-init c =
    let none : ◌≡◌ {A = Assessment} c.default-places.result no_assessment = search rules in
    record { filled = rw none (six_none _ _); least_is = refl }

-- A direction of this turn's storey, by what its walls hold.
ready : (c : After-sums_by-sums) (direction : ℕ) {sums : HeldSums} → 1 ≤ direction → direction ≤ 2
    → sums ≡ sums_with c.args.self.now.table.now (held_by c.args.self.now.table.now c.args.given) (c.loop-below.below + 1) direction
    → Assessable c.args.self.now.table.now (c.loop-below.below + 1) direction sums c.deterioration-factor.result
ready c direction some last sums =
    let house = c.args.self.now.of_house in
    let here : InHouse c.args.self.now.table.now (c.loop-below.below + 1) direction =
    record { some_storey = omega arith; last_storey = omega (arith, house.storeys_same); some_direction = some; last_direction = last } in
    assessable _ house.stands.accepted _ (held_by_most _ house.stands.accepted c.args.given) _ direction here sums c.deterioration-factor.ensures

pub assess_direction-x-requires : goal.assess_direction-x-requires
assess_direction-x-requires c =
    ready (goal.at.assess_direction-x-requires c).After-sums_by-sums 1 (omega arith) (omega arith) c.sums_by-sums.ensures.x

pub assess_direction-y-requires : goal.assess_direction-y-requires
assess_direction-y-requires c =
    ready (goal.at.assess_direction-y-requires c).After-sums_by-sums 2 (omega arith) (omega arith) c.sums_by-sums.ensures.y

pub loop-below-preserved : goal.loop-below-preserved
loop-below-preserved c =
    let table = c.args.self.now.table.now in
    let held = held_by table c.args.given in
    let storey = c.loop-below.below + 1 in
    let x : c.assess_direction-x.result ≡ assessment_with table (held storey 1) storey 1 =
    c.assess_direction-x.ensures ∙ ap (λ (sums : HeldSums). assessment_with table sums.all storey 1) c.sums_by-sums.ensures.x in
    let y : c.assess_direction-y.result ≡ assessment_with table (held storey 2) storey 2 =
    c.assess_direction-y.ensures ∙ ap (λ (sums : HeldSums). assessment_with table sums.all storey 2) c.sums_by-sums.ensures.y in
    let inv = c.loop-below.invariant in
    record {
      filled = places_more _ held _ (omega (arith, c.args.self.now.of_house.storeys_same, c.args.self.now.of_house.stands.few)) inv.filled x y;
      least_is = c.min-least.ensures ∙ rw c.min.ensures (storey_more _ held _ inv.least_is (λ i. (x i).score) (λ i. (y i).score));
    }

pub invariant_of-result : goal.invariant_of-result
invariant_of-result c =
    let house = c.args.self.now.of_house in
    let all : c.loop-below.below ≡ storeys c.args.self.now.table.now = omega (arith, house.storeys_same) in
    record { printable = rw (c.loop-below.invariant.filled, all, house.storeys_same, c.deterioration-factor.ensures) (printable _ house.stands.accepted _ (held_by_most _ house.stands.accepted c.args.given)) }

pub returns : goal.returns
returns c =
    let house = c.args.self.now.of_house in
    let inv = c.loop-below.invariant in
    let all : c.loop-below.below ≡ storeys c.args.self.now.table.now = omega (arith, house.storeys_same) in
    record {
      places = rw all at inv.filled;
      count = rw house.storeys_same;
      least = rw all at inv.least_is;
      factor = c.deterioration-factor.ensures;
    }
