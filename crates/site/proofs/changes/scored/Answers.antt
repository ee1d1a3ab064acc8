-- `scored` meets its contract. Assumes nothing.
use Rattle.std.proofs.Common.{◌∙◌, refl, ℕ, ◌≤◌, arith}
use Rattle.survey.specs.Table.{storeys}
use Rattle.survey.proofs.Acceptance.{accepted}
use Rattle.method.specs.Held.{most_held}
use Rattle.diagnosis.specs.House.{InHouse}
use Rattle.diagnosis.specs.Answers.{number_at}
use Rattle.diagnosis.proofs.GivenStrengths.{record_counted}
use Rattle.site.specs.Rows.{in_use}
use Rattle.site.proofs.SixTotals.{none_above}
use Rattle.site.proofs.changes.scored.Goals as goal

pub overflow_cast-result : goal.overflow_cast-result
overflow_cast-result c = omega (arith, (accepted _ c.requires.house.stands.accepted).sizes, c.requires.rows)

pub returns : goal.returns
returns c =
    let table = in_use c.args.table.now c.args.rows in
    let few : storeys table ≤ 3 = c.requires.house.stands.few in
    let small : (storey direction : ℕ) → InHouse table storey direction → number_at c.args.held storey direction ≤ most_held =
    λ storey direction here. none_above (storeys table) few c.args.held (omega arith) c.requires.within _ (omega (arith, here)) in
    record { totals = refl; answer_is = c.record_with.ensures ∙ record_counted table c.args.held small }
