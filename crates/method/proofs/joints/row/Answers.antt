-- `row` is what its definition says. Assumes nothing.
use Rattle.std.proofs.Common.{◌∙◌, refl, sym, [], get_or}
use Rattle.std.proofs.lemmas.List.{get_or_past}
use Rattle.method.specs.JointTables.{top_storey}
use Rattle.method.proofs.Factors.{row_top, row_no_top, row_other, row_one}
use Rattle.method.proofs.joints.row.Goals as goal

pub returns-then-at-ge4 : goal.returns-then-at-ge4
returns-then-at-ge4 c = row_no_top _ _ _ _ c.in-TopStorey.ensures (sym (get_or_past top_storey c.args.house.snow [] c.if-at-ge4.true))

pub returns-else-at-ge4 : goal.returns-else-at-ge4
returns-else-at-ge4 c =
    rw (c.numbered.ensures)
    (row_top _ _ _ _ c.in-TopStorey.ensures (get_or top_storey c.args.house.snow []) refl)

pub returns-in-OtherStorey : goal.returns-in-OtherStorey
returns-in-OtherStorey c = rw (← c.foundation_used-foundation.ensures) (c.row_in.ensures ∙ row_other _ _ _ _ c.in-OtherStorey.ensures)

pub returns-in-OneStorey : goal.returns-in-OneStorey
returns-in-OneStorey c =
    rw (← c.foundation_used-foundation.ensures) (c.row_in-in-OneStorey.ensures ∙ rw c.shared_row.ensures (row_one _ _ _ _ c.in-OneStorey.ensures))
