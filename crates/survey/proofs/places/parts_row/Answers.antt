-- `survey::places::parts_row` meets its contract: the first row from the first wall on that is no wall is the parts row. Assumes nothing.
use Rattle.std.proofs.Common.{Bool, not, ℕ, ◌+◌, ◌*◌, ◌∙◌, refl, length, rules, tests, arith}
use Rattle.std.proofs.lemmas.Iterator.{YieldsList-from_range}
use Rattle.std.proofs.lemmas.Iterator.Search.{position_from_yields_List}
use Rattle.answer.proofs.Places.{first_most}
use Rattle.survey.specs.Table.{is_wall, wall_rows}
use Rattle.survey.proofs.FirstInRange.{position_from, place_or_count}
use Rattle.survey.proofs.places.parts_row.Goals as goal

pub returns-clause-row : goal.returns-clause-row
unfolding wall_rows
returns-clause-row c =
    let start = 3 * c.cell.result + 1 in
    let count = length c.args.table.now in
    let test : ℕ → Bool = λ row. not (is_wall c.args.table.now row) in
    let found = position_from_yields_List test _ _ c.position.result c.position.ensures.ran (YieldsList-from_range start (start + count) count refl (omega arith)) (λ x b q k. search (rules, tests)) ∙ position_from test start count in
    rw (c.unwrap_or-walls.ensures, found, place_or_count count _ (first_most (λ k. test (start + k)) count), c.cell.ensures) refl
