-- `row_due` meets its contract. Assumes nothing.
use Rattle.std.proofs.Common.{◌≡◌, ◌∙◌, refl, Bool, ℕ, ◌+◌, ◌-◌, ltb, rules, tests, arith}
use Rattle.std.proofs.lemmas.Iterator.{YieldsList-from_range}
use Rattle.std.proofs.lemmas.Iterator.Search.{position_from_yields_List}
use Rattle.answer.proofs.Places.{first_most}
use Rattle.survey.specs.Table.{cell, wall_rows}
use Rattle.survey.proofs.FirstInRange.{position_from, place_or_count}
use Rattle.site.proofs.DueRows.{row_due_first}
use Rattle.site.proofs.plans.row_due.Goals as goal

pub returns : goal.returns
returns c =
    let table = c.args.rows.now.table.now in
    let start = c.first_wall-first.result in
    let walls = c.parts_row.result - start in
    let count : walls ≡ wall_rows table = omega (arith, c.parts_row.ensures, c.first_wall-first.ensures) in
    let test : ℕ → Bool = λ row. ltb c.args.storey (cell table row 1) in
    let found = position_from_yields_List test _ _ c.position.result c.position.ensures.ran (YieldsList-from_range start (start + walls) walls refl (omega arith)) (λ x b q k. search (rules, tests)) ∙ position_from test start walls in
    rw (c.unwrap_or-before.ensures, found, place_or_count walls _ (first_most (λ k. test (start + k)) walls), count, c.first_wall-first.ensures)
    (row_due_first table c.args.rows.now.of_house.stands.accepted c.args.storey)
