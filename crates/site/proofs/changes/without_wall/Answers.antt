-- `without_wall` meets its contract. Assumes nothing.
use Rattle.std.proofs.Common.{◌≡◌, refl, Err, rules, ◌++◌, ◌-◌}
use Rattle.answer.specs.Lists.{over}
use Rattle.site.specs.Rows.{in_use, without_row}
use Rattle.site.specs.Changes.{on, delete_told, without_wall, empty_row}
use Rattle.site.proofs.Changing.{Stores, stored_fits, stored_house, stored_rows, stored_within, stored_made, delete_refused, delete_stopped, delete_requires, deletes}
use Rattle.site.proofs.changes.without_wall.Goals as goal
use Rattle.site.proofs.changes.without_wall.Goals.{After-remove-arg-1}

pub returns-in_err-rows-clause-refused : goal.returns-in_err-rows-clause-refused
returns-in_err-rows-clause-refused c =
    let came : c.from_residual.result ≡ Err c.in_err-rows.field-0.0 = search rules in
    rw came (delete_refused (on c.args.table.now c.args.totals) c.args.row c.in_err-rows.field-0.0 c.in_err-rows.ensures.refused, refl)

pub returns-in_err-plan-clause-refused : goal.returns-in_err-plan-clause-refused
returns-in_err-plan-clause-refused c =
    let came : c.from_residual-in_err-plan.result ≡ Err c.in_err-plan.field-0.0 = search rules in
    let ok = c.in_ok-rows.ensures.accepted in
    rw came (delete_stopped (on c.args.table.now c.args.totals) c.in_ok-rows.rows ok.0 ok.1 c.args.row c.in_err-plan.field-0.0 c.in_err-plan.ensures.refused, refl)

pub remove-requires : goal.remove-requires
remove-requires c =
    let ok = c.in_ok-rows.ensures.accepted in
    let planned = c.in_ok-plan.ensures.planned in
    delete_requires (on c.args.table.now c.args.totals) c.in_ok-rows.rows ok.0 ok.1 c.args.row planned.0 c.in_ok-plan.plan.at planned.1

-- What is stored is the state that the change makes.
stores : (c : After-remove-arg-1)
    → Stores (delete_told (on c.args.table.now c.args.totals) c.args.row) (without_wall (on c.args.table.now c.args.totals) c.args.row) c.in_ok-rows.rows.house
    (over c.args.table.now (without_row (in_use c.args.table.now c.in_ok-rows.rows.rows) c.in_ok-plan.plan.at ++ empty_row)) c.in_ok-plan.plan.held (c.in_ok-rows.rows.rows - 1)
stores c =
    let ok = c.in_ok-rows.ensures.accepted in
    let planned = c.in_ok-plan.ensures.planned in
    deletes (on c.args.table.now c.args.totals) c.in_ok-rows.rows ok.0 ok.1 c.args.row planned.0 c.in_ok-plan.plan.at planned.1 c.in_ok-plan.plan.held planned.2

pub scored-requires-clause-fits : goal.scored-requires-clause-fits
scored-requires-clause-fits c = stored_fits (stores (goal.at.scored-requires-clause-fits c).After-remove-arg-1) c.remove.ensures

pub scored-requires-clause-house : goal.scored-requires-clause-house
scored-requires-clause-house c = stored_house (stores (goal.at.scored-requires-clause-house c).After-remove-arg-1) c.remove.ensures

pub scored-requires-clause-rows : goal.scored-requires-clause-rows
scored-requires-clause-rows c = stored_rows (stores (goal.at.scored-requires-clause-rows c).After-remove-arg-1) c.remove.ensures

pub scored-requires-clause-within : goal.scored-requires-clause-within
scored-requires-clause-within c = stored_within (stores (goal.at.scored-requires-clause-within c).After-remove-arg-1) c.remove.ensures

pub returns-clause-made : goal.returns-clause-made
returns-clause-made c = stored_made (stores (goal.at.returns-clause-made c).After-remove-arg-1) c.remove.ensures c.scored.result c.scored.ensures
