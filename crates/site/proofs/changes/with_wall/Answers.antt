-- `with_wall` meets its contract. Assumes nothing.
use Rattle.std.proofs.Common.{◌≡◌, refl, Err, rules, ◌+◌, arith}
use Rattle.answer.specs.Lists.{over}
use Rattle.site.specs.Rows.{in_use, with_row}
use Rattle.site.specs.Changes.{on, add_told, with_wall}
use Rattle.site.proofs.Changing.{count_small, Stores, stored_fits, stored_house, stored_rows, stored_within, stored_made, add_refused, add_stopped, add_requires, adds}
use Rattle.site.proofs.changes.with_wall.Goals as goal
use Rattle.site.proofs.changes.with_wall.Goals.{After-insert-arg-1}

pub returns-in_err-rows-clause-refused : goal.returns-in_err-rows-clause-refused
returns-in_err-rows-clause-refused c =
    let came : c.from_residual.result ≡ Err c.in_err-rows.field-0.0 = search rules in
    rw came (add_refused (on c.args.table.now c.args.totals) c.args.wall.now c.in_err-rows.field-0.0 c.in_err-rows.ensures.refused, refl)

pub returns-in_err-plan-clause-refused : goal.returns-in_err-plan-clause-refused
returns-in_err-plan-clause-refused c =
    let came : c.from_residual-in_err-plan.result ≡ Err c.in_err-plan.field-0.0 = search rules in
    let ok = c.in_ok-rows.ensures.accepted in
    rw came (add_stopped (on c.args.table.now c.args.totals) c.in_ok-rows.rows ok.0 ok.1 c.args.wall.now c.in_err-plan.field-0.0 c.in_err-plan.ensures.refused, refl)

pub insert-requires : goal.insert-requires
insert-requires c =
    let ok = c.in_ok-rows.ensures.accepted in
    let planned = c.in_ok-plan.ensures.planned in
    add_requires (on c.args.table.now c.args.totals) c.in_ok-rows.rows ok.0 ok.1 c.args.wall.now c.told-wall planned.0 c.in_ok-plan.plan.at planned.1

-- What is stored is the state that the change makes.
stores : (c : After-insert-arg-1)
    → Stores (add_told (on c.args.table.now c.args.totals) c.args.wall.now) (with_wall (on c.args.table.now c.args.totals) c.args.wall.now) c.in_ok-rows.rows.house
    (over c.args.table.now (with_row (in_use c.args.table.now c.in_ok-rows.rows.rows) c.in_ok-plan.plan.at c.args.wall.now)) c.in_ok-plan.plan.held (c.in_ok-rows.rows.rows + 1)
stores c =
    let ok = c.in_ok-rows.ensures.accepted in
    let planned = c.in_ok-plan.ensures.planned in
    adds (on c.args.table.now c.args.totals) c.in_ok-rows.rows ok.0 ok.1 c.args.wall.now c.told-wall planned.0 c.in_ok-plan.plan.at planned.1 c.in_ok-plan.plan.held planned.2

pub overflow_add-count : goal.overflow_add-count
overflow_add-count c = omega (arith, count_small c.in_ok-rows.rows)

pub scored-requires-clause-fits : goal.scored-requires-clause-fits
scored-requires-clause-fits c = stored_fits (stores (goal.at.scored-requires-clause-fits c).After-insert-arg-1) c.insert.ensures

pub scored-requires-clause-house : goal.scored-requires-clause-house
scored-requires-clause-house c = stored_house (stores (goal.at.scored-requires-clause-house c).After-insert-arg-1) c.insert.ensures

pub scored-requires-clause-rows : goal.scored-requires-clause-rows
scored-requires-clause-rows c = stored_rows (stores (goal.at.scored-requires-clause-rows c).After-insert-arg-1) c.insert.ensures

pub scored-requires-clause-within : goal.scored-requires-clause-within
scored-requires-clause-within c = stored_within (stores (goal.at.scored-requires-clause-within c).After-insert-arg-1) c.insert.ensures

pub returns-clause-made : goal.returns-clause-made
returns-clause-made c = stored_made (stores (goal.at.returns-clause-made c).After-insert-arg-1) c.insert.ensures c.scored.result c.scored.ensures
