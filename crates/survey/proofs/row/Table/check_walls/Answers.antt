-- `survey::row::Table::check_walls` meets its contract. Assumes nothing.
use Rattle.std.proofs.Common.{◌≡◌, false, List, ℕ, ◌≤◌, sym, subst, ◌∙◌, refl, arith, rules}
use Rattle.survey.specs.Table.{is_wall}
use Rattle.survey.specs.Internal.{JudgedTo}
use Rattle.survey.proofs.Positions.{beyond, wall_before_parts, parts_row_here}
use Rattle.survey.proofs.RowFaults.{row_wall}
use Rattle.survey.proofs.Judging.{fault_refused}
use Rattle.survey.proofs.row.Table.check_walls.Goals as goal

-- There is no wall where the table ends.
no-wall : {table : List ℕ} {rows row : ℕ} → JudgedTo table rows row → rows ≤ row → is_wall table row ≡ false
no-wall {table} {rows} {row} judged end = rw (beyond table row 0 (omega (arith, judged.size))) refl

pub returns-in_err-refused-clause-refused : goal.returns-in_err-refused-clause-refused
returns-in_err-refused-clause-refused c =
    let before = wall_before_parts _ _ (omega arith) c.loop-at.invariant.1 (sym c.is_wall.ensures ∙ c.if-not-is_wall.false) in
    fault_refused c.loop-at.invariant.0 c.loop-at-test.true c.check_wall.result (c.check_wall.ensures ∙ row_wall _ _ (omega arith) (omega arith) (omega arith) before) c.in_err-refused.field-0.0 (search rules) c.in_err-refused.ensures

pub returns-clause-judged : goal.returns-clause-judged
returns-clause-judged c =
    let judged = c.loop-at.invariant.0 in
    let end : c.loop-at.at ≡ c.args.self.now.rows = omega (arith, judged.reached) in
    (sym end ∙ parts_row_here _ _ (omega arith) c.loop-at.invariant.1 (no-wall judged c.loop-at-test.false), subst (JudgedTo _ _) end judged)
