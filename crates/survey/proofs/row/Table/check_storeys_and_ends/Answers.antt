-- `survey::row::Table::check_storeys_and_ends` meets its contract. Assumes nothing.
use Rattle.std.proofs.Common.{arith, rules}
use Rattle.survey.specs.Judgement.{storey_fault, ends_fault}
use Rattle.survey.proofs.RowFaults.{row_storey, row_ends}
use Rattle.survey.proofs.Judging.{row_missing, row_refused}
use Rattle.survey.proofs.row.Table.check_storeys_and_ends.Goals as goal

pub returns-in_err-row-clause-refused : goal.returns-in_err-row-clause-refused
returns-in_err-row-clause-refused c = row_missing c.args.self.now c.loop-at.invariant c.in_err-row.field-0.0 (search rules) (omega (arith, c.args.self.now.of_house)) c.in_err-row.ensures.missing

pub returns-in_err-refused-clause-refused : goal.returns-in_err-refused-clause-refused
returns-in_err-refused-clause-refused c =
    row_refused _ c.loop-at.invariant c.in_ok-row.row storey_fault c.in_ok-row.ensures.row (row_storey _ _ (omega arith) (omega (arith, c.args.self.now.of_house))) c.check_storey.result c.check_storey.ensures c.in_err-refused.field-0.0 (search rules) c.in_err-refused.ensures

pub returns-in_err-row-2-clause-refused : goal.returns-in_err-row-2-clause-refused
returns-in_err-row-2-clause-refused c = row_missing c.args.self.now c.loop-at-2.invariant c.in_err-row-2.field-0.0 (search rules) (omega (arith, c.args.self.now.of_house)) c.in_err-row-2.ensures.missing

pub returns-in_err-refused-2-clause-refused : goal.returns-in_err-refused-2-clause-refused
returns-in_err-refused-2-clause-refused c =
    row_refused _ c.loop-at-2.invariant c.in_ok-row-2.row ends_fault c.in_ok-row-2.ensures.row (row_ends _ _ (omega arith) (omega (arith, c.args.self.now.of_house)) (omega arith)) c.check_ends.result c.check_ends.ensures c.in_err-refused-2.field-0.0 (search rules) c.in_err-refused-2.ensures
