-- `survey::row::Table::check_last_rows` meets its contract. Assumes nothing.
use Rattle.std.proofs.Common.{◌+◌, arith, rules, lit<}
use Rattle.survey.specs.Judgement.{parts_fault, dates_fault}
use Rattle.survey.specs.Internal.{JudgedTo}
use Rattle.survey.proofs.RowFaults.{row_parts, row_dates, row_after}
use Rattle.survey.proofs.Judging.{row_missing, row_refused, row_passed, judging_fault}
use Rattle.survey.proofs.row.Table.check_last_rows.Goals as goal

pub returns-in_err-row-clause-refused : goal.returns-in_err-row-clause-refused
returns-in_err-row-clause-refused c = row_missing c.args.self.now c.requires.judged c.in_err-row.field-0.0 (search rules) (omega (arith, c.args.self.now.of_house)) c.in_err-row.ensures.missing

pub returns-in_err-refused-clause-refused : goal.returns-in_err-refused-clause-refused
returns-in_err-refused-clause-refused c =
    row_refused _ c.requires.judged c.in_ok-row.row parts_fault c.in_ok-row.ensures.row (row_parts _ _ c.requires.parts) c.check_parts.result c.check_parts.ensures c.in_err-refused.field-0.0 (search rules) c.in_err-refused.ensures

-- Past the parts row the dates row is reached,
pub returns-in_err-row-2-clause-refused : goal.returns-in_err-row-2-clause-refused
returns-in_err-row-2-clause-refused c =
    let dates : JudgedTo c.args.self.now.numbers.now c.args.self.now.rows (c.args.parts + 1) = search (rules, row_passed, row_parts) in
    row_missing c.args.self.now dates c.in_err-row-2.field-0.0 (search rules) (omega (arith, c.args.self.now.of_house)) c.in_err-row-2.ensures.missing

pub returns-in_err-refused-2-clause-refused : goal.returns-in_err-refused-2-clause-refused
returns-in_err-refused-2-clause-refused c =
    let dates : JudgedTo c.args.self.now.numbers.now c.args.self.now.rows (c.args.parts + 1) = search (rules, row_passed, row_parts) in
    row_refused _ dates c.in_ok-row-2.row dates_fault c.in_ok-row-2.ensures.row (row_dates _ _ (omega arith)) c.check_dates.result c.check_dates.ensures c.in_err-refused-2.field-0.0 (search rules) c.in_err-refused-2.ensures

-- and past that the last row, after which no row is due.
pub returns-then-dates-self-clause-refused : goal.returns-then-dates-self-clause-refused
returns-then-dates-self-clause-refused c =
    let end : JudgedTo c.args.self.now.numbers.now c.args.self.now.rows (c.args.parts + 1 + 1) = search (rules, row_passed, row_parts, row_dates) in
    rw c.out_of_order.ensures (judging_fault end c.if-dates-self.true (row_after _ _ (omega arith)) (lit< tt))
