-- The loop of `survey::row::Row::check_order`: no date before is earlier than the one to its left.
use Rattle.std.proofs.Common.{◌<◌, ◌≤◌}
use Rattle.survey.specs.Table.{cell}
use Rattle.survey.proofs.row.Row.check_order.Given as goal

abbrev pub invariant-loop-column : goal.invariant-loop-column
invariant-loop-column l = (2 < l.column → cell l.self.table.numbers.now l.self.at 1 ≤ cell l.self.table.numbers.now l.self.at 2) × (3 < l.column → cell l.self.table.numbers.now l.self.at 2 ≤ cell l.self.table.numbers.now l.self.at 3)
