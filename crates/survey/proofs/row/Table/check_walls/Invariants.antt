-- The loop of `survey::row::Table::check_walls`: every row before is without a fault, and those from the first wall on are walls.
use Rattle.std.proofs.Common.{◌≤◌}
use Rattle.survey.specs.Table.{parts_row}
use Rattle.survey.specs.Internal.{JudgedTo}
use Rattle.survey.proofs.row.Table.check_walls.Given as goal

abbrev pub invariant-loop-at : goal.invariant-loop-at
invariant-loop-at l = JudgedTo l.self.numbers.now l.self.rows l.at × (l.at ≤ parts_row l.self.numbers.now)
