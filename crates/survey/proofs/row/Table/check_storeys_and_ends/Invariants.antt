-- The loops of `survey::row::Table::check_storeys_and_ends`: every row before is without a fault.
use Rattle.survey.specs.Internal.{JudgedTo}
use Rattle.survey.proofs.row.Table.check_storeys_and_ends.Given as goal

abbrev pub invariant-loop-at : goal.invariant-loop-at
invariant-loop-at l = JudgedTo l.self.numbers.now l.self.rows l.at

abbrev pub invariant-loop-at-2 : goal.invariant-loop-at-2
invariant-loop-at-2 l = JudgedTo l.self.numbers.now l.self.rows l.at
