-- `AcceptedTable::judged` meets its contract. Assumes nothing.
use Rattle.survey.proofs.Acceptance.{judge_accepted}
use Rattle.diagnosis.proofs.AcceptedTables.{stands}
use Rattle.diagnosis.proofs.accepted.AcceptedTable.judged.Goals as goal

pub house_of-house-requires : goal.house_of-house-requires
house_of-house-requires c = stands _ (judge_accepted _ c.judge.ensures c.in_ok-rows.was).0

pub invariant_of-result : goal.invariant_of-result
invariant_of-result c = record { of_house = c.house_of-house.ensures; rows_are = (judge_accepted _ c.judge.ensures c.in_ok-rows.was).1 }
