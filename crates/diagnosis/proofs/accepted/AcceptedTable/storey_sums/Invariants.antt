-- The loop of `AcceptedTable::storey_sums`: the sums are those over the walls before this one.
use Rattle.std.proofs.Common.{◌≡◌}
use Rattle.survey.specs.Walls.{storey_walls}
use Rattle.diagnosis.specs.Internal.{sums_over}
use Rattle.diagnosis.proofs.accepted.AcceptedTable.storey_sums.Given as goal

abbrev pub invariant-loop-wall : goal.invariant-loop-wall
invariant-loop-wall l =
    let walls = storey_walls l.self.table.now l.storey in
    record {
      x : l.sums.x ≡ sums_over l.self.house l.storey walls 1 l.wall-index;
      y : l.sums.y ≡ sums_over l.self.house l.storey walls 2 l.wall-index;
    }
