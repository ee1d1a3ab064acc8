-- The loop of `AcceptedTable::assess`: the places of the storeys before this one are filled, and `least` is the least of their scores.
use Rattle.std.proofs.Common.{◌≡◌, ◌*◌}
use Rattle.diagnosis.specs.House.{least_of}
use Rattle.diagnosis.specs.Internal.{held_by, places_of}
use Rattle.diagnosis.proofs.ScoreLists.{scores_below}
use Rattle.diagnosis.proofs.accepted.AcceptedTable.assess.Given as goal

abbrev pub invariant-loop-below : goal.invariant-loop-below
invariant-loop-below l = record {
  filled : l.places ≡ places_of l.self.table.now (held_by l.self.table.now l.given) (2 * l.below);
  least_is : l.least ≡ least_of (scores_below l.self.table.now (held_by l.self.table.now l.given) l.below);
}
