-- The loop of `take_from_front`: the part is as it shall be before `at`, and as it was from there on.
use Rattle.site.proofs.MovedRows.{Front, Back, taken_out}
use Rattle.site.proofs.moves.take_from_front.Given as goal

abbrev pub invariant-loop-at : goal.invariant-loop-at
invariant-loop-at l = record { before : Front l.at l.part (taken_out l.fn.part); later : Back l.at l.part l.fn.part }
