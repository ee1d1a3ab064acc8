-- The loop of `put_in_front`: the part is as it shall be from `at` on, and as it was before that.
use Rattle.site.proofs.MovedRows.{Front, Back, put_in}
use Rattle.site.proofs.moves.put_in_front.Given as goal

abbrev pub invariant-loop-at : goal.invariant-loop-at
invariant-loop-at l = record { before : Front l.at l.part l.fn.part; later : Back l.at l.part (put_in l.row l.fn.part) }
