-- `take_from_front` meets its contract. Assumes nothing.
use Rattle.std.proofs.Common.{◌≡◌, ◌∙◌, sym, refl, get_or, arith}
use Rattle.site.proofs.MovedRows.{taken_out, taken_out_long, taken_out_part, taken_out_end, front_more, back_less, all_new}
use Rattle.site.proofs.moves.take_from_front.Goals as goal
use Rattle.site.proofs.moves.take_from_front.Goals.{then-next-length, else-next-length}

pub loop-at-init : goal.loop-at-init
loop-at-init c = record { before = λ k below. absurd (omega arith); later = λ k past below. refl }

-- The number that is written.
written : (c : goal.Joined-next-length) → c.if-next-length.part ≡ get_or (taken_out c.args.part.now) c.loop-at.at 0
written c = elim c.if-next-length.branch [
  | then-next-length w ↦ w.part-is ∙ c.loop-at.invariant.later _ (omega arith) (omega arith) ∙ taken_out_part c.args.part.now c.loop-at.at (omega arith) (omega arith)
  | else-next-length w ↦ w.part-is ∙ taken_out_end c.args.part.now c.loop-at.at (omega arith) (omega arith)
]

pub loop-at-preserved : goal.loop-at-preserved
loop-at-preserved c =
    record {
      before = front_more c.args.part.now (taken_out c.args.part.now) _ _ _ (omega arith) (written c) c.loop-at.invariant.before;
      later = back_less c.args.part.now (taken_out c.args.part.now) _ _ _ (omega arith) (written c) c.loop-at.invariant.later;
    }

pub returns : goal.returns
returns c = all_new _ _ (c.loop-at.auto.part ∙ sym (taken_out_long _)) (λ k below. c.loop-at.invariant.before k (omega arith))
