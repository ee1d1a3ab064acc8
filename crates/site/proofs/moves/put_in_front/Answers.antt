-- `put_in_front` meets its contract. Assumes nothing.
use Rattle.std.proofs.Common.{◌≡◌, ◌∙◌, sym, refl, ◌+◌, ◌-◌, get_or, arith}
use Rattle.site.proofs.MovedRows.{put_in, put_in_long, put_in_row, put_in_part, back_more, front_less, all_new}
use Rattle.site.proofs.moves.put_in_front.Goals as goal
use Rattle.site.proofs.moves.put_in_front.Goals.{then-at-lt-ROW, else-at-lt-ROW}

pub loop-at-init : goal.loop-at-init
loop-at-init c = record { before = λ k below. refl; later = λ k past below. absurd (omega (arith, put_in_long c.args.row.now c.args.part.now c.told-row)) }

-- The number that is written.
written : (c : goal.Joined-at-lt-ROW) → c.if-at-lt-ROW.part ≡ get_or (put_in c.args.row.now c.args.part.now) (c.loop-at.at - 1) 0
written c = elim c.if-at-lt-ROW.branch [
  | then-at-lt-ROW w ↦ w.part-is ∙ put_in_row _ _ c.told-row _ (omega arith) (omega arith)
  | else-at-lt-ROW w ↦ w.part-is ∙ c.loop-at.invariant.before _ (omega arith) ∙ put_in_part _ _ c.told-row _ (omega arith) (omega arith)
]

pub loop-at-preserved : goal.loop-at-preserved
loop-at-preserved c =
    let last : c.loop-at.at - 1 + 1 ≡ c.loop-at.at = omega arith in
    record {
      before = front_less c.args.part.now (put_in c.args.row.now c.args.part.now) _ _ _ (omega arith) (written c) (rw last c.loop-at.invariant.before);
      later = back_more c.args.part.now (put_in c.args.row.now c.args.part.now) _ _ _ (omega arith) (written c) (rw last c.loop-at.invariant.later);
    }

pub returns : goal.returns
returns c =
    all_new _ _ (c.loop-at.auto.part ∙ sym (put_in_long _ _ c.told-row)) (λ k below. c.loop-at.invariant.later k (omega arith) (omega (arith, put_in_long c.args.row.now c.args.part.now c.told-row)))
