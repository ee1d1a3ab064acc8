-- `constant` is what its definition says. Assumes nothing.
use Rattle.std.proofs.Common.{arith}
use Rattle.method.proofs.required.constant.Goals as goal
use Rattle.method.proofs.Requirements.{constant_none, constant_numbered}

pub returns-then-part-lt1 : goal.returns-then-part-lt1
returns-then-part-lt1 c = constant_none _ _ (λ some most few. omega arith)

pub returns-in_err-above : goal.returns-in_err-above
returns-in_err-above c = rw c.from_residual.ensures (constant_none _ _ (λ some most few. c.in_err-above.ensures most))

pub returns : goal.returns
returns c =
    rw (c.numbered.ensures, c.top_line.ensures, c.in_ok-above.ensures.1)
    (constant_numbered _ _ (omega arith) c.in_ok-above.ensures.0 (omega arith))
