-- `numbered` is what its definition says. Assumes nothing.
use Rattle.std.proofs.Common.{◌∙◌, arith}
use Rattle.method.proofs.Tables.{numbered_none, numbered_past, numbered_read}
use Rattle.method.proofs.printed.numbered.Goals as goal

pub returns-in_err-at : goal.returns-in_err-at
returns-in_err-at g c = c.from_residual.ensures ∙ numbered_none c.args.table.now c.args.number (omega (arith, c.in_err-at.ensures))

pub returns-then-table-at : goal.returns-then-table-at
returns-then-table-at g c =
    let tells = c.in_ok-at.ensures in
    numbered_past c.args.table.now c.args.number tells.0 (rw (← tells.1) c.if-table-at.true)

pub returns : goal.returns
returns g c =
    let tells = c.in_ok-at.ensures in
    numbered_read c.args.table.now c.args.number tells.0 c.index-table-at.result (rw (← tells.1) c.if-table-at.false)
    (rw (← tells.1) c.index-table-at.is)
