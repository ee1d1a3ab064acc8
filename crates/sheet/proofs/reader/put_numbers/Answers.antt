-- `put_numbers` meets its contract. Assumes nothing.
use Rattle.std.proofs.Common.{refl, arith}
use Rattle.answer.specs.Lists.{over}
use Rattle.answer.proofs.Lists.{over_more}
use Rattle.sheet.proofs.reader.put_numbers.Goals as goal

pub loop-at-init : goal.loop-at-init
unfolding over
loop-at-init c = refl

pub loop-at-preserved : goal.loop-at-preserved
loop-at-preserved c = over_more c.args.table.now c.args.numbers.now _ c.loop-at.at (omega arith) c.requires c.loop-at.invariant
