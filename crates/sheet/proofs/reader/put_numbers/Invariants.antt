-- The loop of `put_numbers`: the numbers before `at` are written over the table's front.
use Rattle.std.proofs.Common.{◌≡◌, take}
use Rattle.answer.specs.Lists.{over}
use Rattle.sheet.proofs.reader.put_numbers.Given as goal

abbrev pub invariant-loop-at : goal.invariant-loop-at
invariant-loop-at l = l.table ≡ over l.fn.table (take l.at l.numbers)
