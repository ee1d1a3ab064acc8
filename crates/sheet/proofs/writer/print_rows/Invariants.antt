-- The loop of `print_rows`: the rows before `row` are printed over the front of the bytes.
use Rattle.std.proofs.Common.{◌≡◌}
use Rattle.answer.specs.Lists.{over}
use Rattle.sheet.specs.Sheet.{lines_of}
use Rattle.sheet.proofs.writer.print_rows.Given as goal

abbrev pub invariant-loop-row : goal.invariant-loop-row
invariant-loop-row l = l.sheet ≡ over l.fn.sheet (lines_of l.row l.table)
