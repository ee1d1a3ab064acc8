-- The loop of `print_row`: the fields before `column` are printed over the line's front.
use Rattle.std.proofs.Common.{◌≡◌}
use Rattle.answer.specs.Lists.{joined, over}
use Rattle.sheet.proofs.Sheets.{fields}
use Rattle.sheet.proofs.line.print_row.Given as goal

abbrev pub invariant-loop-column : goal.invariant-loop-column
invariant-loop-column l = l.bytes ≡ over l.fn.bytes (joined l.column (fields l.row))
