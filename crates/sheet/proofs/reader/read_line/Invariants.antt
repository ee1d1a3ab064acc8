-- The loop of `read_line`: no place before `column` is misprinted, and the numbers there are written.
use Rattle.std.proofs.Common.{◌≡◌, ℕ, ◌<◌, false}
use Rattle.answer.specs.Lists.{over}
use Rattle.sheet.specs.Sheet.{misprinted, numbers_of}
use Rattle.sheet.proofs.reader.read_line.Given as goal

abbrev pub invariant-loop-column : goal.invariant-loop-column
invariant-loop-column l = record {
  written : l.numbers ≡ over l.fn.numbers (numbers_of l.column l.line);
  right : (k : ℕ) → k < l.column → misprinted l.line k ≡ false;
}
