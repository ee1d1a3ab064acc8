-- The loop of `read_lines`: no place of the lines before `row` is misprinted, and their numbers are written.
use Rattle.std.proofs.Common.{◌≡◌, ℕ, ◌*◌, ◌<◌, false}
use Rattle.answer.specs.Lists.{over}
use Rattle.sheet.specs.Sheet.{misprinted, numbers_of}
use Rattle.sheet.proofs.reader.read_lines.Given as goal

abbrev pub invariant-loop-row : goal.invariant-loop-row
invariant-loop-row l = record {
  written : l.numbers ≡ over l.fn.numbers (numbers_of (8 * l.row) l.sheet);
  right : (k : ℕ) → k < 9 * l.row → misprinted l.sheet k ≡ false;
}
