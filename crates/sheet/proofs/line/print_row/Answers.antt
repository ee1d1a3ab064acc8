-- `print_row` meets its contract: eight fields over the line's front, then the byte after them. Assumes nothing.
use Rattle.std.proofs.Common.{◌≡◌, refl, arith}
use Rattle.answer.specs.Lists.{joined, over}
use Rattle.answer.proofs.Lists.{joined_over}
use Rattle.sheet.proofs.Sheets.{fields, field_long, line_end}
use Rattle.sheet.proofs.line.print_row.Goals as goal

pub loop-column-init : goal.loop-column-init
unfolding over joined
loop-column-init c = refl

pub loop-column-preserved : goal.loop-column-preserved
loop-column-preserved c =
    let row = c.args.row.now in
    joined_over 8 (fields row) (field_long row) _ _ _ c.loop-column.column (omega arith) c.loop-column.invariant c.print.ensures

pub returns : goal.returns
returns c =
    let all : c.loop-column.column ≡ 8 = omega arith in
    line_end c.args.row.now _ _ c.requires (rw all at c.loop-column.invariant)
