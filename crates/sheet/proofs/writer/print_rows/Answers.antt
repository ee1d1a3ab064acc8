-- `print_rows` meets its contract: the bytes stay where there is no room, and else every row is printed. Assumes nothing.
use Rattle.std.proofs.Common.{◌≡◌, refl, ap, ◌∙◌, ◌/◌, length, arith}
use Rattle.answer.specs.Lists.{joined, over}
use Rattle.sheet.specs.Line.{line}
use Rattle.sheet.specs.Sheet.{lines_of}
use Rattle.answer.proofs.Parts.{part_cut}
use Rattle.sheet.proofs.Sheets.{lines_more, printing_short, printing_room}
use Rattle.sheet.proofs.writer.print_rows.Goals as goal

pub returns-then-sheet-rows : goal.returns-then-sheet-rows
returns-then-sheet-rows c = printing_short _ _ (omega arith)

pub loop-row-init : goal.loop-row-init
unfolding over lines_of joined
loop-row-init c = refl

pub loop-row-preserved : goal.loop-row-preserved
loop-row-preserved c =
    let table = c.args.table.now in
    let row = c.loop-row.row in
    let cut = ap line (part_cut 8 _ row table c.as_chunks.ensures.front (omega arith)) in
    lines_more table c.args.sheet.now _ _ row (omega arith) c.loop-row.invariant (c.print_row.ensures ∙ cut)

pub returns : goal.returns
returns c =
    let all : c.loop-row.row ≡ length c.args.table.now / 8 = omega arith in
    rw all at c.loop-row.invariant ∙ printing_room c.args.table.now c.args.sheet.now (omega arith)
