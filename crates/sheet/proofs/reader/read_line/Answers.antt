-- `read_line` meets its contract. Assumes nothing.
use Rattle.std.proofs.Common.{◌≡◌, ◌∙◌, refl, sym, ap, not, false, arith, below_none, below_more, eq-eqb, ne_eqb}
use Rattle.answer.specs.Lists.{joined, over}
use Rattle.answer.proofs.Lists.{over_whole}
use Rattle.sheet.specs.Field.{number_in}
use Rattle.sheet.specs.Sheet.{numbers_of, misprinted}
use Rattle.answer.proofs.Parts.{part_cut}
use Rattle.sheet.proofs.Sheets.{field_wrong, field_right, field_number, line_refused, line_accepted, line_last, numbers_more, numbers_length}
use Rattle.sheet.proofs.reader.read_line.Goals as goal

pub loop-column-init : goal.loop-column-init
unfolding over numbers_of joined
loop-column-init c = record { written = refl; right = below_none _ }

pub returns-in_default : goal.returns-in_default
returns-in_default c =
    let line = c.args.line.now in
    let column = c.loop-column.column in
    let scanned = sym c.in_default.is ∙ c.scan.ensures ∙ ap number_in (part_cut 8 _ column line c.as_chunks.ensures.front (omega arith)) in
    line_refused line c.args.row column (omega arith) c.loop-column.invariant.right (field_wrong line (omega arith) column (omega arith) scanned)
    c.refusal_at.ensures

pub loop-column-preserved : goal.loop-column-preserved
loop-column-preserved c =
    let line = c.args.line.now in
    let column = c.loop-column.column in
    let scanned = c.in-Some.ensures ∙ ap number_in (part_cut 8 _ column line c.as_chunks.ensures.front (omega arith)) in
    record {
      written = numbers_more line _ _ _ _ (omega arith) c.loop-column.invariant.written (field_number line (omega arith) column (omega arith) scanned);
      right = below_more _ _ c.loop-column.invariant.right (field_right line (omega arith) column (omega arith) scanned);
    }

pub returns-then-line-ne10 : goal.returns-then-line-ne10
returns-then-line-ne10 c =
    let all : c.loop-column.column ≡ 8 = omega arith in
    line_refused c.args.line.now c.args.row 8 (omega arith) (rw all at c.loop-column.invariant.right)
    (sym (line_last _ (omega arith)) ∙ ap not (ne_eqb _ 10 c.if-line-ne10.true))
    c.refusal_at-then-line-ne10.ensures

pub returns : goal.returns
returns c =
    let line = c.args.line.now in
    let all : c.loop-column.column ≡ 8 = omega arith in
    let last : misprinted line 8 ≡ false = sym (line_last line (omega arith)) ∙ ap not (eq-eqb _ 10 c.if-line-ne10.false) in
    line_accepted line c.args.row (below_more _ _ (rw all at c.loop-column.invariant.right) last)
    (rw all at c.loop-column.invariant.written ∙ over_whole _ (numbers_of 8 line) (numbers_length 8 line ∙ sym c.requires.numbers))
