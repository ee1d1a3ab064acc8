-- `read_lines` meets its contract. Assumes nothing.
use Rattle.std.proofs.Common.{◌≡◌, ◌∙◌, refl, sym, ap, ℕ, ◌+◌, ◌/◌, List, Err, length, rules, arith, below_none}
use Rattle.answer.specs.Told.{told}
use Rattle.answer.specs.Lists.{joined, part, over}
use Rattle.answer.proofs.Lists.{joined_over}
use Rattle.sheet.specs.Sheet.{numbers_of, line_read}
use Rattle.answer.proofs.Parts.{part_cut}
use Rattle.sheet.proofs.Sheets.{refused_line, accepted_line, lines_refused, lines_counted, first_in_line, line_right, numbers_by_lines, numbers_length}
use Rattle.sheet.proofs.reader.read_lines.Goals as goal

pub loop-row-init : goal.loop-row-init
unfolding over numbers_of joined
loop-row-init c = record { written = refl; right = below_none _ }

pub returns-in_err-read_line-clause-answer : goal.returns-in_err-read_line-clause-answer
returns-in_err-read_line-clause-answer c =
    let sheet = c.args.sheet.now in
    let row = c.loop-row.row in
    let read = c.in_err-read_line.ensures ∙ ap (line_read row) (part_cut 65 _ row sheet c.as_chunks.ensures.front (omega arith)) in
    let wrong = refused_line (part 65 row sheet) row read in
    let found = first_in_line sheet row c.loop-row.invariant.right refl (length sheet / 65) (omega arith) wrong.1 in
    let same : c.from_residual.result ≡ Err c.in_err-read_line.field-0.0 = search rules in
    ap told same ∙ lines_refused sheet (length sheet / 65) wrong.1 (omega arith) found wrong.0

pub loop-row-preserved : goal.loop-row-preserved
loop-row-preserved c =
    let sheet = c.args.sheet.now in
    let row = c.loop-row.row in
    let over_numbers : List ℕ → List ℕ = over c.args.numbers.now in
    let read = c.in_ok-read_line.ensures ∙ ap (line_read row) (part_cut 65 _ row sheet c.as_chunks.ensures.front (omega arith)) in
    let right = accepted_line (part 65 row sheet) row read in
    let of_line : ℕ → List ℕ = λ i. numbers_of 8 (part 65 i sheet) in
    let before = c.loop-row.invariant.written ∙ ap over_numbers (sym (numbers_by_lines sheet row)) in
    let written = joined_over 8 of_line (λ i. numbers_length 8 (part 65 i sheet)) _ _ _ row (omega arith) before right.0 in
    record {
      written = written ∙ ap over_numbers (numbers_by_lines sheet (row + 1));
      right = line_right sheet row c.loop-row.invariant.right refl right.1;
    }

pub returns-clause-answer : goal.returns-clause-answer
returns-clause-answer c =
    let sheet = c.args.sheet.now in
    let all : c.loop-row.row ≡ length sheet / 65 = omega arith in
    rw c.as_chunks.ensures.front_len (lines_counted sheet (length sheet / 65) (rw all at c.loop-row.invariant.right))
