-- `read` meets its contract: each return is one case of reading. Assumes nothing.
use Rattle.std.proofs.Common.{◌≡◌, ◌∙◌, refl, ap, Err, arith, rules}
use Rattle.answer.specs.declared.refusal.Refusal.{Refusal}
use Rattle.answer.specs.Told.{told}
use Rattle.answer.proofs.Lengths.{refused_whole, counted_whole}
use Rattle.sheet.proofs.Answers.{reading_length, reading_short}
use Rattle.sheet.proofs.reader.read.Goals as goal

pub returns-in_err-lines : goal.returns-in_err-lines
returns-in_err-lines c =
    let known = refused_whole 65 _ c.in_err-lines.ensures in
    let same : c.from_residual.result ≡ Err c.in_err-lines.field-0.0 = search rules in
    let case = reading_length c.args.sheet.now c.args.table.now refl known.1 in
    record { answer = ap told same ∙ ap (λ (r : Refusal). told (Err r)) known.0 ∙ case.0; table = case.1 }

pub overflow_mul-lines : goal.overflow_mul-lines
overflow_mul-lines c = omega (arith, counted_whole 65 _ c.in_ok-lines.ensures)

pub returns-then-lent-lines : goal.returns-then-lent-lines
returns-then-lent-lines c =
    let known = counted_whole 65 _ c.in_ok-lines.ensures in
    let case = reading_short c.args.sheet.now c.args.table.now known.0 (λ none. omega arith) c.if-lent-lines.true in
    record { answer = ap (λ (r : Refusal). told (Err r)) c.without_place.ensures ∙ case.0; table = case.1 }

pub read_with-requires-2-clause-room : goal.read_with-requires-2-clause-room
read_with-requires-2-clause-room c = (omega (arith, counted_whole 65 _ c.in_ok-lines.ensures), omega arith)
