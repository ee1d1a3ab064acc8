-- `write` meets its contract: each return is one case of `writing`. Assumes nothing.
use Rattle.std.proofs.Common.{◌≡◌, ◌∙◌, refl, sym, ap, Err, arith, rules}
use Rattle.answer.specs.declared.refusal.Refusal.{Refusal}
use Rattle.answer.specs.Told.{told}
use Rattle.answer.proofs.Lengths.{refused_whole, counted_whole}
use Rattle.sheet.specs.Sheet.{refusal_at}
use Rattle.sheet.proofs.Answers.{writing_length, writing_large, writing_short, writing_accepted, large_found, none_large_found}
use Rattle.sheet.proofs.Sheets.{printing_rows}
use Rattle.sheet.proofs.writer.write.Goals as goal

pub returns-in_err-rows : goal.returns-in_err-rows
returns-in_err-rows c =
    let known = refused_whole 8 _ c.in_err-rows.ensures in
    let same : c.from_residual.result ≡ Err c.in_err-rows.field-0.0 = search rules in
    let case = writing_length c.args.table.now c.args.sheet.now refl known.1 in
    record { answer = ap told same ∙ ap (λ (r : Refusal). told (Err r)) known.0 ∙ case.0; sheet = case.1 }

pub refusal_at-requires-clause-row : goal.refusal_at-requires-clause-row
refusal_at-requires-clause-row c = omega (arith, counted_whole 8 _ c.in_ok-rows.ensures, large_found _ c.in-Some.ensures)

pub returns-in-Some : goal.returns-in-Some
unfolding refusal_at
returns-in-Some c =
    let known = counted_whole 8 _ c.in_ok-rows.ensures in
    let found = large_found _ c.in-Some.ensures in
    let case = writing_large c.args.table.now c.args.sheet.now known.0 (λ none. omega arith) found.0 found.1 in
    record { answer = ap (λ (r : Refusal). told (Err r)) c.refusal_at.ensures ∙ case.0; sheet = case.1 }

pub overflow_mul-rows : goal.overflow_mul-rows
overflow_mul-rows c = omega (arith, counted_whole 8 _ c.in_ok-rows.ensures)

pub returns-then-sheet-rows : goal.returns-then-sheet-rows
returns-then-sheet-rows c =
    let known = counted_whole 8 _ c.in_ok-rows.ensures in
    let case = writing_short c.args.table.now c.args.sheet.now known.0 (λ none. omega arith) refl (none_large_found _ (sym c.in_default.is ∙ c.first_too_large.ensures)) c.if-sheet-rows.true in
    record { answer = ap (λ (r : Refusal). told (Err r)) c.without_place.ensures ∙ case.0; sheet = case.1 }

pub overflow_cast-result : goal.overflow_cast-result
overflow_cast-result c = omega (arith, counted_whole 8 _ c.in_ok-rows.ensures)

pub returns : goal.returns
returns c =
    let known = counted_whole 8 _ c.in_ok-rows.ensures in
    let case = writing_accepted c.args.table.now c.args.sheet.now known.0 (λ none. omega arith) refl (none_large_found _ (sym c.in_default.is ∙ c.first_too_large.ensures)) c.if-sheet-rows.false in
    record { answer = case.0; sheet = c.print_rows.ensures ∙ printing_rows _ _ _ known.1.whole c.if-sheet-rows.false ∙ case.1 }
