-- `run_sheets::again` meets its contract, by the round trip. Assumes nothing.
use Rattle.std.proofs.Common.{◌≡◌, ◌∙◌, sym, ap, ℕ, List, ◌*◌, length, take, Err, rules}
use Rattle.std.proofs.Common.{length-take-le}
use Rattle.answer.specs.Told.{told}
use Rattle.sheet.specs.Sheet.{writing, after_writing}
use Rattle.run_sheets.proofs.Rewriting.{again_refused, again_rows, again_written}
use Rattle.run_sheets.proofs.again.Goals as goal

pub returns-in_err-rows : goal.returns-in_err-rows
returns-in_err-rows c =
    let same : c.from_residual.result ≡ Err c.in_err-rows.field-0.0 = search rules in
    let refused = again_refused c.args.sheet.now c.args.table.now c.read.ensures.answer c.args.bytes.now c.in_err-rows.was in
    record { answer = ap told (same ∙ sym c.in_err-rows.was) ∙ refused.0; bytes = refused.1 }

pub slice_bounds-write-end : goal.slice_bounds-write-end
slice_bounds-write-end c =
    rw c.read.auto.table (again_rows c.args.sheet.now c.args.table.now c.read.ensures.answer c.in_ok-rows.was)

pub slice_bounds-write-end-2 : goal.slice_bounds-write-end-2
slice_bounds-write-end-2 c = sym (length-take-le (8 * c.in_ok-rows.rows) c.read.new.table (slice_bounds-write-end c))

pub returns : goal.returns
returns c =
    let bytes = c.args.bytes.now in
    let rows = c.in_ok-rows.rows in
    let same = again_written c.args.sheet.now c.args.table.now c.read.ensures.answer c.in_ok-rows.was bytes
    (c.write.ensures.answer ∙ ap (λ (l : List ℕ). writing (take (8 * rows) l) (length bytes)) c.read.ensures.table)
    (c.write.ensures.sheet ∙ ap (λ (l : List ℕ). after_writing (take (8 * rows) l) bytes) c.read.ensures.table) in
    record { answer = same.0; bytes = same.1 }
