-- `diagnose` meets its contract: the refusal of reading, or the report of the sheet's table. Assumes nothing.
use Rattle.std.proofs.Common.{◌≡◌, refl, sym, Err, rules, length-take-le}
use Rattle.diagnosis.proofs.Reporting.{rows_fit, diagnose_refused, diagnose_read}
use Rattle.diagnosis.proofs.program.diagnose.Goals as goal

pub returns-in_err-rows : goal.returns-in_err-rows
returns-in_err-rows c =
    let came : c.from_residual.result ≡ Err c.in_err-rows.field-0.0 = search rules in
    let refused = diagnose_refused _ c.args.report.now _ c.in_err-rows.ensures.answer in
    rw came (record { answer = refused.0; report = refused.1 })

pub slice_bounds-table-end : goal.slice_bounds-table-end
slice_bounds-table-end c = rows_fit _ _ c.args.report.now refl c.in_ok-rows.ensures.answer c.in_ok-rows.ensures.table

pub slice_bounds-report-end : goal.slice_bounds-report-end
slice_bounds-report-end c =
    sym (length-take-le _ _ (rows_fit _ _ c.args.report.now refl c.in_ok-rows.ensures.answer c.in_ok-rows.ensures.table))

pub returns : goal.returns
returns c =
    let read = c.in_ok-rows.ensures in
    let diagnosed = diagnose_read _ _ _ refl read.answer read.table c.report.ensures.answer c.report.ensures.report in
    record { answer = diagnosed.0; report = diagnosed.1 }
