-- `run_sheets::print_again` is safe: what is counted is within the bytes. Assumes nothing.
use Rattle.std.proofs.Common.{sym, length, length-take-le}
use Rattle.run_sheets.proofs.Rewriting.{again_counted}
use Rattle.run_sheets.proofs.print_again.Goals as goal

pub slice_bounds-write_all-end : goal.slice_bounds-write_all-end
slice_bounds-write_all-end g c =
    rw c.again.auto.bytes
    (again_counted c.args.sheet.now c.args.bytes.now (length c.args.table.now) c.again.ensures.answer c.in-Ok.is)

pub slice_bounds-write_all-end-in-Ok : goal.slice_bounds-write_all-end-in-Ok
slice_bounds-write_all-end-in-Ok g c = sym (length-take-le c.in-Ok.count c.again.new.bytes (slice_bounds-write_all-end g c))
