-- `started` meets its contract. Assumes nothing.
use Rattle.site.specs.Changes.{on}
use Rattle.site.proofs.Changing.{starts}
use Rattle.site.proofs.changes.started.Goals as goal

pub returns-clause-made : goal.returns-clause-made
returns-clause-made c =
    let ok = c.in_ok-checked.ensures.accepted in
    (ok.0, starts (on c.args.table.now c.args.totals) c.in_ok-checked.field-0 ok.0 ok.1 c.own_record-own.result.held c.own_record-own.ensures.held c.own_record-own.result.scored c.own_record-own.ensures.scored)
