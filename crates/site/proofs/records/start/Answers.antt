-- `start` meets its contract. Assumes nothing.
use Rattle.std.proofs.Common.{◌≡◌, ◌∙◌, ap, Err, rules}
use Rattle.site.specs.Changes.{State, on, checking, started}
use Rattle.site.proofs.Answering.{refused_answer, refused_left, made_answer, made_left}
use Rattle.site.proofs.records.start.Goals as goal

pub returns-in_err-changed-clause-answer : goal.returns-in_err-changed-clause-answer
returns-in_err-changed-clause-answer c =
    let came : c.from_residual.result ≡ Err c.in_err-changed.field-0.0 = search rules in
    rw came (refused_answer (checking (on c.args.table.now c.args.totals.now)) (on c.args.table.now c.args.totals.now) (started (on c.args.table.now c.args.totals.now)) c.in_err-changed.field-0.0 c.in_err-changed.ensures.refused)

pub returns-in_err-changed-clause-totals : goal.returns-in_err-changed-clause-totals
returns-in_err-changed-clause-totals c =
    ap (λ (s : State). s.totals) (refused_left (checking (on c.args.table.now c.args.totals.now)) (on c.args.table.now c.args.totals.now) (started (on c.args.table.now c.args.totals.now)) c.in_err-changed.field-0.0 c.in_err-changed.ensures.refused)

pub returns-clause-answer : goal.returns-clause-answer
returns-clause-answer c =
    let made = c.in_ok-changed.ensures.made in
    made_answer (checking (on c.args.table.now c.args.totals.now)) (on c.args.table.now c.args.totals.now) (started (on c.args.table.now c.args.totals.now)) made.0 c.in_ok-changed.changed made.1

pub returns-clause-totals : goal.returns-clause-totals
returns-clause-totals c =
    let made = c.in_ok-changed.ensures.made in
    made.1.totals ∙ ap (λ (s : State). s.totals) (made_left (checking (on c.args.table.now c.args.totals.now)) (on c.args.table.now c.args.totals.now) (started (on c.args.table.now c.args.totals.now)) made.0)
