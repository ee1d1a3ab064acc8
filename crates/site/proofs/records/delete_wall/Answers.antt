-- `delete_wall` meets its contract. Assumes nothing.
use Rattle.std.proofs.Common.{◌≡◌, ◌∙◌, ap, Err, rules}
use Rattle.site.specs.Changes.{State, on, delete_told, without_wall}
use Rattle.site.proofs.Answering.{refused_answer, refused_left, made_answer, made_left}
use Rattle.site.proofs.records.delete_wall.Goals as goal

pub returns-in_err-changed-clause-answer : goal.returns-in_err-changed-clause-answer
returns-in_err-changed-clause-answer c =
    let came : c.from_residual.result ≡ Err c.in_err-changed.field-0.0 = search rules in
    rw came (refused_answer (delete_told (on c.args.table.now c.args.totals.now) c.args.row) (on c.args.table.now c.args.totals.now) (without_wall (on c.args.table.now c.args.totals.now) c.args.row) c.in_err-changed.field-0.0 c.in_err-changed.ensures.refused.0)

pub returns-in_err-changed-clause-table : goal.returns-in_err-changed-clause-table
returns-in_err-changed-clause-table c =
    let refused = c.in_err-changed.ensures.refused in
    refused.1 ∙ ap (λ (s : State). s.table) (refused_left (delete_told (on c.args.table.now c.args.totals.now) c.args.row) (on c.args.table.now c.args.totals.now) (without_wall (on c.args.table.now c.args.totals.now) c.args.row) c.in_err-changed.field-0.0 refused.0)

pub returns-in_err-changed-clause-totals : goal.returns-in_err-changed-clause-totals
returns-in_err-changed-clause-totals c =
    ap (λ (s : State). s.totals) (refused_left (delete_told (on c.args.table.now c.args.totals.now) c.args.row) (on c.args.table.now c.args.totals.now) (without_wall (on c.args.table.now c.args.totals.now) c.args.row) c.in_err-changed.field-0.0 c.in_err-changed.ensures.refused.0)

pub returns-clause-answer : goal.returns-clause-answer
returns-clause-answer c =
    let made = c.in_ok-changed.ensures.made in
    made_answer (delete_told (on c.args.table.now c.args.totals.now) c.args.row) (on c.args.table.now c.args.totals.now) (without_wall (on c.args.table.now c.args.totals.now) c.args.row) made.0 c.in_ok-changed.changed made.2

pub returns-clause-table : goal.returns-clause-table
returns-clause-table c =
    let made = c.in_ok-changed.ensures.made in
    made.1 ∙ ap (λ (s : State). s.table) (made_left (delete_told (on c.args.table.now c.args.totals.now) c.args.row) (on c.args.table.now c.args.totals.now) (without_wall (on c.args.table.now c.args.totals.now) c.args.row) made.0)

pub returns-clause-totals : goal.returns-clause-totals
returns-clause-totals c =
    let made = c.in_ok-changed.ensures.made in
    made.2.totals ∙ ap (λ (s : State). s.totals) (made_left (delete_told (on c.args.table.now c.args.totals.now) c.args.row) (on c.args.table.now c.args.totals.now) (without_wall (on c.args.table.now c.args.totals.now) c.args.row) made.0)
