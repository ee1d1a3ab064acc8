-- `report` meets its contract: the refusal of judging, or what an accepted table gets. Assumes nothing.
use Rattle.std.proofs.Common.{◌≡◌, ◌∙◌, Err, rules}
use Rattle.diagnosis.proofs.Assessments.{report_answer, report_after}
use Rattle.diagnosis.proofs.Reporting.{report_refused}
use Rattle.diagnosis.proofs.reports.report.Goals as goal

pub returns-in_err-judged : goal.returns-in_err-judged
returns-in_err-judged c =
    let came : c.from_residual.result ≡ Err c.in_err-judged.field-0.0 = search rules in
    rw came (report_refused _ _ _ c.in_err-judged.ensures.refused)

pub returns : goal.returns
returns c =
    let table = c.in_ok-judged.ensures.accepted in
    let accepted = c.in_ok-judged.field-0.of_house.stands.accepted in
    rw (← table) (record {
      answer = c.report.ensures.answer ∙ report_answer _ accepted c.assess.ensures _;
      report = c.report.ensures.report ∙ report_after _ accepted c.assess.ensures _;
    })
