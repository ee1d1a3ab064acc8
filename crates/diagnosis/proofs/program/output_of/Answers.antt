-- `output_of` meets its contract: the report, or the line of the refusal. Assumes nothing.
use Rattle.std.proofs.Common.{◌≡◌, ◌∙◌, length}
use Rattle.diagnosis.specs.Program.{output, output_bytes}
use Rattle.diagnosis.proofs.Reporting.{output_report, output_refusal, output_most, output_front}
use Rattle.diagnosis.proofs.program.output_of.Goals as goal
use Rattle.diagnosis.proofs.program.output_of.Goals.{in-Ok, in-Err, Joined-answer}

-- The bytes, and how many of them are printed.
printed : (c : Joined-answer) → (c.match-answer.bytes ≡ output_bytes c.args.sheet.now) × (c.match-answer.length ≡ length (output c.args.sheet.now))
printed c =
    let diagnosed = c.diagnose-answer.ensures in
    elim c.match-answer.branch [
      | in-Ok w ↦
          let report = output_report _ diagnosed.answer diagnosed.report w.in-Ok.is in
          (w.bytes-is ∙ report.1.0, w.length-is ∙ report.1.1)
      | in-Err w ↦
          let line = output_refusal _ diagnosed.answer diagnosed.report w.in-Err.is (rw w.from.ensures at w.print_rows.ensures) in
          (w.bytes-is ∙ line.1.0, w.length-is ∙ line.1.1)
    ]

pub invariant_of-result : goal.invariant_of-result
invariant_of-result c = record { within = rw (printed c).1 (output_most _) }

pub returns-clause-bytes : goal.returns-clause-bytes
returns-clause-bytes c = (printed (goal.at.returns-clause-bytes c).Joined-answer).0

pub returns-clause-length : goal.returns-clause-length
returns-clause-length c = (printed (goal.at.returns-clause-length c).Joined-answer).1

pub returns-clause-printed : goal.returns-clause-printed
returns-clause-printed c = output_front _ (printed (goal.at.returns-clause-printed c).Joined-answer)
