-- `HouseAssessment::rows` meets its contract: each turn writes a row, and then all are written. Assumes nothing.
use Rattle.std.proofs.Common.{◌≡◌, refl, ◌∙◌, List, ◌%◌, ◌<◌, length, length-take-le, length-set, arith}
use Rattle.answer.specs.Lists.{joined}
use Rattle.std.proofs.lemmas.List.{get_or-take}
use Rattle.diagnosis.specs.declared.assessment.Assessment.{Assessment}
use Rattle.diagnosis.specs.Premises.{no_assessment}
use Rattle.diagnosis.proofs.Places.{direction_listed}
use Rattle.diagnosis.proofs.ReportRows.{row_more, rows_filled}
use Rattle.diagnosis.proofs.assessment.HouseAssessment.rows.Goals as goal

pub loop-at-init : goal.loop-at-init
unfolding joined
loop-at-init c = record { written = refl; long = refl }

pub loop-at-preserved : goal.loop-at-preserved
loop-at-preserved c =
    let places : List Assessment = c.args.self.now.places in
    let inside : c.loop-at.at < c.args.self.now.count = omega (arith, length-take-le c.args.self.now.count places) in
    let room : c.loop-at.at < length c.loop-at.rows = omega arith in
    record {
      written = row_more c.args.self.now c.loop-at.rows c.loop-at.at room c.loop-at.invariant.written
          (c.result_row.ensures ∙ rw (get_or-take c.args.self.now.count places c.loop-at.at no_assessment inside, direction_listed (c.loop-at.at % 2) (omega arith)) refl);
      long = length-set _ _ _ ∙ c.loop-at.invariant.long;
    }

pub returns : goal.returns
returns c =
    let places : List Assessment = c.args.self.now.places in
    let all : c.loop-at.at ≡ c.args.self.now.count = omega (arith, length-take-le c.args.self.now.count places) in
    rows_filled c.args.self.now c.loop-at.rows (omega arith) (rw all at c.loop-at.invariant.written) c.verdict_row.ensures
