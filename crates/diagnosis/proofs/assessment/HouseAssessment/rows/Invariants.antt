-- The loop of `HouseAssessment::rows`: the rows before this place are written, and there is room for seven.
use Rattle.std.proofs.Common.{◌≡◌, length, take}
use Rattle.std.specs.List.{flat_map}
use Rattle.diagnosis.proofs.ReportRows.{rows_below}
use Rattle.diagnosis.proofs.assessment.HouseAssessment.rows.Given as goal

abbrev pub invariant-loop-at : goal.invariant-loop-at
invariant-loop-at l = record {
  written : flat_map (λ row. row) (take l.at l.rows) ≡ rows_below l.self l.at;
  long : length l.rows ≡ 7;
}
