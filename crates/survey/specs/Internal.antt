-- What only the code needs. No promise to callers and no theorem is stated with these.
use Rattle.std.specs.Prelude.{◌≡◌, false, List, Result, Ok, Err, ℕ, ◌+◌, ◌<◌, ◌≤◌, length}
use Rattle.answer.specs.Length.{Whole}
use Rattle.answer.specs.declared.refusal.Refusal.{Refusal}
use Rattle.survey.specs.declared.row.RowFault.{RowFault}
use Rattle.survey.specs.Judgement.{faulty, row_fault}

-- A table of so many whole rows has been judged as far as a row: no row before it has a fault.
pub record JudgedTo (table : List ℕ) (rows row : ℕ) : Type 0 where
  pub size : Whole 8 (length table) rows
  pub reached : row ≤ rows
  pub clean : (k : ℕ) → k < row → faulty (row_fault table k) ≡ false

-- What a test of a row answers, with the row that a refusal names.
abbrev pub told_by_row : ℕ → Result (Unit {0}) RowFault → Result (Unit {0}) Refusal
told_by_row row (Ok done) = Ok done
told_by_row row (Err found) = Err (record { reason = found.reason; row = row + 1; column = found.column })
