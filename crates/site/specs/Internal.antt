-- What only the code needs. No promise to callers and no theorem is stated with these.
use Rattle.std.specs.Prelude.{◌≡◌, ℕ, ◌-◌, ◌≤◌, cond, ◌&&◌, List, Option, Some, None, ltb}
use Rattle.survey.specs.Table.{cell, is_wall}
use Rattle.diagnosis.specs.Answers.{told_record, number_at, record_with}
use Rattle.site.specs.declared.changes.Changed.{Changed}
use Rattle.site.specs.Totals.{with_total, some_above}
use Rattle.site.specs.Changes.{State, rows_of}

-- A wall's eight numbers name a storey of a house of so many, and a direction.
pub record InStoreys (wall : List ℕ) (storeys : ℕ) : Type 0 where
  pub some_storey : 1 ≤ cell wall 0 1
  pub last_storey : cell wall 0 1 ≤ storeys
  pub some_direction : 1 ≤ cell wall 0 2
  pub last_direction : cell wall 0 2 ≤ 2

-- Six totals with another for a wall's, where there is another and then none of the house's is above 60,000 kN.
abbrev pub moved : List ℕ → List ℕ → ℕ → Option ℕ → Option (List ℕ)
moved held wall storeys None = None
moved held wall storeys (Some total) =
    let after = with_total held wall 0 total in
    cond (some_above storeys after) None (Some after)

-- The row, from 0, of the wall that stands in a row, which counts from 1.
abbrev pub wall_row : List ℕ → ℕ → Option ℕ
wall_row rows row = cond (ltb 0 row && is_wall rows (row - 1)) (Some (row - 1)) None

-- A change has made this state: its totals, and the record of the scores of those totals.
pub record Made (changed : Changed) (after : State) : Type 0 where
  pub totals : changed.totals ≡ after.totals
  pub answer_is : told_record changed.answer ≡ record_with (rows_of after) (number_at after.totals.held)
