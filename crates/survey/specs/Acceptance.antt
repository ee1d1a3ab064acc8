-- What a table that is refused on no ground is made of. Document 01, "What a refused sheet is told": "No refusal is given on any other
-- ground". A table is accepted just where it is made so (proofs/Theorems.antt, `accepted` and `made_accepted`).
use Rattle.std.specs.Prelude.{◌≡◌, true, List, ℕ, ◌+◌, ◌<◌, ◌≤◌, length, get_or}
use Rattle.answer.specs.Length.{most_walls, Whole}
use Rattle.calendar.specs.Days.{is_day}
use Rattle.survey.specs.Table.{cell, storeys, ends_storey, first_wall, wall_rows, parts_row, dates_row, rows_due}
use Rattle.survey.specs.declared.ranges.Range.{Range}
use Rattle.survey.specs.Ranges.{lows, highs, house_columns, storey_columns, ends_columns, wall_columns, parts_columns, dates_columns}
use Rattle.survey.specs.Judgement.{within}

-- Every number of a row lies in its column's range.
abbrev pub Inside : List Range → List ℕ → ℕ → Type 0
Inside ranges table row =
    (column : ℕ) → column < 8 → (get_or (lows ranges) column 0 ≤ cell table row column) × (cell table row column ≤ get_or (highs ranges) column 0)

-- What an accepted table is made of.
pub record Accepted (table : List ℕ) : Type 0 where
  -- Whole rows, not too many, and the dates row is the last.
  pub sizes : Whole 8 (length table) (rows_due table)
  -- Every row's columns lie in their ranges: the house,
  pub house_inside : Inside (house_columns table) table 0
  -- a storey, which stands in the row of its number,
  pub storey_inside : (row : ℕ) → 0 < row → row ≤ storeys table → Inside (storey_columns row) table row
  -- the ends, between the storeys and the walls,
  pub ends_inside : (row : ℕ) → storeys table < row → row < first_wall table → Inside (ends_columns table row) table row
  -- a wall, between the ends and the parts,
  pub wall_inside : (row : ℕ) → first_wall table ≤ row → row < parts_row table → Inside (wall_columns table row) table row
  -- the parts,
  pub parts_inside : Inside parts_columns table (parts_row table)
  -- and the dates.
  pub dates_inside : Inside dates_columns table (dates_row table)
  -- The two ends' areas are at most their storey's.
  pub ends_fit : (row : ℕ) → storeys table < row → row < first_wall table → cell table row 3 + cell table row 4 ≤ cell table (ends_storey table row) 2
  -- The walls' storeys never fall, and there are not too many walls.
  pub sorted : (row : ℕ) → first_wall table ≤ row → row + 1 < parts_row table → cell table row 1 ≤ cell table (row + 1) 1
  pub few : wall_rows table ≤ most_walls
  -- Every mark is on a part that is present, and some part is.
  pub marks_present : within (cell table (parts_row table) 2) (cell table (parts_row table) 1) ≡ true
  pub some_present : 0 < cell table (parts_row table) 1
  -- Start of work, completion and survey day are days, and none is before the one to its left (document 02, request 3).
  pub days :
      (is_day (cell table (dates_row table) 1) ≡ true) × (is_day (cell table (dates_row table) 2) ≡ true) × (is_day (cell table (dates_row table) 3) ≡ true)
  pub in_order : (cell table (dates_row table) 1 ≤ cell table (dates_row table) 2) × (cell table (dates_row table) 2 ≤ cell table (dates_row table) 3)
