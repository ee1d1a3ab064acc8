-- The theorems over a table's rows, with the examples worked from the definitions in them. Each is proved in the file that it cites.
-- Assumes nothing.
use Rattle.std.proofs.Common.{◌≡◌, true, List, [], ◌∷◌, map, ℕ, ◌<◌, ◌≤◌, eqb, set}
use Rattle.answer.specs.Told.{counted, refusal, lent_space_short, dates_out_of_order}
use Rattle.answer.specs.Houses.{p1, two_storeys}
use Rattle.calendar.specs.Days.{is_day}
use Rattle.survey.specs.Table.{cell, storeys, first_ends, ends_row, ends_storey, ends_direction, first_wall, wall_rows, parts_row, dates_row, rows_due}
use Rattle.survey.specs.Ranges as ranges
use Rattle.survey.specs.Judgement.{judging}
use Rattle.survey.specs.Acceptance.{Accepted}
use Rattle.survey.specs.Walls.{storey_walls, storey_run}
use Rattle.survey.specs.Worked.{dates_changed, dates_told, ground_walls, upper_walls, of_storeys}
use Rattle.survey.proofs.RefusalNumbers as refusal_numbers
use Rattle.survey.proofs.Acceptance as acceptance
use Rattle.survey.proofs.StoreyWalls as shown_walls
use Rattle.survey.proofs.Examples as examples

-- Which refusal a table gets. A table that is refused on no ground is made as the papers say,
pub accepted : (table : List ℕ) → (judging table).number ≡ 0 → Accepted table
accepted table h = acceptance.accepted table h

-- and a table that is made so is accepted, with all its rows counted: it is refused only where the papers name a refusal for it.
pub made_accepted : (table : List ℕ) → Accepted table → judging table ≡ counted (rows_due table)
made_accepted table made = acceptance.made_accepted table made

-- Whatever is accepted is told the count of its rows, of which the dates row is the last.
pub accepted_count : (table : List ℕ) → (judging table).number ≡ 0 → judging table ≡ counted (rows_due table)
accepted_count table h = acceptance.accepted_count table h

-- No number above 11 is told, and judging never tells of lent space.
pub judging_known : (table : List ℕ) → ((judging table).number ≤ dates_out_of_order) × ((judging table).number ≡ lent_space_short → ⊥)
judging_known table = refusal_numbers.judging_known table

-- What judging tells is a count just where the number is 0, so a host can tell by the number.
pub judging_by_number : (table : List ℕ) → (judging table).is_count ≡ eqb (judging table).number 0
judging_by_number table = refusal_numbers.judging_by_number table

-- A storey's walls. Of an accepted table the first unbroken run of a storey's wall rows is all of its walls.
pub run_is_walls : (table : List ℕ) → (judging table).number ≡ 0 → (storey : ℕ) → storey_run table storey ≡ storey_walls table storey
run_is_walls table h storey = shown_walls.run_is_walls table h storey

-- The part "is empty where scoring refuses the table or the house lacks the storey".
pub walls_refused : (table : List ℕ) (storey : ℕ) → ((judging table).number ≡ 0 → ⊥) → storey_walls table storey ≡ []
walls_refused table storey refused = shown_walls.walls_refused table storey refused

pub walls_lacking : (table : List ℕ) → (judging table).number ≡ 0 → (storey : ℕ) → (1 ≤ storey → storey ≤ storeys table → ⊥)
    → storey_walls table storey ≡ []
walls_lacking table h storey lacking = shown_walls.walls_lacking table h storey lacking

-- The definitions worked through. A number by its row and column, from 0, and 0 beyond a table.
pub cells_read :
    cell p1 1 3 ∷ cell p1 10 1 ∷ cell p1 11 3 ∷ cell p1 12 0 ∷ cell (7 ∷ []) 0 0 ∷ cell (7 ∷ []) 0 1 ∷ []
    ≡ 5000 ∷ 8191 ∷ 20120401 ∷ 0 ∷ 7 ∷ 0 ∷ []
cells_read = examples.cells_read

-- P1 is accepted with its twelve rows,
pub p1_judged : judging p1 ≡ counted 12
p1_judged = examples.p1_judged

-- and refused with a number changed, or two: a storey's row of kind 4; zone 95; snow 4; ends 0.01 m² larger than their storey; a mark on a part that
-- is absent; no part present. (The 301st wall is run by the program `run_surveys`.)
pub refusals_told : map judging (set p1 8 4 ∷ set p1 3 95 ∷ set p1 7 4 ∷ set p1 19 3001 ∷ set p1 81 8183 ∷ set (set p1 81 0) 82 0 ∷ [])
    ≡ refusal 3 2 1 ∷ refusal 4 1 4 ∷ refusal 4 1 8 ∷ refusal 6 3 4 ∷ refusal 7 11 3 ∷ refusal 8 11 2 ∷ []
refusals_told = examples.refusals_told

-- With 1 for repaired in column 4 of its parts row it is accepted, with 2 there, or 1 in column 5, it is refused.
pub repaired_told : map judging (set p1 83 1 ∷ set p1 83 2 ∷ set p1 84 1 ∷ []) ≡ counted 12 ∷ refusal 4 11 4 ∷ refusal 4 11 5 ∷ []
repaired_told = examples.repaired_told

-- The same with its age or its dates changed: nine are refused, and where start of work, completion and survey are on one day it is accepted.
pub dates_told_lem : map judging dates_changed ≡ dates_told
dates_told_lem = examples.dates_told_lem

-- A house of two storeys is accepted with its fifteen rows, whatever the five numbers are that may differ in demand 3, each in its range.
pub two_judged : (weight zone ground_class survey_day marked : ℕ)
    → (1 ≤ weight) × (weight ≤ 3) → ranges.zone zone ≡ zone → (1 ≤ ground_class) × (ground_class ≤ 2)
    → (is_day survey_day ≡ true) × (19980401 ≤ survey_day) × (survey_day ≤ 21991231) → marked ≤ 8191
    → judging (two_storeys weight zone ground_class survey_day marked) ≡ counted 15
two_judged weight zone ground_class survey_day marked w z g s m = examples.two_judged weight zone ground_class survey_day marked w z g s m

-- Document 01's zones are such.
pub zones_known : (ranges.zone 70 ≡ 70) × (ranges.zone 80 ≡ 80) × (ranges.zone 90 ≡ 90) × (ranges.zone 100 ≡ 100)
zones_known = examples.zones_known

-- Where its rows stand, from 0: two storeys, the first ends in row 3, those of storey 2 in direction 1 in row 5, the first of six walls in
-- row 7, the parts in row 13, the dates in row 14, and that is the last of 15.
pub rows_stand :
    let two = two_storeys 1 90 1 20080331 2048 in
    storeys two ∷ first_ends two ∷ ends_row two 2 1 ∷ ends_storey two 5 ∷ ends_direction two 5
    ∷ first_wall two ∷ wall_rows two ∷ parts_row two ∷ dates_row two ∷ rows_due two
    ∷ []
    ≡ 2 ∷ 3 ∷ 5 ∷ 2 ∷ 1 ∷ 7 ∷ 6 ∷ 13 ∷ 14 ∷ 15 ∷ []
rows_stand = examples.rows_stand

-- In a zone that is none it is refused.
pub two_refused : judging (two_storeys 1 95 1 20080331 2048) ≡ refusal 4 1 4
two_refused = examples.two_refused

-- Its walls of storeys 0 to 3, and the first run of each. Refused, it shows none, though it has the same wall rows.
pub two_walls :
    let two = two_storeys 1 90 1 20080331 2048 in
    let refused = two_storeys 1 95 1 20080331 2048 in
    (of_storeys (storey_walls two) ≡ [] ∷ ground_walls ∷ upper_walls ∷ [] ∷ [])
    × (of_storeys (storey_run two) ≡ [] ∷ ground_walls ∷ upper_walls ∷ [] ∷ [])
    × (of_storeys (storey_walls refused) ≡ [] ∷ [] ∷ [] ∷ [] ∷ [])
    × (of_storeys (storey_run refused) ≡ [] ∷ ground_walls ∷ upper_walls ∷ [] ∷ [])
two_walls = examples.two_walls

-- A run ends where another storey's wall comes: here the second of the ground storey's three is made one.
pub run_ends : storey_run (set (two_storeys 1 90 1 20080331 2048) 65 2) 1 ≡ 4 ∷ 1 ∷ 1 ∷ 1 ∷ 50 ∷ 11000 ∷ 1 ∷ 1 ∷ []
run_ends = examples.run_ends

-- The theorems above, where their premises hold.
pub two_accepted : Accepted (two_storeys 1 90 1 20080331 2048)
two_accepted = examples.two_accepted

pub two_made : judging (two_storeys 1 90 1 20080331 2048) ≡ counted (rows_due (two_storeys 1 90 1 20080331 2048))
two_made = examples.two_made

pub two_run : (storey : ℕ) → storey_run (two_storeys 1 90 1 20080331 2048) storey ≡ storey_walls (two_storeys 1 90 1 20080331 2048) storey
two_run = examples.two_run

pub two_lacking : (storey : ℕ) → 2 < storey → storey_walls (two_storeys 1 90 1 20080331 2048) storey ≡ []
two_lacking = examples.two_lacking

pub two_refused_walls : (storey : ℕ) → storey_walls (two_storeys 1 95 1 20080331 2048) storey ≡ []
two_refused_walls = examples.two_refused_walls
