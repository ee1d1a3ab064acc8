-- The definitions worked through, by computation: document 01's P1 and a house of two storeys are accepted, where their rows stand, which
-- walls each storey has, and a table for each refusal. Assumes nothing.
use Rattle.std.proofs.Common.{◌≡◌, refl, sym, ap, true, [], ◌∷◌, map, ℕ, ◌%◌, ◌<◌, ◌≤◌, zero-le, le_refl, arith, lit≤, set, eq-eqb, le-ltb}
use lib.Bits.{and_mask}
use Rattle.answer.specs.Houses.{p1, two_storeys}
use Rattle.answer.specs.Told.{Told, counted, refusal}
use Rattle.answer.specs.First.{first}
use Rattle.answer.specs.Length.{rows_in}
use Rattle.calendar.specs.Days.{is_leap, days_in, is_date, is_day}
use Rattle.survey.specs.Table.{cell, storeys, first_ends, ends_row, ends_storey, ends_direction, first_wall, wall_rows, parts_row, dates_row, rows_due}
use Rattle.survey.specs.Ranges as ranges
use Rattle.survey.specs.Judgement.{none, faulty, ◌then◌, test, outside, leftmost, wrong_column, house_fault, storey_fault, ends_fault, storey_before, wall_fault, within, parts_fault, days_fault, order_fault, dates_fault, row_fault, judging}
use Rattle.survey.specs.Acceptance.{Accepted}
use Rattle.survey.specs.Walls.{rows_from, rows_where, is_wall_of, storey_walls, run_start, run_length, storey_run}
use Rattle.survey.specs.Worked.{dates_changed, dates_told, ground_walls, upper_walls, of_storeys}
use Rattle.survey.specs.Internal.{JudgedTo}
use Rattle.answer.proofs.Places.{before_first}
use Rattle.survey.proofs.Judging.{judging_accepted}
use Rattle.survey.proofs.Acceptance.{accepted, made_accepted}
use Rattle.survey.proofs.StoreyWalls.{run_is_walls, walls_refused, walls_lacking}

-- P1 is accepted, with its twelve rows.
pub p1_judged : judging p1 ≡ counted 12
unfolding judging rows_in first row_fault house_fault storey_fault ends_fault wall_fault parts_fault days_fault order_fault dates_fault wall_rows ranges.zone storey_before within wrong_column leftmost outside test ◌then◌ is_day is_date days_in is_leap
p1_judged = refl

-- P1 with a number changed, or two: the refusals, with row and column.
pub refusals_told : map judging (set p1 8 4 ∷ set p1 3 95 ∷ set p1 7 4 ∷ set p1 19 3001 ∷ set p1 81 8183 ∷ set (set p1 81 0) 82 0 ∷ [])
    ≡ refusal 3 2 1 ∷ refusal 4 1 4 ∷ refusal 4 1 8 ∷ refusal 6 3 4 ∷ refusal 7 11 3 ∷ refusal 8 11 2 ∷ []
unfolding p1_judged
refusals_told = refl

-- Repaired, neither repaired nor not, and with a number in the column after that.
pub repaired_told : map judging (set p1 83 1 ∷ set p1 83 2 ∷ set p1 84 1 ∷ []) ≡ counted 12 ∷ refusal 4 11 4 ∷ refusal 4 11 5 ∷ []
unfolding p1_judged
repaired_told = refl

-- And its dates row changed, or missing, or the age.
pub dates_told_lem : map judging dates_changed ≡ dates_told
unfolding p1_judged
dates_told_lem = refl

-- A house of two storeys is accepted, with its fifteen rows, whatever the five numbers are that may differ in demand 3, each in its range.
-- They stand in the house row, the parts row and the dates row. The other rows are computed.
abbrev pub Surveyed : ℕ → Type 0
Surveyed survey_day = (is_day survey_day ≡ true) × (19980401 ≤ survey_day) × (survey_day ≤ 21991231)

built : (is_day 19970601 ≡ true) × (is_day 19980401 ≡ true)
unfolding is_day is_date days_in is_leap
built = (refl, refl)

module _ (weight zone ground_class survey_day marked : ℕ) where
  house_clean : (1 ≤ weight) × (weight ≤ 3) → ranges.zone zone ≡ zone → (1 ≤ ground_class) × (ground_class ≤ 2)
      → house_fault (two_storeys weight zone ground_class survey_day marked) ≡ none
  unfolding house_fault wrong_column leftmost outside first test ◌then◌
  house_clean w z g =
      rw (
        z,
        le-ltb weight 1 w.0,
        le-ltb 3 weight w.1,
        le-ltb zone zone (le_refl zone),
        le-ltb ground_class 1 g.0,
        le-ltb 2 ground_class g.1,
      )

  parts_clean : marked ≤ 8191 → parts_fault (two_storeys weight zone ground_class survey_day marked) 13 ≡ none
  unfolding parts_fault wrong_column leftmost outside first test ◌then◌ within
  parts_clean m =
      let all : marked % 8192 ≡ marked = omega arith in
      rw (le-ltb marked 0 zero-le, le-ltb 8191 marked m, and_mask marked 13, eq-eqb (marked % 8192) marked all)

  dates_clean : Surveyed survey_day → dates_fault (two_storeys weight zone ground_class survey_day marked) 14 ≡ none
  unfolding dates_fault days_fault order_fault wrong_column leftmost outside first test ◌then◌
  dates_clean s =
      rw (le-ltb survey_day 19000101 (omega arith), le-ltb 21991231 survey_day s.2, built.0, built.1, s.0, le-ltb survey_day 19980401 s.1)

  all_clean : (1 ≤ weight) × (weight ≤ 3) → ranges.zone zone ≡ zone → (1 ≤ ground_class) × (ground_class ≤ 2) → Surveyed survey_day → marked ≤ 8191
      → first (λ row. faulty (row_fault (two_storeys weight zone ground_class survey_day marked) row)) 15 ≡ 15
  unfolding first row_fault storey_fault ends_fault wall_fault wall_rows storey_before wrong_column leftmost outside test ◌then◌
  all_clean w z g s m = rw (house_clean w z g, parts_clean m, dates_clean s)

  rows_due_lem : rows_due (two_storeys weight zone ground_class survey_day marked) ≤ 15
  unfolding wall_rows first
  rows_due_lem = lit≤ tt

  pub two_judged : (1 ≤ weight) × (weight ≤ 3) → ranges.zone zone ≡ zone → (1 ≤ ground_class) × (ground_class ≤ 2) → Surveyed survey_day → marked ≤ 8191
      → judging (two_storeys weight zone ground_class survey_day marked) ≡ counted 15
  two_judged w z g s m =
      let house = two_storeys weight zone ground_class survey_day marked in
      let judged : JudgedTo house 15 15 = record {
        size = record { some = lit≤ tt; most = lit≤ tt; whole = refl };
        reached = le_refl 15;
        clean = λ row l. before_first (λ i. faulty (row_fault house i)) 15 row (rw (all_clean w z g s m) l);
      } in
      sym (judging_accepted judged refl rows_due_lem)

-- Document 01's zones.
pub zones_known : (ranges.zone 70 ≡ 70) × (ranges.zone 80 ≡ 80) × (ranges.zone 90 ≡ 90) × (ranges.zone 100 ≡ 100)
unfolding ranges.zone
zones_known = (refl, refl, refl, refl)

-- One of these houses, and the same in a zone that is none, which is refused.
pub two_counted : judging (two_storeys 1 90 1 20080331 2048) ≡ counted 15
unfolding is_day is_date days_in is_leap
two_counted = two_judged 1 90 1 20080331 2048 (lit≤ tt, lit≤ tt) zones_known.2 (lit≤ tt, lit≤ tt) (refl, lit≤ tt, lit≤ tt) (lit≤ tt)

pub two_refused : judging (two_storeys 1 95 1 20080331 2048) ≡ refusal 4 1 4
unfolding p1_judged
two_refused = refl

-- Numbers of a table by row and column, from 0; beyond a table, be it whole rows or not, they are 0.
pub cells_read :
    cell p1 1 3 ∷ cell p1 10 1 ∷ cell p1 11 3 ∷ cell p1 12 0 ∷ cell (7 ∷ []) 0 0 ∷ cell (7 ∷ []) 0 1 ∷ []
    ≡ 5000 ∷ 8191 ∷ 20120401 ∷ 0 ∷ 7 ∷ 0 ∷ []
cells_read = refl

-- Where the rows of the house of two storeys stand, from 0: two storeys, the first ends in row 3, those of storey 2 in direction 1 in row 5,
-- the first of six walls in row 7, the parts in row 13, the dates in row 14, and that is the last of 15.
pub rows_stand :
    let two = two_storeys 1 90 1 20080331 2048 in
    storeys two ∷ first_ends two ∷ ends_row two 2 1 ∷ ends_storey two 5 ∷ ends_direction two 5
    ∷ first_wall two ∷ wall_rows two ∷ parts_row two ∷ dates_row two ∷ rows_due two
    ∷ []
    ≡ 2 ∷ 3 ∷ 5 ∷ 2 ∷ 1 ∷ 7 ∷ 6 ∷ 13 ∷ 14 ∷ 15 ∷ []
unfolding wall_rows first
rows_stand = refl

-- Its walls of storeys 0 to 3, and the first run of each. Refused, it shows none, though it has the same wall rows.
pub two_walls :
    let two = two_storeys 1 90 1 20080331 2048 in
    let refused = two_storeys 1 95 1 20080331 2048 in
    (of_storeys (storey_walls two) ≡ [] ∷ ground_walls ∷ upper_walls ∷ [] ∷ [])
    × (of_storeys (storey_run two) ≡ [] ∷ ground_walls ∷ upper_walls ∷ [] ∷ [])
    × (of_storeys (storey_walls refused) ≡ [] ∷ [] ∷ [] ∷ [] ∷ [])
    × (of_storeys (storey_run refused) ≡ [] ∷ ground_walls ∷ upper_walls ∷ [] ∷ [])
unfolding storey_walls rows_where rows_from is_wall_of storey_run run_start run_length first
two_walls = (rw two_counted, refl, rw two_refused, refl)

-- A run ends where another storey's wall comes: here the second of the ground storey's three is made one.
pub run_ends : storey_run (set (two_storeys 1 90 1 20080331 2048) 65 2) 1 ≡ 4 ∷ 1 ∷ 1 ∷ 1 ∷ 50 ∷ 11000 ∷ 1 ∷ 1 ∷ []
unfolding two_walls
run_ends = refl

-- The theorems of acceptance and of walls, where their premises hold.
two_number : (judging (two_storeys 1 90 1 20080331 2048)).number ≡ 0
two_number = ap (λ (t : Told). t.number) two_counted

pub two_accepted : Accepted (two_storeys 1 90 1 20080331 2048)
two_accepted = accepted (two_storeys 1 90 1 20080331 2048) two_number

pub two_made : judging (two_storeys 1 90 1 20080331 2048) ≡ counted (rows_due (two_storeys 1 90 1 20080331 2048))
two_made = made_accepted (two_storeys 1 90 1 20080331 2048) two_accepted

pub two_run : (storey : ℕ) → storey_run (two_storeys 1 90 1 20080331 2048) storey ≡ storey_walls (two_storeys 1 90 1 20080331 2048) storey
two_run storey = run_is_walls (two_storeys 1 90 1 20080331 2048) two_number storey

pub two_lacking : (storey : ℕ) → 2 < storey → storey_walls (two_storeys 1 90 1 20080331 2048) storey ≡ []
two_lacking storey above = walls_lacking (two_storeys 1 90 1 20080331 2048) two_number storey (λ some most. omega arith)

pub two_refused_walls : (storey : ℕ) → storey_walls (two_storeys 1 95 1 20080331 2048) storey ≡ []
two_refused_walls storey = walls_refused (two_storeys 1 95 1 20080331 2048) storey (λ h. omega (arith, ap (λ (t : Told). t.number) two_refused))
