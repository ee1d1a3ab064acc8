-- The definitions worked through on P1, by computation, and uses of the theorems. Assumes nothing.
use Rattle.std.proofs.Common.{◌≡◌, refl, sym, ap, ◌∙◌, true, false, ◌+◌, subst, ℕ, List, [], ◌∷◌, ◌++◌, arith, get_or, ◌<◌, ◌≤◌, drop, length, ◌*◌}
use Rattle.answer.specs.Told.{Told, accepts, counted, refusal}
use Rattle.answer.specs.First.{first}
use Rattle.answer.specs.Lists.{over, joined}
use Rattle.answer.specs.Length.{rows_in}
use Rattle.answer.specs.Houses.{p1, two_storeys}
use Rattle.survey.specs.Table.{wall_rows, storeys}
use Rattle.survey.specs.Judgement.{outside, leftmost, judging, new_wall_column}
use Rattle.survey.specs.Walls.{rows_from}
use Rattle.survey.proofs.Examples.{p1_judged}
use Rattle.survey.proofs.Acceptance.{accepted_count}
use Rattle.method.specs.Printed.{nth}
use Rattle.method.specs.Held.{position, foundation_used, shared_row, top_entry, entry_in, entry, interpolated, row_factor, joint_factor, solid_share, opening_share, wall_share, held_strength}
use Rattle.diagnosis.specs.Rows.{house_of}
use Rattle.diagnosis.specs.House.{in_direction, held, row_share}
use Rattle.diagnosis.specs.Answers.{ToldScoring, number_at, six_numbers}
use Rattle.diagnosis.proofs.Examples.{p1_walls}
use Rattle.diagnosis.proofs.ScoreLists.{one_or_two}
use Rattle.site.specs.Runs.{add, delete, answer_of, after, after_run, Own}
use Rattle.site.specs.Rows.{with_row, without_row, after_last, row_due}
use Rattle.site.specs.Totals.{total_added, total_taken, some_above}
use Rattle.site.specs.Changes.{on, rows_of, checking, started, starting, left, row_taken, adding, deleting, addition, add_told, with_wall, deletion, delete_told, without_wall, empty_row, State, after_adding, after_deleting}
use Rattle.site.specs.Worked.{behind, p1_with, own_totals, p1_site, p1_lacking, middle_wall, p1_wider, p1_without_window, worked_checks, expected_checks, worked_additions, expected_additions, worked_deletions, expected_deletions, worked_run, site_wider, site_after, nines, over_the_most, two_on_site}
use Rattle.site.proofs.AcceptedChanges.{accepted_left, answered_scored, answered_refused}
use Rattle.site.proofs.OwnRuns.{started_own, after_own, wall_deleted}
use Rattle.site.proofs.Answers.{every_wall_added, added_and_deleted}

-- No row is refused as a table of no length.
none_judged : judging [] ≡ refusal 1 0 0
unfolding judging rows_in
none_judged = refl

pub checks_told : worked_checks ≡ expected_checks
unfolding checking
checks_told = rw (p1_judged, none_judged)

pub additions_told : worked_additions ≡ expected_additions
unfolding checks_told add_told addition new_wall_column leftmost outside first wall_rows total_added some_above after_last row_due position foundation_used shared_row top_entry entry_in entry interpolated row_factor joint_factor solid_share opening_share wall_share nth
additions_told = rw p1_judged

pub deletions_told : worked_deletions ≡ expected_deletions
unfolding additions_told delete_told deletion total_taken
deletions_told = rw p1_judged

-- The states that they make.
pub wall_added : with_wall p1_site (middle_wall 1) ≡ site_wider
unfolding additions_told with_wall with_row over
wall_added = refl

pub window_deleted : without_wall p1_site 6
    ≡ on (p1_without_window ++ empty_row ++ behind) (record { held = 8_000_000 ∷ 16_000_000 ∷ 0 ∷ 0 ∷ 0 ∷ 0 ∷ []; rows = 11 })
unfolding deletions_told without_wall without_row over
window_deleted = refl

-- The row that a new wall takes: of storeys 0 to 3 in P1, and in a house of two storeys, whose walls stand in rows 7 to 12, from 0.
pub p1_rows_taken :
    row_due p1 0 ∷ row_due p1 1 ∷ row_due p1 2 ∷ []
    ≡ 4 ∷ 10 ∷ 10 ∷ []
unfolding row_due after_last wall_rows first
p1_rows_taken = refl

pub two_rows_taken :
    let two = two_storeys 1 90 1 20080331 2048 in
    row_due two 0 ∷ row_due two 1 ∷ row_due two 2 ∷ row_due two 3 ∷ []
    ≡ 7 ∷ 10 ∷ 13 ∷ 13 ∷ []
unfolding p1_rows_taken
two_rows_taken = refl

-- P1's own totals.
p1_held : (held p1 1 1 ≡ 9_200_000) × (held p1 1 2 ≡ 16_000_000)
unfolding held held_strength in_direction rows_from additions_told
p1_held = (rw p1_walls, rw p1_walls)

-- So any record of its rows has its own sums by which the ground storey's two totals are these.
own_by : (s : State) → rows_of s ≡ p1 → length s.totals.held ≡ 6 → 8 * s.totals.rows ≤ length s.table
    → number_at s.totals.held 1 1 ≡ 9_200_000 → number_at s.totals.held 1 2 ≡ 16_000_000 → Own s
own_by s rows six fits in_x in_y = record {
  six = six;
  fits = fits;
  rows_accepted = rw rows (ap (λ (t : Told). t.number) p1_judged);
  sums = rw rows (λ storey direction here.
      let ground : storey ≡ 1 = omega (arith, here.some_storey, here.last_storey) in
      let one : number_at s.totals.held 1 1 ≡ held p1 1 1 = in_x ∙ sym p1_held.0 in
      let two : number_at s.totals.held 1 2 ≡ held p1 1 2 = in_y ∙ sym p1_held.1 in
      rw ground (one_or_two (λ d. number_at s.totals.held 1 d ≡ held p1 1 d) one two direction here.some_direction here.last_direction));
}

pub p1_own : Own p1_site
p1_own = own_by p1_site refl refl (omega arith) refl refl

pub full_own : Own (on p1 p1_site.totals)
full_own = own_by (on p1 p1_site.totals) refl refl (omega arith) refl refl

pub lacking_own : Own p1_lacking
lacking_own = own_by p1_lacking refl refl (omega arith) refl refl

-- A run of changes, one of them refused.
after_wall : after p1_site (add (middle_wall 1)) ≡ site_wider
unfolding left
after_wall = rw (told_first, wall_added)
  where
    told_first : add_told p1_site (middle_wall 1) ≡ counted 13
    told_first = ap (λ (l : List Told). get_or l 0 (counted 0)) additions_told

wider_own : Own site_wider
wider_own = subst Own after_wall (after_own p1_site p1_own (add (middle_wall 1)) refl)

wider_judged : judging p1_wider ≡ counted 13
unfolding wall_rows first
wider_judged = accepted_count p1_wider wider_own.rows_accepted

not_added : add_told site_wider (middle_wall 2) ≡ refusal 4 12 2
unfolding additions_told
not_added = rw wider_judged

window_told : delete_told site_wider 6 ≡ counted 12
unfolding deletions_told
window_told = rw wider_judged

window_gone : without_wall site_wider 6 ≡ site_after
unfolding window_deleted
window_gone = refl

pub run_worked : after_run p1_site worked_run ≡ site_after
unfolding after_run left
run_worked = rw (after_wall, not_added, window_told, window_gone)

-- Premises of the theorems' uses.
pub wall_scored : (adding p1_site (middle_wall 1)).scored ≡ true
wall_scored = answered_scored (add_told p1_site (middle_wall 1)) (with_wall p1_site (middle_wall 1)) ∙ ap (λ (l : List Told). accepts (get_or l 0 (counted 0))) additions_told

pub second_refused : (adding p1_site (middle_wall 2)).scored ≡ false
second_refused = answered_scored (add_told p1_site (middle_wall 2)) (with_wall p1_site (middle_wall 2)) ∙ ap (λ (l : List Told). accepts (get_or l 2 (counted 0))) additions_told

end_told : delete_told p1_site 4 ≡ refusal 12 4 0
end_told = ap (λ (l : List Told). get_or l 1 (counted 0)) deletions_told

pub end_refused : (deleting p1_site 4).scored ≡ false
end_refused = answered_scored (delete_told p1_site 4) (without_wall p1_site 4) ∙ ap accepts end_told

pub end_twelve : (deleting p1_site 4).number ≡ 12
end_twelve =
    ap (λ (t : ToldScoring). t.number) (answered_refused (delete_told p1_site 4) (without_wall p1_site 4) (ap accepts end_told)) ∙ ap (λ (t : Told). t.number) end_told

pub start_scored : (starting (p1_with (9 ∷ 9 ∷ 9 ∷ 9 ∷ 9 ∷ 9 ∷ []) 12)).scored ≡ true
unfolding checking
start_scored = answered_scored (checking (p1_with (9 ∷ 9 ∷ 9 ∷ 9 ∷ 9 ∷ 9 ∷ []) 12)) (started (p1_with (9 ∷ 9 ∷ 9 ∷ 9 ∷ 9 ∷ 9 ∷ []) 12)) ∙ ap accepts p1_judged

pub start_refused : (starting (p1_with own_totals 0)).scored ≡ false
unfolding checking
start_refused = answered_scored (checking (p1_with own_totals 0)) (started (p1_with own_totals 0)) ∙ ap accepts none_judged

pub window_scored : (answer_of (after_run p1_site (add (middle_wall 1) ∷ add (middle_wall 2) ∷ [])) (delete 6)).scored ≡ true
unfolding run_worked
window_scored = rw (after_wall, not_added) (answered_scored (delete_told site_wider 6) (without_wall site_wider 6) ∙ ap accepts window_told)

pub six_walls : wall_rows (rows_of p1_site) ≡ 6
unfolding wall_rows first
six_walls = refl

-- The wall that is added takes row 11, from 1.
pub row_eleven : row_taken (rows_of p1_site) (middle_wall 1) + 1 ≡ 11
unfolding p1_rows_taken
row_eleven = refl

-- A start and an addition from totals that are no sums (document 02's example, by its numbers).
own_sums : six_numbers p1 (held p1) ≡ own_totals
unfolding six_numbers over joined
own_sums = rw (p1_held.0, p1_held.1) refl

pub start_worked : started (p1_with nines 12) ≡ p1_site
unfolding started
start_worked = rw own_sums refl

pub other_added : with_wall (p1_with (0 ∷ 0 ∷ 7 ∷ 7 ∷ 7 ∷ 7 ∷ []) 12) (middle_wall 1)
    ≡ on (p1_wider ++ drop 8 behind) (record { held = 4_000_000 ∷ 0 ∷ 7 ∷ 7 ∷ 7 ∷ 7 ∷ []; rows = 13 })
unfolding additions_told with_wall with_row over
other_added = refl

-- Premises again: P1's rows pass, with the most room and with none; the walls of P1; a wall in its ranges and one that is not.
passes_judged : (s : State) → accepts (checking s) ≡ true → (starting s).scored ≡ true
passes_judged s e = answered_scored (checking s) (started s) ∙ e

pub own_scored : (starting p1_site).scored ≡ true
unfolding checking
own_scored = passes_judged p1_site (ap accepts p1_judged)

pub over_scored : (starting (p1_with over_the_most 12)).scored ≡ true
unfolding checking
over_scored = passes_judged (p1_with over_the_most 12) (ap accepts p1_judged)

pub full_scored : (starting (on p1 p1_site.totals)).scored ≡ true
unfolding checking
full_scored = passes_judged (on p1 p1_site.totals) (ap accepts p1_judged)

pub six_walls_full : wall_rows (rows_of (on p1 p1_site.totals)) ≡ 6
unfolding wall_rows first
six_walls_full = refl

pub middle_ranged : 8 ≤ new_wall_column 1 (middle_wall 1)
unfolding new_wall_column leftmost outside first
middle_ranged = omega arith

full_deleted : accepts (delete_told (on p1 p1_site.totals) 6) ≡ true
full_deleted = wall_deleted (on p1 p1_site.totals) full_own 6 (omega arith) refl

storeys_left : storeys (rows_of (without_wall (on p1 p1_site.totals) 6)) ≡ 1
unfolding without_wall without_row over
storeys_left = refl

pub middle_ranged_after : 8 ≤ new_wall_column (storeys (rows_of (after_deleting (on p1 p1_site.totals) 6))) (middle_wall 1)
middle_ranged_after =
    let left_is = accepted_left (delete_told (on p1 p1_site.totals) 6) (on p1 p1_site.totals) (without_wall (on p1 p1_site.totals) 6) full_deleted in
    rw (left_is, storeys_left) middle_ranged

pub column_two : new_wall_column 1 (middle_wall 0) ≡ 1
unfolding middle_ranged
column_two = refl

pub storey_0_out : new_wall_column (storeys (rows_of p1_site)) (middle_wall 0) < 8
storey_0_out = rw column_two (omega arith)

pub row_five : row_taken (rows_of p1_site) (middle_wall 0) ≡ 4
unfolding p1_rows_taken
row_five = refl

pub total_above : some_above 1 (total_added p1 over_the_most (middle_wall 1)) ≡ true
unfolding additions_told
total_above = refl

pub totals_within : some_above 1 (total_added p1 own_totals (middle_wall 1)) ≡ false
unfolding additions_told
totals_within = refl

pub middle_share : 9_200_000 + row_share (house_of p1) (middle_wall 1) 0 ≡ 13_200_000
unfolding additions_told
middle_share = refl

pub window_share : row_share (house_of p1) p1 5 ≡ 1_200_000
unfolding additions_told
window_share = refl

-- A house of two storeys on site, of any weight class and so on with which it is accepted: it has its own sums after a start, and can be given a wall, in
-- row 11, which can be deleted again and leaves the house's own rows.
module _ (weight zone ground_class survey_day marked : ℕ) (judged : judging (two_storeys weight zone ground_class survey_day marked) ≡ counted 15) where
  abbrev two : List ℕ
  two = two_storeys weight zone ground_class survey_day marked

  two_checked : accepts (checking (on (two ++ behind) (record { held = nines; rows = 15 }))) ≡ true
  unfolding checking
  two_checked = ap accepts judged

  pub two_own : Own (two_on_site two)
  two_own = started_own (on (two ++ behind) (record { held = nines; rows = 15 })) two_checked

  row_eleven_too : row_taken two (middle_wall 1) + 1 ≡ 11
  unfolding p1_rows_taken
  row_eleven_too = refl

  six_walls_too : wall_rows two ≡ 6
  unfolding wall_rows first
  six_walls_too = refl

  middle_ranged_too : 8 ≤ new_wall_column 2 (middle_wall 1)
  unfolding new_wall_column leftmost outside first
  middle_ranged_too = omega arith

  pub wall_and_back :
      ((deleting (after_adding (two_on_site two) (middle_wall 1)) 11).scored ≡ true)
      × (rows_of (after_deleting (after_adding (two_on_site two) (middle_wall 1)) 11) ≡ two)
  unfolding started
  wall_and_back =
      let s = two_on_site two in
      let scored = every_wall_added s two_own (middle_wall 1) refl middle_ranged_too (omega (arith, six_walls_too)) (omega arith) in
      let back = rw row_eleven_too at (added_and_deleted s (middle_wall 1) refl scored two_own.six) in
      (back.0, back.1)
