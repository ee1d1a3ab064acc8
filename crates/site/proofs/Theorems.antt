-- The theorems about changes on site, with the examples worked from the definitions in them. Each is proved in the file that it cites. Assumes nothing.
use Rattle.std.proofs.Common.{◌≡◌, refl, sym, ap, ◌∙◌, arith, true, false, List, [], ◌∷◌, ◌++◌, ℕ, ◌+◌, ◌-◌, ◌*◌, ◌<◌, ◌≤◌, length, drop, get_or}
use Rattle.answer.specs.Told.{too_many_walls, lent_space_short, no_such_wall, out_of_range}
use Rattle.answer.specs.Length.{most_walls}
use Rattle.answer.specs.Houses.{p1, two_storeys}
use Rattle.survey.specs.Table.{cell, is_wall, wall_rows, storeys}
use Rattle.survey.specs.Judgement.{new_wall_column}
use Rattle.diagnosis.specs.Rows.{house_of}
use Rattle.diagnosis.specs.House.{row_share, InHouse}
use Rattle.diagnosis.specs.Answers.{told_refused, scoring, score_at, Scoring, ToldScoring, told_scoring, told_scored, record_with, number_at}
use Rattle.diagnosis.specs.Comparison.{SameOrWorse, BandKept}
use Rattle.diagnosis.specs.Worked.{under_ten_day, ten_day, sound, all_worse}
use Rattle.diagnosis.proofs.Examples.{two_judged}
use Rattle.diagnosis.proofs.Theorems.{comparison, worsened}
use Rattle.site.specs.Rows.{row_due}
use Rattle.site.specs.Totals.{some_above, total_added}
use Rattle.site.specs.Changes.{State, on, rows_of, started, starting, after_starting, row_taken, adding, after_adding, deleting, after_deleting, with_wall, without_wall, empty_row}
use Rattle.site.specs.Runs.{Change, add, delete, EightNumbers, AllEightNumbers, answer_of, after, after_run, Own, Alike, OneMoves}
use Rattle.site.specs.Worked.{behind, p1_wider, p1_with, own_totals, p1_site, p1_lacking, middle_wall, p1_without_window, worked_checks, expected_checks, worked_additions, expected_additions, worked_deletions, expected_deletions, worked_run, site_wider, site_after, nines, over_the_most, two_on_site}
use Rattle.site.proofs.OwnRuns as own_runs
use Rattle.site.proofs.Answers as answers
use Rattle.site.proofs.Unread as unread
use Rattle.site.proofs.Examples as examples

-- Runs of changes

-- A start that is not refused gives a record with its own sums, and answers the scoring of the rows in use, which it answers too where they are refused.
pub start_own : (s : State) → (starting s).scored ≡ true → Own (after_starting s)
start_own s scored = answers.start_own s scored

pub start_fresh : (s : State) → 8 * s.totals.rows ≤ length s.table → starting s ≡ scoring (rows_of s)
start_fresh s fits = answers.start_fresh s fits

-- "After any run of additions and deletions from a checked house whose record starts with its own sums and its count of rows, with nothing else written
-- between, totals equal the sums over the walls present",
pub run_own : (s : State) → Own s → (changes : List Change) → AllEightNumbers changes → Own (after_run s changes)
run_own s own changes eight = own_runs.after_run_own s own changes eight

-- "and scores equal a fresh scoring": whatever is answered then, if it is no refusal.
pub run_fresh : (s : State) → Own s → (changes : List Change) → AllEightNumbers changes → (change : Change) → EightNumbers change
    → (answer_of (after_run s changes) change).scored ≡ true
    → answer_of (after_run s changes) change ≡ scoring (rows_of (after (after_run s changes) change))
run_fresh s own changes all change eight scored = answers.answer_fresh (after_run s changes) (run_own s own changes all) change eight scored

-- So demand 3 goes for the records that are answered on site, of any two houses that it compares, after any runs of changes.
pub comparison_on_site : (s t : State) → Own s → Own t → (changes others : List Change) → AllEightNumbers changes → AllEightNumbers others
    → (change other : Change) → EightNumbers change → EightNumbers other
    → (a b : Scoring) → told_scoring a ≡ answer_of (after_run s changes) change → told_scoring b ≡ answer_of (after_run t others) other
    → (told_scoring a).scored ≡ true → (told_scoring b).scored ≡ true
    → let A = rows_of (after (after_run s changes) change) in
    let B = rows_of (after (after_run t others) other) in
    SameOrWorse A B
    → ((storey direction : ℕ) → InHouse A storey direction → BandKept A B storey direction
    → get_or (told_scoring b).result.scores (score_at storey direction) 0 ≤ get_or (told_scoring a).result.scores (score_at storey direction) 0)
    × (((storey direction : ℕ) → InHouse A storey direction → BandKept A B storey direction) → (told_scoring a).result.verdict ≤ (told_scoring b).result.verdict)
comparison_on_site s t own own' changes others eight eight' change other one one' a b told_a told_b scored_a scored_b worse =
    let A = rows_of (after (after_run s changes) change) in
    let B = rows_of (after (after_run t others) other) in
    let no_better = comparison A B worse in
    let fresh_a = told_a ∙ run_fresh s own changes eight change one (sym (ap (λ (x : ToldScoring). x.scored) told_a) ∙ scored_a) in
    let fresh_b = told_b ∙ run_fresh t own' others eight' other one' (sym (ap (λ (x : ToldScoring). x.scored) told_b) ∙ scored_b) in (
      λ storey direction here kept. no_better.record_full a b fresh_a fresh_b storey direction here kept,
      λ kept. no_better.record_verdict a b fresh_a fresh_b kept,
    )

-- "A refused change or start alters neither table nor record", whatever the record.
pub refused_changes_nothing : (s : State) (change : Change) → (answer_of s change).scored ≡ false → after s change ≡ s
refused_changes_nothing s change refused = answers.refused_after s change refused

pub refused_start_changes_nothing : (s : State) → (starting s).scored ≡ false → after_starting s ≡ s
refused_start_changes_nothing s refused = answers.refused_start s refused

-- Refusals from a record with its own sums. An addition is never refused with 12,
pub addition_never_12 : (s : State) → Own s → (wall : List ℕ) → length wall ≡ 8 → (adding s wall).number ≡ no_such_wall → ⊥
addition_never_12 s own wall eight e = answers.addition_never_12 s own wall eight e

-- and every wall in its ranges can be added, below the limit where a row is left;
pub every_wall_added : (s : State) → Own s → (wall : List ℕ) → length wall ≡ 8 → 8 ≤ new_wall_column (storeys (rows_of s)) wall
    → wall_rows (rows_of s) < most_walls → 8 * (s.totals.rows + 1) ≤ length s.table → (adding s wall).scored ≡ true
every_wall_added s own wall eight ranged few room = answers.every_wall_added s own wall eight ranged few room

-- a deletion's 12 names the row that was asked for, and every wall can be deleted.
pub twelve_names_the_row : (s : State) → Own s → (row : ℕ) → (deleting s row).number ≡ no_such_wall → deleting s row ≡ told_refused no_such_wall row 0
twelve_names_the_row s own row e = answers.twelve_names_the_row s own row e

pub every_wall_deleted : (s : State) → Own s → (row : ℕ) → 0 < row → is_wall (rows_of s) (row - 1) ≡ true → (deleting s row).scored ≡ true
every_wall_deleted s own row some wall = answers.every_wall_deleted s own row some wall

-- Refusals from any record. Where the rows in use pass, an addition is told 4 at the row that it would take; else, at the limit, 5 there; else, with no row
-- left, 9; else, with a total above the most, 12; else it is accepted.
pub range_told : (s : State) → (starting s).scored ≡ true → (wall : List ℕ) → new_wall_column (storeys (rows_of s)) wall < 8
    → adding s wall ≡ told_refused out_of_range (row_taken (rows_of s) wall + 1) (new_wall_column (storeys (rows_of s)) wall + 1)
range_told s passing wall out = answers.range_told s passing wall out

pub limit_told : (s : State) → (starting s).scored ≡ true → (wall : List ℕ) → 8 ≤ new_wall_column (storeys (rows_of s)) wall → wall_rows (rows_of s) ≡ most_walls
    → adding s wall ≡ told_refused too_many_walls (row_taken (rows_of s) wall + 1) 1
limit_told s passing wall ranged all = answers.limit_told s passing wall ranged all

pub space_told : (s : State) → (starting s).scored ≡ true → (wall : List ℕ) → 8 ≤ new_wall_column (storeys (rows_of s)) wall → wall_rows (rows_of s) < most_walls
    → length s.table < 8 * (s.totals.rows + 1) → adding s wall ≡ told_refused lent_space_short 0 0
space_told s passing wall ranged few short = answers.space_told s passing wall ranged few short

pub totals_told : (s : State) → (starting s).scored ≡ true → (wall : List ℕ) → 8 ≤ new_wall_column (storeys (rows_of s)) wall → wall_rows (rows_of s) < most_walls
    → 8 * (s.totals.rows + 1) ≤ length s.table → some_above (storeys (rows_of s)) (total_added (rows_of s) s.totals.held wall) ≡ true
    → adding s wall ≡ told_refused no_such_wall 0 0
totals_told s passing wall ranged few room above = answers.totals_told s passing wall ranged few room above

pub wall_accepted : (s : State) → (starting s).scored ≡ true → (wall : List ℕ) → 8 ≤ new_wall_column (storeys (rows_of s)) wall → wall_rows (rows_of s) < most_walls
    → 8 * (s.totals.rows + 1) ≤ length s.table → some_above (storeys (rows_of s)) (total_added (rows_of s) s.totals.held wall) ≡ false
    → (adding s wall).scored ≡ true
wall_accepted s passing wall ranged few room within = answers.wall_accepted s passing wall ranged few room within

-- "number 5 comes only at the limit",
pub five_at_the_limit : (s : State) → (starting s).scored ≡ true → (wall : List ℕ) → (adding s wall).number ≡ too_many_walls → wall_rows (rows_of s) ≡ most_walls
five_at_the_limit s passing wall e = answers.five_at_the_limit s passing wall e

-- and "a deleted wall's place serves again": after a deletion no addition is refused for the limit or for want of a row; and, from a record with its own
-- sums, every wall in its ranges can be added.
pub place_serves_again : (s : State) (row : ℕ) → (deleting s row).scored ≡ true → (wall : List ℕ)
    → ((adding (after_deleting s row) wall).number ≡ too_many_walls → ⊥) × ((adding (after_deleting s row) wall).number ≡ lent_space_short → ⊥)
place_serves_again s row scored wall = answers.place_serves_again s row scored wall

pub wall_fits_again : (s : State) → Own s → (row : ℕ) → (deleting s row).scored ≡ true → (wall : List ℕ) → length wall ≡ 8
    → 8 ≤ new_wall_column (storeys (rows_of (after_deleting s row))) wall → (adding (after_deleting s row) wall).scored ≡ true
wall_fits_again s own row scored wall eight ranged = answers.wall_fits_again s row scored own wall eight ranged

-- From any record: a wall that is added can be deleted again, which leaves the rows in use and the totals as they were.
pub added_and_deleted : (s : State) (wall : List ℕ) → length wall ≡ 8 → length s.totals.held ≡ 6 → (adding s wall).scored ≡ true
    → let row = row_taken (rows_of s) wall + 1 in
    ((deleting (after_adding s wall) row).scored ≡ true)
    × (rows_of (after_deleting (after_adding s wall) row) ≡ rows_of s)
    × ((after_deleting (after_adding s wall) row).totals ≡ s.totals)
added_and_deleted s wall eight six scored = answers.added_and_deleted s wall eight scored six

-- "Each change moves the total of that wall's storey and direction by that wall's share alone."
pub added_total : (s : State) (wall : List ℕ) → length wall ≡ 8 → length s.totals.held ≡ 6 → (adding s wall).scored ≡ true
    → OneMoves s.totals.held (after_adding s wall).totals.held (score_at (cell wall 0 1) (cell wall 0 2)) (λ before after. after ≡ before + row_share (house_of (rows_of s)) wall 0)
added_total s wall eight six scored = answers.added_total s wall eight six scored

pub taken_total : (s : State) (row : ℕ) → length s.totals.held ≡ 6 → (deleting s row).scored ≡ true
    → let rows = rows_of s in
    OneMoves s.totals.held (after_deleting s row).totals.held (score_at (cell rows (row - 1) 1) (cell rows (row - 1) 2))
    (λ before after. before ≡ after + row_share (house_of rows) rows (row - 1))
taken_total s row six scored = answers.taken_total s row six scored

-- "From any other record, totals so moved and the scores of those totals are what is answered."
pub scores_of_totals : (s : State) (change : Change) → (answer_of s change).scored ≡ true
    → answer_of s change ≡ told_scored (record_with (rows_of (after s change)) (number_at (after s change).totals.held))
scores_of_totals s change scored = answers.scores_of_totals s change scored

-- "rows beyond them aren't read": states that differ in those alone are answered alike, and differ in those alone after any run of changes;
pub run_unread : (s t : State) → Alike s t → (changes : List Change) → AllEightNumbers changes → (change : Change) → EightNumbers change
    → (answer_of (after_run s changes) change ≡ answer_of (after_run t changes) change) × Alike (after_run s changes) (after_run t changes)
run_unread s t alike changes all change eight =
    let then = unread.run_alike s t alike changes all in
    (unread.answer_alike (after_run s changes) (after_run t changes) then change eight, then)

pub start_unread : (s t : State) → Alike s t → (starting s ≡ starting t) × Alike (after_starting s) (after_starting t)
start_unread s t alike = (unread.start_alike s t alike, unread.after_start_alike s t alike)

-- and they stay, but for the one over which a wall that is added moves the last row.
pub behind_added : (s : State) (wall : List ℕ) → length wall ≡ 8 → (adding s wall).scored ≡ true
    → drop (8 * (s.totals.rows + 1)) (after_adding s wall).table ≡ drop (8 * (s.totals.rows + 1)) s.table
behind_added s wall eight scored = answers.behind_added s wall eight scored

pub behind_deleted : (s : State) (row : ℕ) → (deleting s row).scored ≡ true
    → drop (8 * s.totals.rows) (after_deleting s row).table ≡ drop (8 * s.totals.rows) s.table
behind_deleted s row scored = answers.behind_deleted s row scored

-- The definitions worked through, on P1 (document 01, "Houses worked through") with two rows of fives behind its twelve. What is told of the rows in use,
-- of walls that are added and of walls that are deleted;
pub checks_told : worked_checks ≡ expected_checks
checks_told = examples.checks_told

pub additions_told : worked_additions ≡ expected_additions
additions_told = examples.additions_told

pub deletions_told : worked_deletions ≡ expected_deletions
deletions_told = examples.deletions_told

-- the states after a start from totals that are no sums, with a wall more, also by totals that are none, and with the window gone;
pub start_worked : started (p1_with nines 12) ≡ p1_site
start_worked = examples.start_worked

pub other_added : with_wall (p1_with (0 ∷ 0 ∷ 7 ∷ 7 ∷ 7 ∷ 7 ∷ []) 12) (middle_wall 1)
    ≡ on (p1_wider ++ drop 8 behind) (record { held = 4_000_000 ∷ 0 ∷ 7 ∷ 7 ∷ 7 ∷ 7 ∷ []; rows = 13 })
other_added = examples.other_added

pub wall_added : with_wall p1_site (middle_wall 1) ≡ site_wider
wall_added = examples.wall_added

pub window_deleted : without_wall p1_site 6
    ≡ on (p1_without_window ++ empty_row ++ behind) (record { held = 8_000_000 ∷ 16_000_000 ∷ 0 ∷ 0 ∷ 0 ∷ 0 ∷ []; rows = 11 })
window_deleted = examples.window_deleted

-- the state after a run of three changes, one of which is refused;
pub run_worked : after_run p1_site worked_run ≡ site_after
run_worked = examples.run_worked

-- and the rows, from 0, that walls of storeys 0, 1, .. take, in P1 and in a house of two storeys, whose walls stand in rows 7 to 12.
pub rows_taken :
    (row_due p1 0 ∷ row_due p1 1 ∷ row_due p1 2 ∷ [] ≡ 4 ∷ 10 ∷ 10 ∷ [])
    × (let two = two_storeys 1 90 1 20080331 2048 in row_due two 0 ∷ row_due two 1 ∷ row_due two 2 ∷ row_due two 3 ∷ [] ≡ 7 ∷ 10 ∷ 13 ∷ 13 ∷ [])
rows_taken = (examples.p1_rows_taken, examples.two_rows_taken)

-- The theorems above, where their premises hold. P1 has its own sums on site, whatever stands in the places of storeys that it lacks, and behind its rows;
pub p1_own : Own p1_site × Own p1_lacking
p1_own = (examples.p1_own, examples.lacking_own)

-- it keeps them over that run, and its answers are fresh scorings;
pub p1_run : Own (after_run p1_site worked_run)
p1_run = run_own p1_site p1_own.0 worked_run (refl, (refl, (tt, tt)))

pub p1_fresh : answer_of (after_run p1_site (add (middle_wall 1) ∷ add (middle_wall 2) ∷ [])) (delete 6) ≡ scoring (rows_of site_after)
unfolding after_run
p1_fresh =
    run_fresh p1_site p1_own.0 (add (middle_wall 1) ∷ add (middle_wall 2) ∷ []) (refl, (refl, tt)) (delete 6) tt examples.window_scored
    ∙ ap (λ (s : State). scoring (rows_of s)) run_worked

-- a start fills its sums in, and leaves what a start from other rows behind leaves;
pub p1_started : Own (after_starting (p1_with nines 12))
p1_started = start_own (p1_with nines 12) examples.start_scored

pub p1_start_fresh : starting (p1_with nines 12) ≡ scoring p1
p1_start_fresh = start_fresh (p1_with nines 12) (omega arith)

pub p1_start_unread : Alike (after_starting (p1_with nines 12)) (after_starting (on (p1 ++ middle_wall 1 ++ middle_wall 2) (p1_with nines 12).totals))
p1_start_unread = (start_unread (p1_with nines 12) (on (p1 ++ middle_wall 1 ++ middle_wall 2) (p1_with nines 12).totals) (record { totals = refl; long = refl; rows = refl })).1

-- what is refused changes nothing;
pub p1_refused : (after p1_site (add (middle_wall 2)) ≡ p1_site) × (after p1_site (delete 4) ≡ p1_site) × (after_starting (p1_with own_totals 0) ≡ p1_with own_totals 0)
p1_refused = (
  refused_changes_nothing p1_site (add (middle_wall 2)) examples.second_refused,
  refused_changes_nothing p1_site (delete 4) examples.end_refused,
  refused_start_changes_nothing (p1_with own_totals 0) examples.start_refused,
)

-- with the wall, whatever its totals were, the scores are those of the totals that are left;
pub p1_scores_of_totals : adding p1_site (middle_wall 1)
    ≡ told_scored (record_with (rows_of (after_adding p1_site (middle_wall 1))) (number_at (after_adding p1_site (middle_wall 1)).totals.held))
p1_scores_of_totals = scores_of_totals p1_site (add (middle_wall 1)) examples.wall_scored

-- it is never refused a wall with 12, nor with 5, having six, and can be given the wall; each refusal of an addition, but for 5;
pub p1_never : (wall : List ℕ) → length wall ≡ 8 → ((adding p1_site wall).number ≡ no_such_wall → ⊥) × ((adding p1_site wall).number ≡ too_many_walls → ⊥)
p1_never wall eight = (
  addition_never_12 p1_site p1_own.0 wall eight,
  λ five. omega (arith, five_at_the_limit p1_site examples.own_scored wall five, examples.six_walls),
)

pub p1_wall : (adding p1_site (middle_wall 1)).scored ≡ true
p1_wall = every_wall_added p1_site p1_own.0 (middle_wall 1) refl examples.middle_ranged (omega (arith, examples.six_walls)) (omega arith)

pub p1_additions :
    (adding p1_site (middle_wall 0) ≡ told_refused 4 5 2)
    × (adding (on p1 p1_site.totals) (middle_wall 1) ≡ told_refused 9 0 0)
    × (adding (p1_with over_the_most 12) (middle_wall 1) ≡ told_refused 12 0 0)
    × ((adding p1_site (middle_wall 1)).scored ≡ true)
p1_additions = (
  rw (examples.row_five, examples.column_two) at (range_told p1_site examples.own_scored (middle_wall 0) examples.storey_0_out),
  space_told (on p1 p1_site.totals) examples.full_scored (middle_wall 1) examples.middle_ranged (omega (arith, examples.six_walls_full)) (omega arith),
  totals_told (p1_with over_the_most 12) examples.over_scored (middle_wall 1) examples.middle_ranged (omega (arith, examples.six_walls)) (omega arith) examples.total_above,
  wall_accepted p1_site examples.own_scored (middle_wall 1) examples.middle_ranged (omega (arith, examples.six_walls)) (omega arith) examples.totals_within,
)

-- and a house with 300 walls is told 5 of any wall in its ranges, whatever room is left and whatever its totals;
pub full_house : (s : State) → (starting s).scored ≡ true → storeys (rows_of s) ≡ 1 → wall_rows (rows_of s) ≡ 300
    → (adding s (middle_wall 1)).number ≡ 5
full_house s passing one all =
    ap (λ (t : ToldScoring). t.number) (limit_told s passing (middle_wall 1) (rw one examples.middle_ranged) all)

-- it is told 12 of row 4, an end; its window can be deleted, and then a wall can be added where no row was left;
pub p1_end : deleting p1_site 4 ≡ told_refused no_such_wall 4 0
p1_end = twelve_names_the_row p1_site p1_own.0 4 examples.end_twelve

pub p1_window : (deleting p1_site 6).scored ≡ true
p1_window = every_wall_deleted p1_site p1_own.0 6 (omega arith) refl

pub p1_place : (wall : List ℕ)
    → ((adding (after_deleting p1_site 6) wall).number ≡ too_many_walls → ⊥) × ((adding (after_deleting p1_site 6) wall).number ≡ lent_space_short → ⊥)
p1_place wall = place_serves_again p1_site 6 p1_window wall

pub p1_fits : (adding (after_deleting (on p1 p1_site.totals) 6) (middle_wall 1)).scored ≡ true
p1_fits = wall_fits_again (on p1 p1_site.totals) examples.full_own 6 (every_wall_deleted (on p1 p1_site.totals) examples.full_own 6 (omega arith) refl) (middle_wall 1) refl examples.middle_ranged_after

-- the wall that it is given can be deleted again from row 11, no change in X moves another total, and what stands behind is neither read nor changed.
pub p1_put_back :
    ((deleting (after_adding p1_site (middle_wall 1)) 11).scored ≡ true)
    × (rows_of (after_deleting (after_adding p1_site (middle_wall 1)) 11) ≡ p1)
    × ((after_deleting (after_adding p1_site (middle_wall 1)) 11).totals ≡ p1_site.totals)
p1_put_back = rw examples.row_eleven at (added_and_deleted p1_site (middle_wall 1) refl refl examples.wall_scored)

pub p1_totals :
    let held = (after_adding p1_site (middle_wall 1)).totals.held in
    let left = (after_deleting p1_site 6).totals.held in
    (get_or held 0 0 ≡ 13_200_000) × (get_or held 1 0 ≡ 16_000_000) × (get_or held 5 0 ≡ 0)
    × (9_200_000 ≡ get_or left 0 0 + 1_200_000) × (get_or left 1 0 ≡ 16_000_000) × (get_or left 5 0 ≡ 0)
p1_totals =
    let added = added_total p1_site (middle_wall 1) refl refl examples.wall_scored in
    let taken = taken_total p1_site 6 refl p1_window in (
      added.here ∙ examples.middle_share,
      added.elsewhere 1 (λ e. omega arith),
      added.elsewhere 5 (λ e. omega arith),
      rw examples.window_share at taken.here,
      taken.elsewhere 1 (λ e. omega arith),
      taken.elsewhere 5 (λ e. omega arith),
    )

pub p1_unread :
    let other = on (p1 ++ middle_wall 1 ++ middle_wall 2) p1_site.totals in
    (answer_of (after_run p1_site worked_run) (delete 6) ≡ answer_of (after_run other worked_run) (delete 6)) × Alike (after_run p1_site worked_run) (after_run other worked_run)
p1_unread =
    run_unread p1_site (on (p1 ++ middle_wall 1 ++ middle_wall 2) p1_site.totals) (record { totals = refl; long = refl; rows = refl }) worked_run (refl, (refl, (tt, tt))) (delete 6) tt

pub p1_behind :
    (drop 104 (after_adding p1_site (middle_wall 1)).table ≡ drop 8 behind)
    × (drop 96 (after_deleting p1_site 6).table ≡ behind)
p1_behind = (behind_added p1_site (middle_wall 1) refl examples.wall_scored, behind_deleted p1_site 6 p1_window)

-- Of the two houses of two storeys that demand 3 compares, the second worse in all five, each on site with a wall more and then without it again, what is
-- answered last is no better for the second.
pub worse_on_site : (a b : Scoring)
    → told_scoring a ≡ answer_of (after_run (two_on_site sound) (add (middle_wall 1) ∷ [])) (delete 11)
    → told_scoring b ≡ answer_of (after_run (two_on_site all_worse) (add (middle_wall 1) ∷ [])) (delete 11)
    → (get_or (told_scoring b).result.scores (score_at 1 1) 0 ≤ get_or (told_scoring a).result.scores (score_at 1 1) 0)
    × ((told_scoring a).result.verdict ≤ (told_scoring b).result.verdict)
unfolding after_run
worse_on_site a b told_a told_b =
    let back = examples.wall_and_back 1 90 1 under_ten_day 2048 two_judged.0 in
    let back' = examples.wall_and_back 2 100 2 ten_day 2056 two_judged.6 in
    let no_better = comparison_on_site (two_on_site sound) (two_on_site all_worse)
    (examples.two_own 1 90 1 under_ten_day 2048 two_judged.0) (examples.two_own 2 100 2 ten_day 2056 two_judged.6)
    (add (middle_wall 1) ∷ []) (add (middle_wall 1) ∷ []) (refl, tt) (refl, tt) (delete 11) (delete 11) tt tt a b told_a told_b
    (ap (λ (t : ToldScoring). t.scored) told_a ∙ back.0) (ap (λ (t : ToldScoring). t.scored) told_b ∙ back'.0)
    (rw (back.1, back'.1) worsened.5.worse) in (
      no_better.0 1 1 (rw back.1 (record { some_storey = omega arith; last_storey = omega arith; some_direction = omega arith; last_direction = omega arith }))
          (rw (back.1, back'.1) (worsened.5.kept 1 1 (record { some_storey = omega arith; last_storey = omega arith; some_direction = omega arith; last_direction = omega arith }))),
      no_better.1 (rw (back.1, back'.1) worsened.5.kept),
    )
