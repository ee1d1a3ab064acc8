-- The theorems about changes, put by what is answered. Assumes nothing.
use Rattle.std.proofs.Common.{◌≡◌, sym, ap, subst, ◌∙◌, true, false, T, List, ℕ, ◌+◌, ◌-◌, ◌*◌, ◌<◌, ◌≤◌, arith, length, drop, eqb→eq, refl, Bool, cond}
use Rattle.answer.specs.Told.{Told, accepts, too_many_walls, lent_space_short, no_such_wall, refusal, out_of_range}
use Rattle.answer.specs.Length.{most_walls}
use Rattle.survey.specs.Judgement.{new_wall_column}
use Rattle.survey.specs.Table.{cell, is_wall, wall_rows, storeys}
use Rattle.survey.proofs.Acceptance.{accepted}
use Rattle.diagnosis.specs.Answers.{told_refused, scoring, score_at, told_scored, record_with, number_at}
use Rattle.diagnosis.specs.Rows.{house_of}
use Rattle.diagnosis.specs.House.{row_share}
use Rattle.site.specs.Totals.{total_added, total_taken, some_above}
use Rattle.site.specs.Changes.{State, rows_of, checking, answered, started, starting, after_starting, row_taken, add_told, with_wall, adding, after_adding, delete_told, without_wall, deleting, after_deleting, addition, left}
use Rattle.site.specs.Runs.{Change, add, delete, EightNumbers, answer_of, after, Own, OneMoves}
use Rattle.site.proofs.States.{Found, in_use_long, delete_stands, delete_rows, delete_table_long, delete_fits, delete_judged}
use Rattle.site.proofs.Changing.{add_next, count_left}
use Rattle.site.proofs.Checking.{checked, checking_accepts}
use Rattle.site.proofs.AcceptedChanges.{accepted_left, refused_left, answered_scored, answered_number, answered_refused, add_ready, delete_ready}
use Rattle.site.proofs.Additions as additions
use Rattle.site.proofs.PutBack as put_back
use Rattle.site.proofs.Unread as unread
use Rattle.site.proofs.OwnRuns as own_runs

-- What is scored has passed, and what is not has not.
passed : (tells : Told) (after : State) → (answered tells after).scored ≡ true → accepts tells ≡ true
passed tells after e = sym (answered_scored tells after) ∙ e

failed : (tells : Told) (after : State) → (answered tells after).scored ≡ false → accepts tells ≡ false
failed tells after e = sym (answered_scored tells after) ∙ e

pub start_own : (s : State) → (starting s).scored ≡ true → Own (after_starting s)
start_own s scored =
    let e = passed (checking s) (started s) scored in
    subst Own (sym (accepted_left (checking s) s (started s) e)) (own_runs.started_own s e)

pub start_fresh : (s : State) → 8 * s.totals.rows ≤ length s.table → starting s ≡ scoring (rows_of s)
start_fresh s fits = own_runs.started_fresh s fits

pub answer_fresh : (s : State) → Own s → (change : Change) → EightNumbers change → (answer_of s change).scored ≡ true
    → answer_of s change ≡ scoring (rows_of (after s change))
answer_fresh s own (add wall) eight scored = own_runs.answer_fresh s own (add wall) eight (passed (add_told s wall) (with_wall s wall) scored)
answer_fresh s own (delete row) eight scored = own_runs.answer_fresh s own (delete row) eight (passed (delete_told s row) (without_wall s row) scored)

-- From any record the answer is the record of the totals that are left.
of_totals : (tells : Told) (before after : State) → (answered tells after).scored ≡ true
    → answered tells after ≡ told_scored (record_with (rows_of (left tells before after)) (number_at (left tells before after).totals.held))
unfolding answered
of_totals tells before after scored =
    let e = passed tells after scored in
    rw (accepted_left tells before after e) (ap (λ (b : Bool). cond b (told_scored (record_with (rows_of after) (number_at after.totals.held))) (told_refused tells.number tells.row tells.column)) e)

pub scores_of_totals : (s : State) (change : Change) → (answer_of s change).scored ≡ true
    → answer_of s change ≡ told_scored (record_with (rows_of (after s change)) (number_at (after s change).totals.held))
scores_of_totals s (add wall) scored = of_totals (add_told s wall) s (with_wall s wall) scored
scores_of_totals s (delete row) scored = of_totals (delete_told s row) s (without_wall s row) scored

pub refused_after : (s : State) (change : Change) → (answer_of s change).scored ≡ false → after s change ≡ s
refused_after s (add wall) refused = refused_left (add_told s wall) s (with_wall s wall) (failed (add_told s wall) (with_wall s wall) refused)
refused_after s (delete row) refused = refused_left (delete_told s row) s (without_wall s row) (failed (delete_told s row) (without_wall s row) refused)

pub refused_start : (s : State) → (starting s).scored ≡ false → after_starting s ≡ s
refused_start s refused = refused_left (checking s) s (started s) (failed (checking s) (started s) refused)

module _ (s : State) (own : Own s) where
  pub addition_never_12 : (wall : List ℕ) → length wall ≡ 8 → (adding s wall).number ≡ no_such_wall → ⊥
  addition_never_12 wall eight e =
      let told = answered_number (add_told s wall) (with_wall s wall) no_such_wall (omega arith) e in
      own_runs.add_never_twelve s own wall eight told.1

  module _ (row : ℕ) where
    pub twelve_names_the_row : (deleting s row).number ≡ no_such_wall → deleting s row ≡ told_refused no_such_wall row 0
    twelve_names_the_row e =
        let told = answered_number (delete_told s row) (without_wall s row) no_such_wall (omega arith) e in
        answered_refused (delete_told s row) (without_wall s row) told.0
        ∙ ap (λ (t : Told). told_refused t.number t.row t.column) (own_runs.delete_twelve s own row told.1)

    pub every_wall_deleted : 0 < row → is_wall (rows_of s) (row - 1) ≡ true → (deleting s row).scored ≡ true
    every_wall_deleted some wall =
        answered_scored (delete_told s row) (without_wall s row)
        ∙ own_runs.wall_deleted s own row some (eqb→eq (cell (rows_of s) (row - 1) 0) 4 (subst T (sym wall) tt))

-- What is told of an addition where the rows in use pass, test by test, from any record.
module _ (s : State) (passing : (starting s).scored ≡ true) (wall : List ℕ) where
  check : accepts (checking s) ≡ true
  check = passed (checking s) (started s) passing

  abbrev A : List ℕ
  A = rows_of s

  abbrev column : ℕ
  column = new_wall_column (storeys A) wall

  A_long : length A ≡ 8 * s.totals.rows
  A_long = in_use_long s (checked s check).fits

  told_is : (number row column : ℕ) → refusal number row column ≡ addition A s.totals.held (length s.table) wall → adding s wall ≡ told_refused number row column
  told_is number row column e =
      let told = e ∙ add_next s wall check in
      answered_refused (add_told s wall) (with_wall s wall) (sym (ap accepts told)) ∙ ap (λ (t : Told). told_refused t.number t.row t.column) (sym told)

  pub range_told : column < 8 → adding s wall ≡ told_refused out_of_range (row_taken A wall + 1) (column + 1)
  range_told out = told_is out_of_range _ _ (additions.told_range A s.totals.held wall (length s.table) column refl out)

  pub limit_told : 8 ≤ column → wall_rows A ≡ most_walls → adding s wall ≡ told_refused too_many_walls (row_taken A wall + 1) 1
  limit_told ranged all = told_is too_many_walls _ 1 (additions.told_walls A s.totals.held wall (length s.table) ranged (omega arith))

  pub space_told : 8 ≤ column → wall_rows A < most_walls → length s.table < 8 * (s.totals.rows + 1) → adding s wall ≡ told_refused lent_space_short 0 0
  space_told ranged few short =
      told_is lent_space_short 0 0 (additions.told_room A s.totals.held wall (length s.table) ranged few (omega (arith, A_long)))

  pub totals_told : 8 ≤ column → wall_rows A < most_walls → 8 * (s.totals.rows + 1) ≤ length s.table
      → some_above (storeys A) (total_added A s.totals.held wall) ≡ true → adding s wall ≡ told_refused no_such_wall 0 0
  totals_told ranged few room above =
      told_is no_such_wall 0 0 (additions.told_totals A s.totals.held wall (length s.table) ranged few (omega (arith, A_long)) above)

  pub wall_accepted : 8 ≤ column → wall_rows A < most_walls → 8 * (s.totals.rows + 1) ≤ length s.table
      → some_above (storeys A) (total_added A s.totals.held wall) ≡ false → (adding s wall).scored ≡ true
  wall_accepted ranged few room within =
      answered_scored (add_told s wall) (with_wall s wall) ∙ sym (ap accepts (add_next s wall check))
      ∙ ap accepts (additions.passes_told A s.totals.held wall (length s.table) (record { ranged = ranged; few = few; room = omega (arith, A_long); within = within }))

  -- So 5 comes at the limit alone.
  pub five_at_the_limit : (adding s wall).number ≡ too_many_walls → wall_rows A ≡ most_walls
  five_at_the_limit e =
      let told = answered_number (add_told s wall) (with_wall s wall) too_many_walls (omega arith) e in
      omega (
        arith,
        additions.five_told A s.totals.held wall (length s.table) (ap (λ (t : Told). t.number) (add_next s wall check) ∙ told.1),
        (accepted A (checked s check).accepted).few,
      )

-- From a record with its own sums every wall in its ranges can be added, below the limit where a row is left.
pub every_wall_added : (s : State) → Own s → (wall : List ℕ) → length wall ≡ 8 → 8 ≤ new_wall_column (storeys (rows_of s)) wall
    → wall_rows (rows_of s) < most_walls → 8 * (s.totals.rows + 1) ≤ length s.table → (adding s wall).scored ≡ true
every_wall_added s own wall eight ranged few room =
    let passing = answered_scored (checking s) (started s) ∙ checking_accepts s (record { fits = own.fits; accepted = own.rows_accepted }) in
    let left : length (rows_of s) + 8 ≤ length s.table = omega (arith, room, in_use_long s own.fits) in
    wall_accepted s passing wall ranged few room
    (own_runs.add_within s wall (record { eight = eight; fits = own.fits; rows_accepted = own.rows_accepted; ranged = ranged; few = few; room = left }) own)

-- After a deletion that is accepted the rows in use pass, there are fewer walls than the limit, and a row is left.
module _ (s : State) (row : ℕ) (scored : (deleting s row).scored ≡ true) where
  delete_accepts : accepts (delete_told s row) ≡ true
  delete_accepts = passed (delete_told s row) (without_wall s row) scored

  left_over : after_deleting s row ≡ without_wall s row
  left_over = accepted_left (delete_told s row) s (without_wall s row) delete_accepts

  f : Found s row
  f = delete_ready s row delete_accepts

  table_fits : 8 * ((without_wall s row).totals.rows + 1) ≤ length (without_wall s row).table
  table_fits = omega (arith, count_left s row, delete_fits s row f, delete_table_long s row f, f.fits)

  still_pass : (starting (without_wall s row)).scored ≡ true
  still_pass =
      answered_scored (checking (without_wall s row)) (started (without_wall s row))
      ∙ checking_accepts (without_wall s row) (record { fits = omega (arith, table_fits); accepted = delete_judged s row f })

  fewer : wall_rows (rows_of (without_wall s row)) < most_walls
  fewer = omega (arith, ap wall_rows (delete_rows s row f), (delete_stands s row f).walls_more, (accepted (rows_of s) f.rows_accepted).few)

  -- So from any record neither 5 nor 9 is told of the next addition,
  pub place_serves_again : (wall : List ℕ)
      → ((adding (after_deleting s row) wall).number ≡ too_many_walls → ⊥) × ((adding (after_deleting s row) wall).number ≡ lent_space_short → ⊥)
  place_serves_again wall =
      rw left_over (
        λ five. omega (arith, five_at_the_limit (without_wall s row) still_pass wall five, fewer),
        λ nine. nine_never nine,
      )
    where
      nine_never : (adding (without_wall s row) wall).number ≡ lent_space_short → ⊥
      nine_never nine =
          let t = without_wall s row in
          let told = answered_number (add_told t wall) (with_wall t wall) lent_space_short (omega arith) nine in
          let check = passed (checking t) (started t) still_pass in
          omega (
            arith,
            additions.nine_told (rows_of t) t.totals.held wall (length t.table) (ap (λ (x : Told). x.number) (add_next t wall check) ∙ told.1),
            table_fits,
            in_use_long t (checked t check).fits,
          )

  -- and from a record with its own sums every wall in its ranges can be added.
  pub wall_fits_again : Own s → (wall : List ℕ) → length wall ≡ 8 → 8 ≤ new_wall_column (storeys (rows_of (after_deleting s row))) wall
      → (adding (after_deleting s row) wall).scored ≡ true
  wall_fits_again own wall eight =
      rw left_over (λ ranged. every_wall_added (without_wall s row) (own_runs.own_left s own row f) wall eight ranged fewer table_fits)

module _ (s : State) (wall : List ℕ) (eight : length wall ≡ 8) (scored : (adding s wall).scored ≡ true) where
  e : accepts (add_told s wall) ≡ true
  e = passed (add_told s wall) (with_wall s wall) scored

  left_is : after_adding s wall ≡ with_wall s wall
  left_is = accepted_left (add_told s wall) s (with_wall s wall) e

  abbrev row : ℕ
  row = row_taken (rows_of s) wall + 1

  pub added_and_deleted : length s.totals.held ≡ 6
      → ((deleting (after_adding s wall) row).scored ≡ true)
      × (rows_of (after_deleting (after_adding s wall) row) ≡ rows_of s)
      × ((after_deleting (after_adding s wall) row).totals ≡ s.totals)
  added_and_deleted six =
      let again = put_back.deleted_again s wall e eight six in
      let gone = accepted_left (delete_told (with_wall s wall) row) (with_wall s wall) (without_wall (with_wall s wall) row) again in
      rw left_is (
        answered_scored (delete_told (with_wall s wall) row) (without_wall (with_wall s wall) row) ∙ again,
        ap rows_of gone ∙ put_back.rows_back s wall e eight six,
        ap (λ (t : State). t.totals) gone ∙ put_back.totals_again s wall e eight six,
      )

  pub behind_added : drop (8 * (s.totals.rows + 1)) (after_adding s wall).table ≡ drop (8 * (s.totals.rows + 1)) s.table
  behind_added = ap (λ (t : State). drop (8 * (s.totals.rows + 1)) t.table) left_is ∙ unread.behind_added s wall (add_ready s wall e eight)

pub behind_deleted : (s : State) (row : ℕ) → (deleting s row).scored ≡ true
    → drop (8 * s.totals.rows) (after_deleting s row).table ≡ drop (8 * s.totals.rows) s.table
behind_deleted s row scored =
    let e = passed (delete_told s row) (without_wall s row) scored in
    ap (λ (t : State). drop (8 * s.totals.rows) t.table) (accepted_left (delete_told s row) s (without_wall s row) e)
    ∙ unread.behind_deleted s row (delete_ready s row e)

-- The totals that a change leaves.
held_with : (s : State) (wall : List ℕ) → (with_wall s wall).totals.held ≡ total_added (rows_of s) s.totals.held wall
unfolding with_wall
held_with s wall = refl

held_without : (s : State) (row : ℕ) → (without_wall s row).totals.held ≡ total_taken (rows_of s) s.totals.held (row - 1)
unfolding without_wall
held_without s row = refl

pub added_total : (s : State) (wall : List ℕ) → length wall ≡ 8 → length s.totals.held ≡ 6 → (adding s wall).scored ≡ true
    → OneMoves s.totals.held (after_adding s wall).totals.held (score_at (cell wall 0 1) (cell wall 0 2)) (λ before after. after ≡ before + row_share (house_of (rows_of s)) wall 0)
added_total s wall eight six scored =
    let e = passed (add_told s wall) (with_wall s wall) scored in
    let held_is = ap (λ (t : State). t.totals.held) (accepted_left (add_told s wall) s (with_wall s wall) e) ∙ held_with s wall in
    rw held_is (record { here = put_back.added_here s wall e eight six; elsewhere = put_back.added_other s wall e eight six })

pub taken_total : (s : State) (row : ℕ) → length s.totals.held ≡ 6 → (deleting s row).scored ≡ true
    → let rows = rows_of s in
    OneMoves s.totals.held (after_deleting s row).totals.held (score_at (cell rows (row - 1) 1) (cell rows (row - 1) 2))
    (λ before after. before ≡ after + row_share (house_of rows) rows (row - 1))
taken_total s row six scored =
    let e = passed (delete_told s row) (without_wall s row) scored in
    let held_is = ap (λ (t : State). t.totals.held) (accepted_left (delete_told s row) s (without_wall s row) e) ∙ held_without s row in
    rw held_is (record { here = put_back.taken_here s row e six; elsewhere = put_back.taken_other s row e six })
