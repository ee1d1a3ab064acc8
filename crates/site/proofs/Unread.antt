-- Rows beyond those in use aren't read, and stay where no row moves over them. Assumes nothing.
use Rattle.std.proofs.Common.{◌≡◌, refl, sym, ap, ◌∙◌, Bool, true, false, cond, List, [], ◌∷◌, ◌++◌, ℕ, ◌+◌, ◌-◌, ◌*◌, length, drop}
use Rattle.std.proofs.Math.Seq.{drop-append_seam}
use Rattle.answer.specs.Told.{Told, accepts}
use Rattle.answer.specs.Lists.{over}
use Rattle.diagnosis.specs.Answers.{told_scored, told_refused, number_at, record_with}
use Rattle.site.specs.Rows.{with_row, without_row}
use Rattle.site.specs.Changes.{State, rows_of, checking, started, starting, after_starting, answered, left, row_taken, add_told, with_wall, delete_told, without_wall, empty_row}
use Rattle.site.specs.Runs.{Change, add, delete, EightNumbers, answer_of, after, after_run, AllEightNumbers, Alike}
use Rattle.site.proofs.States.{Ready, add_rows, add_table_long, add_long, Found, delete_rows, delete_table_long, delete_long}
use Rattle.site.proofs.AcceptedChanges.{add_ready, delete_ready}

-- What is told of two states that are alike is the same.
module _ (s t : State) (alike : Alike s t) where
  checking_alike : checking s ≡ checking t
  unfolding checking
  checking_alike = rw (alike.rows, alike.long, alike.totals) refl

  pub add_told_alike : (wall : List ℕ) → add_told s wall ≡ add_told t wall
  unfolding add_told
  add_told_alike wall = rw (checking_alike, alike.rows, alike.long, alike.totals) refl

  pub delete_told_alike : (row : ℕ) → delete_told s row ≡ delete_told t row
  unfolding delete_told
  delete_told_alike row = rw (checking_alike, alike.rows, alike.totals) refl

  -- An addition.
  module _ (wall : List ℕ) (eight : length wall ≡ 8) where
    told_same : add_told s wall ≡ add_told t wall
    told_same = add_told_alike wall

    module _ (e : accepts (add_told s wall) ≡ true) where
      one : Ready s wall
      one = add_ready s wall e eight

      other : Ready t wall
      other = add_ready t wall (sym (ap accepts told_same) ∙ e) eight

      with_rows : rows_of (with_wall s wall) ≡ rows_of (with_wall t wall)
      with_rows = add_rows s wall one ∙ ap (λ (l : List ℕ). with_row l (row_taken l wall) wall) alike.rows ∙ sym (add_rows t wall other)

      with_totals : (with_wall s wall).totals ≡ (with_wall t wall).totals
      unfolding with_wall
      with_totals = rw (alike.rows, alike.totals) refl

      with_alike : Alike (with_wall s wall) (with_wall t wall)
      with_alike = record {
        totals = with_totals;
        long = add_table_long s wall one ∙ alike.long ∙ sym (add_table_long t wall other);
        rows = with_rows;
      }

  -- A deletion.
  module _ (row : ℕ) (e : accepts (delete_told s row) ≡ true) where
    first : Found s row
    first = delete_ready s row e

    second : Found t row
    second = delete_ready t row (sym (ap accepts (delete_told_alike row)) ∙ e)

    without_totals : (without_wall s row).totals ≡ (without_wall t row).totals
    unfolding without_wall
    without_totals = rw (alike.rows, alike.totals) refl

    without_alike : Alike (without_wall s row) (without_wall t row)
    without_alike = record {
      totals = without_totals;
      long = delete_table_long s row first ∙ alike.long ∙ sym (delete_table_long t row second);
      rows = delete_rows s row first ∙ ap (λ (l : List ℕ). without_row l (row - 1)) alike.rows ∙ sym (delete_rows t row second);
    }

-- So the states after a change are alike, and its answers the same,
module _ (tells tells' : Told) (s s' after after' : State) (same : tells ≡ tells') (alike : Alike s s') (made : accepts tells ≡ true → Alike after after') where
  left_alike : Alike (left tells s after) (left tells' s' after')
  unfolding left
  left_alike = rw (← same) (go (accepts tells) refl)
    where
      go : (b : Bool) → accepts tells ≡ b → Alike (cond b after s) (cond b after' s')
      go true e = made e
      go false e = alike

  answered_alike : answered tells after ≡ answered tells' after'
  unfolding answered
  answered_alike = rw (← same) (go (accepts tells) refl)
    where
      go : (b : Bool) → accepts tells ≡ b
          → cond b (told_scored (record_with (rows_of after) (number_at after.totals.held))) (told_refused tells.number tells.row tells.column)
          ≡ cond b (told_scored (record_with (rows_of after') (number_at after'.totals.held))) (told_refused tells.number tells.row tells.column)
      go true e = rw ((made e).rows, (made e).totals) refl
      go false e = refl

module _ (s t : State) (alike : Alike s t) where
  pub after_alike : (change : Change) → EightNumbers change → Alike (after s change) (after t change)
  after_alike (add wall) eight =
      left_alike (add_told s wall) (add_told t wall) s t (with_wall s wall) (with_wall t wall) (add_told_alike s t alike wall) alike (with_alike s t alike wall eight)
  after_alike (delete row) eight =
      left_alike (delete_told s row) (delete_told t row) s t (without_wall s row) (without_wall t row) (delete_told_alike s t alike row) alike (without_alike s t alike row)

  pub answer_alike : (change : Change) → EightNumbers change → answer_of s change ≡ answer_of t change
  answer_alike (add wall) eight =
      answered_alike (add_told s wall) (add_told t wall) s t (with_wall s wall) (with_wall t wall) (add_told_alike s t alike wall) alike (with_alike s t alike wall eight)
  answer_alike (delete row) eight =
      answered_alike (delete_told s row) (delete_told t row) s t (without_wall s row) (without_wall t row) (delete_told_alike s t alike row) alike (without_alike s t alike row)

-- and so it is after a run of changes.
pub run_alike : (s t : State) → Alike s t → (changes : List Change) → AllEightNumbers changes → Alike (after_run s changes) (after_run t changes)
unfolding after_run
run_alike s t alike [] eight = alike
run_alike s t alike (change ∷ changes) eight = run_alike (after s change) (after t change) (after_alike s t alike change eight.0) changes eight.1

-- A start goes by the rows in use alone, too.
started_alike : (s t : State) → Alike s t → Alike (started s) (started t)
unfolding started
started_alike s t alike = record { totals = rw (alike.rows, alike.totals) refl; long = alike.long; rows = alike.rows }

pub start_alike : (s t : State) → Alike s t → starting s ≡ starting t
start_alike s t alike =
    answered_alike (checking s) (checking t) s t (started s) (started t) (checking_alike s t alike) alike (λ e. started_alike s t alike)

pub after_start_alike : (s t : State) → Alike s t → Alike (after_starting s) (after_starting t)
after_start_alike s t alike =
    left_alike (checking s) (checking t) s t (started s) (started t) (checking_alike s t alike) alike (λ e. started_alike s t alike)

-- The numbers behind the rows in use stay, but for those over which a wall that is added moves the last row.
module _ (s : State) (wall : List ℕ) (t : Ready s wall) where
  pub behind_added : drop (8 * (s.totals.rows + 1)) (with_wall s wall).table ≡ drop (8 * (s.totals.rows + 1)) s.table
  unfolding with_wall over
  behind_added =
      let B = with_row (rows_of s) (row_taken (rows_of s) wall) wall in
      ap (λ (n : ℕ). drop n (B ++ drop (length B) s.table)) (sym (add_long s wall t)) ∙ drop-append_seam B (drop (length B) s.table)
      ∙ ap (λ (n : ℕ). drop n s.table) (add_long s wall t)

module _ (s : State) (row : ℕ) (f : Found s row) where
  pub behind_deleted : drop (8 * s.totals.rows) (without_wall s row).table ≡ drop (8 * s.totals.rows) s.table
  unfolding without_wall over
  behind_deleted =
      let L = without_row (rows_of s) (row - 1) ++ empty_row in
      ap (λ (n : ℕ). drop n (L ++ drop (length L) s.table)) (sym (delete_long s row f)) ∙ drop-append_seam L (drop (length L) s.table)
      ∙ ap (λ (n : ℕ). drop n s.table) (delete_long s row f)
