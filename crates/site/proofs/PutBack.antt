-- An added wall deleted again; a deleted wall's place; and what no change touches. Assumes nothing.
use Rattle.std.proofs.Common.{◌≡◌, refl, sym, ap, ap₂, ◌∙◌, true, false, List, ℕ, ◌+◌, ◌-◌, ◌*◌, ◌<◌, ◌≤◌, arith, length, get_or, set}
use Rattle.std.proofs.lemmas.List.{length-set, set-get_or}
use Rattle.std.proofs.Math.Seq.{set-set}
use native.Mathlib.Decide.{dec_lt}
use Rattle.answer.specs.Told.{accepts}
use Rattle.survey.specs.Table.{cell, storeys}
use Rattle.method.specs.Held.{most_held}
use Rattle.diagnosis.specs.Rows.{house_of}
use Rattle.diagnosis.specs.House.{row_share}
use Rattle.diagnosis.specs.Answers.{score_at, number_at}
use Rattle.diagnosis.proofs.AcceptedTables.{storeys_few}
use Rattle.site.specs.Rows.{with_row, without_row}
use Rattle.site.specs.Totals.{wall_total, total_added, total_taken, some_above}
use Rattle.site.specs.Changes.{State, rows_of, checking, row_taken, add_told, with_wall, deletion, delete_told, without_wall}
use Rattle.site.proofs.SixTotals.{total_set, total_other, none_above, all_within}
use Rattle.site.proofs.Checking.{checking_accepts}
use Rattle.site.proofs.PutLists.{put_back}
use Rattle.site.proofs.Deletions as deletions
use Rattle.site.proofs.States.{Ready, add_ranged, add_numbers, add_kind, add_put, add_stands, add_rows, add_table_long, add_fits, add_judged, Found, delete_ranged, delete_rows}
use Rattle.site.proofs.Changing.{count_with, delete_next}
use Rattle.site.proofs.AcceptedChanges.{add_passes, add_ready, delete_passes, delete_ready}
use Rattle.site.proofs.OwnRuns.{share_placed}

-- An addition that is accepted, from any record.
module _ (s : State) (wall : List ℕ) (e : accepts (add_told s wall) ≡ true) (eight : length wall ≡ 8) (six : length s.totals.held ≡ 6) where
  abbrev A : List ℕ
  A = rows_of s

  abbrev at : ℕ
  at = row_taken A wall

  abbrev B : List ℕ
  B = with_row A at wall

  abbrev after : State
  after = with_wall s wall

  t : Ready s wall
  t = add_ready s wall e eight

  abbrev st : ℕ
  st = cell wall 0 1

  abbrev d : ℕ
  d = cell wall 0 2

  abbrev share : ℕ
  share = row_share (house_of A) wall 0

  abbrev held : List ℕ
  held = s.totals.held

  place : (1 ≤ st) × (st ≤ storeys A)
  place = add_ranged s wall t 1 (omega arith)

  way : (1 ≤ d) × (d ≤ 2)
  way = add_ranged s wall t 2 (omega arith)

  few : storeys A ≤ 3
  few = (storeys_few A t.rows_accepted).1

  same_place : {X : Type 0} (f : ℕ → ℕ → X) → f (cell B at 1) (cell B at 2) ≡ f st d
  same_place f = rw (add_numbers s wall t 1 (omega arith), add_numbers s wall t 2 (omega arith)) refl

  -- Its total and its share, as the deletion finds them.
  total_is : wall_total (total_added A held wall) B at ≡ wall_total held wall 0 + share
  unfolding total_added
  total_is = same_place (number_at (total_added A held wall)) ∙ total_set held six st d (wall_total held wall 0 + share) place.0 (omega (arith, place, few)) way.0 way.1

  totals_back : total_taken B (total_added A held wall) at ≡ held
  unfolding total_taken total_added
  totals_back =
      let less : wall_total held wall 0 + share - share ≡ get_or held (score_at st d) 0 = omega arith in
      rw (total_is, share_placed s wall t, less)
      (same_place (λ (a b : ℕ). set (total_added A held wall) (score_at a b) (get_or held (score_at st d) 0))
      ∙ set-set held (score_at st d) (wall_total held wall 0 + share) (get_or held (score_at st d) 0) ∙ set-get_or held (score_at st d) 0)

  -- The totals after the addition, place by place.
  added_long : length (total_added A held wall) ≡ 6
  unfolding total_added
  added_long = length-set held _ _ ∙ six

  pub added_other : (at : ℕ) → (at ≡ score_at st d → ⊥) → get_or (total_added A held wall) at 0 ≡ get_or held at 0
  unfolding total_added
  added_other at differs = total_other held six st d (wall_total held wall 0 + share) place.0 (omega (arith, place, few)) way.0 way.1 at differs

  pub added_here : get_or (total_added A held wall) (score_at st d) 0 ≡ wall_total held wall 0 + share
  unfolding total_added
  added_here = total_set held six st d (wall_total held wall 0 + share) place.0 (omega (arith, place, few)) way.0 way.1

  -- No total of the house was above the most before.
  held_within : some_above (storeys B) held ≡ false
  held_within =
      ap (λ (n : ℕ). some_above n held) (add_stands s wall t).storeys_same
      ∙ all_within (storeys A) few held six (λ at inside. go at inside (dec_lt at (score_at st d)) (dec_lt (score_at st d) at))
    where
      after_is : (at : ℕ) → at < 2 * storeys A → get_or (total_added A held wall) at 0 ≤ most_held
      after_is = none_above (storeys A) few (total_added A held wall) added_long (add_passes s wall e).within

      go : (at : ℕ) → at < 2 * storeys A → Dec (at < score_at st d) → Dec (score_at st d < at) → get_or held at 0 ≤ most_held
      go at inside (yes l) _ = omega (arith, added_other at (λ e. omega arith), after_is at inside)
      go at inside (no l) (yes m) = omega (arith, added_other at (λ e. omega arith), after_is at inside)
      go at inside (no l) (no m) =
          let same : at ≡ score_at st d = omega arith in
          omega (arith, ap (λ (k : ℕ). get_or held k 0) same, ap (λ (k : ℕ). get_or (total_added A held wall) k 0) same, added_here, after_is at inside)

  -- So the wall can be deleted again,
  abbrev row : ℕ
  row = at + 1

  back : row - 1 ≡ at
  back = omega arith

  passes_with : deletions.Passes B (total_added A held wall) row
  passes_with = record {
    wall = deletions.wall_here B (total_added A held wall) row (omega arith) (ap (λ (k : ℕ). cell B k 0) back ∙ add_kind s wall t);
    enough_held = rw back (omega (arith, share_placed s wall t, total_is));
    within = rw (back, totals_back) held_within;
  }

  rows_are : rows_of after ≡ B
  rows_are = add_rows s wall t

  held_are : after.totals.held ≡ total_added A held wall
  unfolding with_wall
  held_are = refl

  count_is : after.totals.rows ≡ s.totals.rows + 1
  count_is = count_with s wall

  after_fits : 8 * after.totals.rows ≤ length after.table
  after_fits = omega (arith, count_is, add_table_long s wall t, add_fits s wall t)

  after_checked : accepts (checking after) ≡ true
  after_checked = checking_accepts after (record { fits = after_fits; accepted = add_judged s wall t })

  deletion_is : deletion (rows_of after) after.totals.held row ≡ deletion B (total_added A held wall) row
  deletion_is = ap₂ {B = List ℕ} (λ (a b : List ℕ). deletion a b row) rows_are held_are

  pub deleted_again : accepts (delete_told after row) ≡ true
  deleted_again =
      sym (ap accepts (delete_next after row after_checked)) ∙ ap accepts (deletion_is ∙ deletions.passes_told B (total_added A held wall) row passes_with)

  found : Found after row
  found = record {
    fits = after_fits;
    rows_accepted = add_judged s wall t;
    some = omega arith;
    kind = ap (λ (l : List ℕ). cell l (row - 1) 0) rows_are ∙ passes_with.wall.kind;
  }

  -- and leaves the rows in use and the totals as they were.
  pub rows_back : rows_of (without_wall after row) ≡ A
  rows_back =
      delete_rows after row found ∙ ap₂ (λ (l : List ℕ) (k : ℕ). without_row l k) rows_are back ∙ put_back A at wall (add_put s wall t).inside eight

  pub totals_again : (without_wall after row).totals ≡ s.totals
  unfolding without_wall
  totals_again =
      let held_back : total_taken (rows_of after) after.totals.held (row - 1) ≡ held = rw (rows_are, held_are, back) totals_back in
      let count_back : after.totals.rows - 1 ≡ s.totals.rows = omega (arith, count_is) in
      rw (held_back, count_back) refl

-- A deletion that is accepted, from any record: the totals after it, place by place.
module _ (s : State) (row : ℕ) (e : accepts (delete_told s row) ≡ true) (six : length s.totals.held ≡ 6) where
  abbrev R : List ℕ
  R = rows_of s

  f : Found s row
  f = delete_ready s row e

  storey_in : (1 ≤ cell R (row - 1) 1) × (cell R (row - 1) 1 ≤ 3)
  storey_in =
      let ranged = delete_ranged s row f 1 (omega arith) in
      (ranged.0, omega (arith, ranged.1, (storeys_few R f.rows_accepted).1))

  direction_in : (1 ≤ cell R (row - 1) 2) × (cell R (row - 1) 2 ≤ 2)
  direction_in = delete_ranged s row f 2 (omega arith)

  abbrev rest : ℕ
  rest = wall_total s.totals.held R (row - 1) - row_share (house_of R) R (row - 1)

  pub taken_here : wall_total s.totals.held R (row - 1) ≡ wall_total (total_taken R s.totals.held (row - 1)) R (row - 1) + row_share (house_of R) R (row - 1)
  unfolding total_taken
  taken_here =
      let is = total_set s.totals.held six (cell R (row - 1) 1) (cell R (row - 1) 2) rest storey_in.0 storey_in.1 direction_in.0 direction_in.1 in
      omega (arith, is, (delete_passes s row e).enough_held)

  pub taken_other : (at : ℕ) → (at ≡ score_at (cell R (row - 1) 1) (cell R (row - 1) 2) → ⊥) → get_or (total_taken R s.totals.held (row - 1)) at 0 ≡ get_or s.totals.held at 0
  unfolding total_taken
  taken_other at differs = total_other s.totals.held six (cell R (row - 1) 1) (cell R (row - 1) 2) rest storey_in.0 storey_in.1 direction_in.0 direction_in.1 at differs
