-- The states that an addition and a deletion make: their rows in use, which are accepted. Assumes nothing.
use Rattle.std.proofs.Common.{◌≡◌, sym, ap, subst, ◌∙◌, List, [], ◌++◌, ℕ, ◌+◌, ◌-◌, ◌*◌, ◌/◌, ◌<◌, ◌≤◌, arith, length, take, drop, length-append}
use Rattle.std.proofs.lemmas.List.{length-take, take-append-le}
use Rattle.std.proofs.Math.Seq.{take-append_seam}
use native.Mathlib.Decide.{dec_le}
use Rattle.answer.specs.Told.{Told}
use Rattle.answer.specs.Length.{most_walls}
use Rattle.answer.specs.Lists.{over}
use Rattle.answer.proofs.Lists.{over_length}
use Rattle.survey.specs.Table.{cell, storeys, first_wall, wall_rows, parts_row}
use Rattle.survey.specs.declared.ranges.Range.{Range}
use Rattle.survey.specs.Ranges.{wall_ranges, wall_columns}
use Rattle.survey.specs.Judgement.{judging, new_wall_column}
use Rattle.survey.specs.Acceptance.{Inside, Accepted}
use Rattle.survey.proofs.Positions.{beyond}
use Rattle.survey.proofs.Acceptance.{accepted, made_accepted}
use Rattle.survey.proofs.StoreyWalls.{wall_stands}
use Rattle.site.specs.Rows.{with_row, without_row}
use Rattle.site.specs.Changes.{State, rows_of, row_taken, with_wall, without_wall, empty_row}
use Rattle.site.proofs.DueRows.{row_due_most, row_due_above, row_due_below}
use Rattle.site.proofs.PutRows.{Put, Stands, stands_put, put_accepted, stands_taken, taken_accepted}
use Rattle.site.proofs.PutLists.{with_long, with_numbers, with_put, without_long, without_put}
use Rattle.site.proofs.Additions.{wall_inside}

-- The rows in use are as long as their count says, where they fit.
pub in_use_long : (s : State) → 8 * s.totals.rows ≤ length s.table → length (rows_of s) ≡ 8 * s.totals.rows
in_use_long s fits = omega (arith, length-take (8 * s.totals.rows) s.table)

-- What an addition needs but for the totals.
pub record Ready (s : State) (wall : List ℕ) : Type 0 where
  pub eight : length wall ≡ 8
  pub fits : 8 * s.totals.rows ≤ length s.table
  pub rows_accepted : (judging (rows_of s)).number ≡ 0
  pub ranged : 8 ≤ new_wall_column (storeys (rows_of s)) wall
  pub few : wall_rows (rows_of s) < most_walls
  pub room : length (rows_of s) + 8 ≤ length s.table

module _ (s : State) (wall : List ℕ) (t : Ready s wall) where
  abbrev A : List ℕ
  A = rows_of s

  abbrev at : ℕ
  at = row_taken A wall

  abbrev B : List ℕ
  B = with_row A at wall

  a : Accepted A
  a = accepted A t.rows_accepted

  A_long : length A ≡ 8 * s.totals.rows
  A_long = in_use_long s t.fits

  at_fits : 8 * at ≤ length A
  at_fits = omega (arith, row_due_most A (cell wall 0 1), a.sizes)

  pub add_fits : (at ≤ s.totals.rows) × (8 * s.totals.rows + 8 ≤ length s.table)
  add_fits = (omega (arith, row_due_most A (cell wall 0 1), a.sizes, A_long), omega (arith, t.room, A_long))

  pub add_ranged : Inside (wall_ranges (storeys A) (cell wall 0 7)) wall 0
  add_ranged = wall_inside A [] wall 0 t.ranged

  pub add_put : Put A B at
  add_put = with_put A at wall at_fits t.eight

  pub add_numbers : (column : ℕ) → column < 8 → cell B at column ≡ cell wall 0 column
  add_numbers = with_numbers A at wall at_fits t.eight

  pub add_kind : cell B at 0 ≡ 4
  add_kind = add_numbers 0 (omega arith) ∙ omega (arith, add_ranged 0 (omega arith))

  pub add_stands : Stands A B at
  add_stands = stands_put add_put a (row_due_most A (cell wall 0 1)).0 (row_due_most A (cell wall 0 1)).1 add_kind

  columns_inside : Inside (wall_columns B at) B at
  columns_inside =
      let ranges : wall_ranges (storeys A) (cell wall 0 7) ≡ wall_columns B at = rw (add_stands.storeys_same, add_numbers 7 (omega arith)) in
      subst (λ (r : List Range). Inside r B at) ranges (λ column small. rw (add_numbers column small) (add_ranged column small))

  pub add_made : Accepted B
  add_made =
      put_accepted add_put a (row_due_most A (cell wall 0 1)).0 (row_due_most A (cell wall 0 1)).1 add_kind columns_inside t.few
      (λ l. rw (add_numbers 1 (omega arith)) (row_due_above A (cell wall 0 1) l))
      (λ l. rw (add_numbers 1 (omega arith)) (omega (arith, row_due_below A (cell wall 0 1) l)))

  pub add_long : length B ≡ 8 * (s.totals.rows + 1)
  add_long = omega (arith, with_long A at wall at_fits t.eight, A_long)

  -- The rows in use afterwards, which are accepted.
  pub add_rows : rows_of (with_wall s wall) ≡ B
  unfolding with_wall over
  add_rows = ap (λ (n : ℕ). take n (B ++ drop (length B) s.table)) (sym add_long) ∙ take-append_seam B (drop (length B) s.table)

  pub add_table_long : length (with_wall s wall).table ≡ length s.table
  unfolding with_wall
  add_table_long = over_length s.table B (omega (arith, add_long, add_fits))

  pub add_judged : (judging (rows_of (with_wall s wall))).number ≡ 0
  add_judged = ap (λ (t : List ℕ). (judging t).number) add_rows ∙ ap (λ (t : Told). t.number) (made_accepted B add_made)

-- What a deletion needs but for the totals.
pub record Found (s : State) (row : ℕ) : Type 0 where
  pub fits : 8 * s.totals.rows ≤ length s.table
  pub rows_accepted : (judging (rows_of s)).number ≡ 0
  pub some : 0 < row
  pub kind : cell (rows_of s) (row - 1) 0 ≡ 4

module _ (s : State) (row : ℕ) (f : Found s row) where
  abbrev R : List ℕ
  R = rows_of s

  abbrev L : List ℕ
  L = without_row R (row - 1)

  r : Accepted R
  r = accepted R f.rows_accepted

  R_long : length R ≡ 8 * s.totals.rows
  R_long = in_use_long s f.fits

  inside : row - 1 < length R / 8
  inside = go (dec_le (length R) (8 * (row - 1) + 0))
    where
      go : Dec (length R ≤ 8 * (row - 1) + 0) → row - 1 < length R / 8
      go (yes past) = absurd (omega (arith, f.kind, beyond R (row - 1) 0 past))
      go (no l) = omega (arith, r.sizes)

  stands : (first_wall R ≤ row - 1) × (row - 1 < parts_row R)
  stands = wall_stands R f.rows_accepted (row - 1) inside f.kind

  row_fits : 8 * (row - 1) + 8 ≤ length R
  row_fits = omega (arith, inside)

  pub delete_fits : (row - 1 < s.totals.rows) × (0 < s.totals.rows)
  delete_fits = (omega (arith, inside, R_long), omega (arith, inside, R_long))

  pub delete_put : Put L R (row - 1)
  delete_put = without_put R (row - 1) row_fits

  pub delete_stands : Stands L R (row - 1)
  delete_stands = stands_taken delete_put r stands.0 stands.1

  pub delete_made : Accepted L
  delete_made = taken_accepted delete_put r stands.0 stands.1

  pub delete_ranged : Inside (wall_columns R (row - 1)) R (row - 1)
  delete_ranged = r.wall_inside (row - 1) stands.0 stands.1

  L_long : length L ≡ 8 * (s.totals.rows - 1)
  L_long = omega (arith, without_long R (row - 1) row_fits, R_long)

  -- The rows in use afterwards, which are accepted.
  pub delete_rows : rows_of (without_wall s row) ≡ L
  unfolding without_wall over
  delete_rows =
      let rest = drop (length (L ++ empty_row)) s.table in
      take-append-le (8 * (s.totals.rows - 1)) (L ++ empty_row) rest (omega (arith, L_long, length-append L empty_row))
      ∙ ap (λ (n : ℕ). take n (L ++ empty_row)) (sym L_long) ∙ take-append_seam L empty_row

  pub delete_table_long : length (without_wall s row).table ≡ length s.table
  unfolding without_wall
  delete_table_long = over_length s.table (L ++ empty_row) (omega (arith, length-append L empty_row, L_long, delete_fits, f.fits))

  pub delete_long : length (L ++ empty_row) ≡ 8 * s.totals.rows
  delete_long = omega (arith, length-append L empty_row, L_long, delete_fits)

  pub delete_judged : (judging (rows_of (without_wall s row))).number ≡ 0
  delete_judged = ap (λ (t : List ℕ). (judging t).number) delete_rows ∙ ap (λ (t : Told). t.number) (made_accepted L delete_made)
