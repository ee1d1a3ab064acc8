-- What changes on site, and what is answered. Document 02, request 7: "the running totals are updated within the caller's own record"; "The record also
-- counts the rows in use, and rows beyond them aren't read". Rows count from 0 here, but for the row to delete and the rows that are told.
use Rattle.std.specs.Prelude.{ℕ, ◌+◌, ◌-◌, ◌*◌, ◌/◌, cond, not, ◌&&◌, ◌||◌, List, [], ◌∷◌, ◌++◌, length, ltb, leb}
use Rattle.answer.specs.Told.{Told, accepts, counted, refusal, sheet_length, out_of_range, too_many_walls, lent_space_short, no_such_wall}
use Rattle.answer.specs.Length.{most_walls}
use Rattle.answer.specs.Lists.{over}
use Rattle.survey.specs.Table.{cell, storeys, is_wall, wall_rows}
use Rattle.survey.specs.Judgement.{judging, new_wall_column}
use Rattle.diagnosis.specs.House.{held}
use Rattle.diagnosis.specs.Answers.{ToldScoring, number_at, six_numbers, record_with, recorded}
use Rattle.site.specs.declared.totals.Totals.{Totals}
use Rattle.site.specs.Rows.{in_use, with_row, without_row, row_due}
use Rattle.site.specs.Totals.{total_added, total_taken, some_above, would_fall_below}

-- The state: the lent table and the caller's record.
pub record State : Type 0 where
  pub table : List ℕ
  pub totals : Totals

abbrev pub on : List ℕ → Totals → State
on table totals = record { table = table; totals = totals }

abbrev pub rows_of : State → List ℕ
rows_of s = in_use s.table s.totals.rows

-- "the rows in use are checked first as scoring does (a count beyond the lent table is 1)".
unfoldable pub checking : State → Told
checking s = cond (ltb (length s.table) (8 * s.totals.rows)) (refusal sheet_length 0 0) (judging (rows_of s))

-- What is answered where a change is told this, and the state is this after it: the refusal, or "the scores of those totals"; and the state that is left:
-- "A refused change or start alters neither table nor record."
unfoldable pub answered : Told → State → ToldScoring
answered tells after = recorded tells (record_with (rows_of after) (number_at after.totals.held))

unfoldable pub left : Told → State → State → State
left tells before after = cond (accepts tells) after before

-- "a start, once those rows pass the check below, fills in every sum and answers the scores".
unfoldable pub started : State → State
started s = on s.table (record { held = six_numbers (rows_of s) (held (rows_of s)); rows = s.totals.rows })

abbrev pub starting : State → ToldScoring
starting s = answered (checking s) (started s)

abbrev pub after_starting : State → State
after_starting s = left (checking s) s (started s)

-- A wall is added to rows that pass, with six totals, where so many numbers are lent: "then the new wall's 4 (a kind other than 4 too) and 5, both at the
-- row it would take, and, with no row left, 9; last, 12 with place 0, 0".
abbrev pub row_taken : List ℕ → List ℕ → ℕ
row_taken rows wall = row_due rows (cell wall 0 1)

unfoldable pub addition : List ℕ → List ℕ → ℕ → List ℕ → Told
addition rows held lent wall =
    let row = row_taken rows wall + 1 in
    let column = new_wall_column (storeys rows) wall in
    cond (ltb column 8) (refusal out_of_range row (column + 1))
    (cond (leb most_walls (wall_rows rows)) (refusal too_many_walls row 1)
    (cond (ltb lent (length rows + 8)) (refusal lent_space_short 0 0)
    (cond (some_above (storeys rows) (total_added rows held wall)) (refusal no_such_wall 0 0)
    (counted (length rows / 8 + 1)))))

-- On site the rows in use are checked first; and the state with the wall. The wall takes its row, and the rows from there on move down one.
unfoldable pub add_told : State → List ℕ → Told
add_told s wall =
    let checked = checking s in
    cond (accepts checked) (addition (rows_of s) s.totals.held (length s.table) wall) checked

unfoldable pub with_wall : State → List ℕ → State
with_wall s wall =
    let rows = rows_of s in
    on (over s.table (with_row rows (row_taken rows wall) wall)) (record { held = total_added rows s.totals.held wall; rows = s.totals.rows + 1 })

abbrev pub adding : State → List ℕ → ToldScoring
adding s wall = answered (add_told s wall) (with_wall s wall)

abbrev pub after_adding : State → List ℕ → State
after_adding s wall = left (add_told s wall) s (with_wall s wall)

-- A wall is deleted, by its row from 1: "12 no such wall to delete (that row, column 0)"; "last, 12 with place 0, 0".
unfoldable pub deletion : List ℕ → List ℕ → ℕ → Told
deletion rows held row =
    cond (not (ltb 0 row && is_wall rows (row - 1))) (refusal no_such_wall row 0)
    (cond (would_fall_below rows held (row - 1) || some_above (storeys rows) (total_taken rows held (row - 1))) (refusal no_such_wall 0 0)
    (counted (length rows / 8 - 1)))

unfoldable pub delete_told : State → ℕ → Told
delete_told s row =
    let checked = checking s in
    cond (accepts checked) (deletion (rows_of s) s.totals.held row) checked

-- "A deletion moves the rows after it up one and sets the last in use to 0."
abbrev pub empty_row : List ℕ
empty_row = 0 ∷ 0 ∷ 0 ∷ 0 ∷ 0 ∷ 0 ∷ 0 ∷ 0 ∷ []

unfoldable pub without_wall : State → ℕ → State
without_wall s row =
    let rows = rows_of s in
    on (over s.table (without_row rows (row - 1) ++ empty_row)) (record { held = total_taken rows s.totals.held (row - 1); rows = s.totals.rows - 1 })

abbrev pub deleting : State → ℕ → ToldScoring
deleting s row = answered (delete_told s row) (without_wall s row)

abbrev pub after_deleting : State → ℕ → State
after_deleting s row = left (delete_told s row) s (without_wall s row)
