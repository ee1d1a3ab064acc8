-- The totals: "one held strength for each storey and direction" (document 02, request 7). A house has two for each storey, in the order of its scores;
-- those of storeys that it lacks are neither looked at nor changed by an addition or a deletion.
use Rattle.std.specs.Prelude.{ℕ, ◌+◌, ◌-◌, ◌*◌, Bool, List, take, set, ltb}
use Rattle.std.specs.List.{list_any}
use Rattle.survey.specs.Table.{cell}
use Rattle.method.specs.Held.{most_held}
use Rattle.diagnosis.specs.Rows.{house_of}
use Rattle.diagnosis.specs.House.{row_share}
use Rattle.diagnosis.specs.Answers.{score_at, number_at}

-- A wall by its row, in the table in which it stands: the total of its storey and direction, and six totals with a number for that one.
abbrev pub wall_total : List ℕ → List ℕ → ℕ → ℕ
wall_total held table row = number_at held (cell table row 1) (cell table row 2)

abbrev pub with_total : List ℕ → List ℕ → ℕ → ℕ → List ℕ
with_total held table row total = set held (score_at (cell table row 1) (cell table row 2)) total

-- "Each change moves the total of that wall's storey and direction by that wall's share alone": the totals with a wall more, by its eight numbers, and
-- with one of the rows less.
unfoldable pub total_added : List ℕ → List ℕ → List ℕ → List ℕ
total_added rows held wall = with_total held wall 0 (wall_total held wall 0 + row_share (house_of rows) wall 0)

unfoldable pub total_taken : List ℕ → List ℕ → ℕ → List ℕ
total_taken rows held row = with_total held rows row (wall_total held rows row - row_share (house_of rows) rows row)

-- Whether "any total of the house, moved or not, would then lie outside 0 to 60,000,000,000": above it; and below 0, where a wall is taken out that
-- counts more than its total.
unfoldable pub some_above : ℕ → List ℕ → Bool
some_above storeys held = list_any (λ total. ltb most_held total) (take (2 * storeys) held)

abbrev pub would_fall_below : List ℕ → List ℕ → ℕ → Bool
would_fall_below rows held row = ltb (wall_total held rows row) (row_share (house_of rows) rows row)
