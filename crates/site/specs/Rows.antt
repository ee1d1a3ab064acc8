-- Rows in use, and a wall put in among them or taken out. Document 02, request 7: "The rows stay in the lent table, a new wall goes after the last wall
-- whose storey isn't above its own (with none, after the ends)"; "A deletion moves the rows after it up one". Rows count from 0 here.
use Rattle.std.specs.Prelude.{ℕ, zero, suc, ◌+◌, ◌*◌, Bool, cond, List, ◌++◌, take, drop, leb}
use Rattle.survey.specs.Table.{cell, first_wall, wall_rows}

-- The rows in use: so many of the lent table's first rows.
abbrev pub in_use : List ℕ → ℕ → List ℕ
in_use lent rows = take (8 * rows) lent

-- Rows with a row's eight numbers put in at a row; and with a row taken out.
unfoldable pub with_row : List ℕ → ℕ → List ℕ → List ℕ
with_row rows row numbers = take (8 * row) rows ++ numbers ++ drop (8 * row) rows

unfoldable pub without_row : List ℕ → ℕ → List ℕ
without_row rows row = take (8 * row) rows ++ drop (8 * row + 8) rows

-- The place after the last of the places 0 to n − 1 at which a test holds; 0 where it holds at none.
unfoldable pub after_last : (ℕ → Bool) → ℕ → ℕ
after_last test zero = 0
after_last test (suc n) = cond (test n) (suc n) (after_last test n)

-- The row that a new wall of a storey takes.
unfoldable pub row_due : List ℕ → ℕ → ℕ
row_due rows storey = first_wall rows + after_last (λ k. leb (cell rows (first_wall rows + k) 1) storey) (wall_rows rows)
