-- A storey's walls. Document 01: "For a table and a storey number the library shows that storey's walls as a part of the lent table, in
-- their order; the part may be empty, and is empty where scoring refuses the table or the house lacks the storey."
use Rattle.std.specs.Prelude.{ℕ, zero, suc, ◌+◌, ◌-◌, ◌*◌, ◌/◌, Bool, cond, not, ◌&&◌, List, [], ◌++◌, length, take, drop, eqb}
use Rattle.answer.specs.Told.{accepts}
use Rattle.answer.specs.First.{first}
use Rattle.survey.specs.Table.{cell, is_wall}
use Rattle.survey.specs.Judgement.{judging}

-- So many rows of a table (`count`), from a row on.
unfoldable pub rows_from : List ℕ → ℕ → ℕ → List ℕ
rows_from table row count = take (8 * count) (drop (8 * row) table)

-- Of a table's first rows, in their order, those at which a test holds.
unfoldable pub rows_where : (ℕ → Bool) → List ℕ → ℕ → List ℕ
rows_where test table zero = []
rows_where test table (suc n) = rows_where test table n ++ cond (test n) (rows_from table n 1) []

-- Whether a row is a wall of a storey.
unfoldable pub is_wall_of : List ℕ → ℕ → ℕ → Bool
is_wall_of table storey row = is_wall table row && eqb (cell table row 1) storey

-- The walls of a storey: its wall rows in their order, and none where the table is refused.
unfoldable pub storey_walls : List ℕ → ℕ → List ℕ
storey_walls table storey = cond (accepts (judging table)) (rows_where (is_wall_of table storey) table (length table / 8)) []

-- The first unbroken run of a storey's wall rows, in any table: where it starts, how many rows it has, and the rows. Where the table is
-- accepted, these are all its walls (proofs/Theorems.antt, `run_is_walls`).
unfoldable pub run_start : List ℕ → ℕ → ℕ
run_start table storey = first (is_wall_of table storey) (length table / 8)

unfoldable pub run_length : List ℕ → ℕ → ℕ → ℕ
run_length table storey start = first (λ k. not (is_wall_of table storey (start + k))) (length table / 8 - start)

unfoldable pub storey_run : List ℕ → ℕ → List ℕ
storey_run table storey = rows_from table (run_start table storey) (run_length table storey (run_start table storey))
