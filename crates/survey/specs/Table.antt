-- A table's numbers, and where its rows stand. Document 01, "The sheet and the table": "32-bit numbers, eight to a row"; the house, its
-- storeys from the ground up, ends for each storey and direction, walls, and one parts row; document 02, request 3: and one dates row. Rows and columns
-- count from 0 here.
use Rattle.std.specs.Prelude.{ℕ, ◌+◌, ◌-◌, ◌*◌, ◌/◌, ◌%◌, Bool, not, List, length, get_or, eqb}
use Rattle.answer.specs.First.{first}

-- The number in a row and a column; 0 beyond the table, and no row is of kind 0.
abbrev pub cell : List ℕ → ℕ → ℕ → ℕ
cell table row column = get_or table (8 * row + column) 0

-- How many storeys the house has, by its row.
abbrev pub storeys : List ℕ → ℕ
storeys table = cell table 0 1

-- The house is row 0, storey 1 is row 1, and so on. The ends follow, two rows to a storey; the first of them:
abbrev pub first_ends : List ℕ → ℕ
first_ends table = storeys table + 1

-- The row of the ends of a storey and direction, both from 1; and the storey and the direction that are due in a row of ends.
abbrev pub ends_row : List ℕ → ℕ → ℕ → ℕ
ends_row table storey direction = first_ends table + 2 * (storey - 1) + (direction - 1)

abbrev pub ends_storey : List ℕ → ℕ → ℕ
ends_storey table row = (row - first_ends table) / 2 + 1

abbrev pub ends_direction : List ℕ → ℕ → ℕ
ends_direction table row = (row - first_ends table) % 2 + 1

-- The walls follow, down to the first row that is not of kind 4.
abbrev pub first_wall : List ℕ → ℕ
first_wall table = 3 * storeys table + 1

abbrev pub is_wall : List ℕ → ℕ → Bool
is_wall table row = eqb (cell table row 0) 4

unfoldable pub wall_rows : List ℕ → ℕ
wall_rows table = first (λ k. not (is_wall table (first_wall table + k))) (length table)

-- The row after the walls, where the parts are due.
abbrev pub parts_row : List ℕ → ℕ
parts_row table = first_wall table + wall_rows table

-- The row after that, where the dates are due: "A row of kind 8 must follow the parts row".
abbrev pub dates_row : List ℕ → ℕ
dates_row table = parts_row table + 1

-- How many rows a whole table has: the dates row is the last.
abbrev pub rows_due : List ℕ → ℕ
rows_due table = dates_row table + 1
