-- Where rows stand: which rows a whole table has, the row after the walls, and what lies beyond a table. Assumes nothing.
use Rattle.std.proofs.Common.{◌≡◌, sym, subst, ◌∙◌, Bool, true, false, not, List, ℕ, ◌+◌, ◌-◌, ◌*◌, ◌<◌, ◌≤◌, arith, T, length, eqb-true}
use native.Mathlib.Decide.{dec_lt}
use lib.ListN.{get_or-eq_default}
use borrow.Author.Tests.{not-true, not-false}
use Rattle.answer.proofs.Places.{before_first, at_first}
use Rattle.survey.specs.Table.{cell, storeys, ends_row, ends_storey, ends_direction, is_wall, first_wall, wall_rows, parts_row, dates_row, rows_due}

-- What holds of every row by the place where it stands holds of all rows of a whole table.
module _
    (table : List ℕ) (P : ℕ → Type 0) (house : P 0) (storey : (row : ℕ) → 0 < row → row ≤ storeys table → P row)
    (ends : (row : ℕ) → storeys table < row → row < first_wall table → P row)
    (wall : (row : ℕ) → first_wall table ≤ row → row < parts_row table → P row) (parts : P (parts_row table)) (dates : P (dates_row table))
  where
    past_walls : (row : ℕ) → parts_row table ≤ row → row < rows_due table → P row
    past_walls row past h = go (dec_lt (parts_row table) row)
      where
        go : Dec (parts_row table < row) → P row
        go (yes l) =
            let last : row ≡ dates_row table = omega arith in
            rw last dates
        go (no l) =
            let here : row ≡ parts_row table = omega arith in
            rw here parts

    pub by_place_lem : (row : ℕ) → row < rows_due table → P row
    by_place_lem row h = go (dec_lt 0 row) (dec_lt (storeys table) row) (dec_lt row (first_wall table)) (dec_lt row (parts_row table))
      where
        go : Dec (0 < row) → Dec (storeys table < row) → Dec (row < first_wall table) → Dec (row < parts_row table) → P row
        go (no p) _ _ _ =
            let first : row ≡ 0 = omega arith in
            rw first house
        go (yes p) (no q) _ _ = storey row p (omega arith)
        go (yes p) (yes q) (yes r) _ = ends row q r
        go (yes p) (yes q) (no r) (yes s) = wall row (omega arith) s
        go (yes p) (yes q) (no r) (no s) = past_walls row (omega arith) h

-- Beyond a table every number is 0, and no row is a wall.
pub beyond : (table : List ℕ) (row column : ℕ) → length table ≤ 8 * row + column → cell table row column ≡ 0
beyond table row column h = get_or-eq_default table 0 {n = 8 * row + column} h

pub wall_within : (table : List ℕ) (row : ℕ) → is_wall table row ≡ true → 8 * row < length table
wall_within table row wall = go (dec_lt (8 * row) (length table))
  where
    go : Dec (8 * row < length table) → 8 * row < length table
    go (yes l) = l
    go (no l) = absurd (omega (arith, beyond table row 0 (omega arith), eqb-true (cell table row 0) 4 wall))

-- A row that is reached through walls alone: a wall stands before the parts row, and a row that is none is the parts row.
module _ (table : List ℕ) (row : ℕ) (past : first_wall table ≤ row) (reached : row ≤ parts_row table) where
  abbrev ends_at : ℕ → Bool
  ends_at k = not (is_wall table (first_wall table + k))

  pub wall_before_parts : is_wall table row ≡ true → row < parts_row table
  unfolding wall_rows
  wall_before_parts wall = go (dec_lt row (parts_row table))
    where
      go : Dec (row < parts_row table) → row < parts_row table
      go (yes l) = l
      go (no l) =
          let last : first_wall table + wall_rows table ≡ row = omega arith in
          let none = at_first ends_at (length table) (omega (arith, wall_within table row wall)) in
          absurd (subst T (sym wall ∙ not-true (is_wall table row) (rw last at none)) tt)

  pub parts_row_here : is_wall table row ≡ false → row ≡ parts_row table
  unfolding wall_rows
  parts_row_here none = go (dec_lt row (parts_row table))
    where
      go : Dec (row < parts_row table) → row ≡ parts_row table
      go (yes l) =
          let place : first_wall table + (row - first_wall table) ≡ row = omega arith in
          let wall = before_first ends_at (length table) (row - first_wall table) (omega arith) in
          absurd (subst T (sym (not-false (is_wall table row) (rw place at wall)) ∙ none) tt)
      go (no l) = omega arith

-- The row of a storey's ends in a direction stands between the storeys and the walls, and that storey and direction are due in it.
module _ (table : List ℕ) (storey direction : ℕ) (some : 1 ≤ storey) (one : 1 ≤ direction) (two : direction ≤ 2) where
  pub ends_above : storeys table < ends_row table storey direction
  ends_above = omega arith

  pub ends_before : storey ≤ storeys table → ends_row table storey direction < first_wall table
  ends_before most = omega arith

  pub ends_storey_lem : ends_storey table (ends_row table storey direction) ≡ storey
  ends_storey_lem = omega arith

  pub ends_direction_lem : ends_direction table (ends_row table storey direction) ≡ direction
  ends_direction_lem = omega arith
