-- Which refusal a table gets. Document 01, "What a refused sheet is told": scoring tests "1, then each row from the top for 3, 4, 5, 6,
-- 7, 8 in that order (4 names the leftmost column; 3 and 5 name column 1)"; document 02, request 3, has 10 and 11 for the dates row.
use Rattle.std.specs.Prelude.{ℕ, ◌+◌, ◌-◌, Bool, cond, not, ◌||◌, List, length, get_or, eqb, leb, ltb, Option, Some, None, Result, Ok, Err}
use Rattle.std.specs.Int.Bits.{bit_and}
use Rattle.answer.specs.Told.{Told, number_of, counted, refusal, sheet_length, row_out_of_order, out_of_range, too_many_walls, ends_exceed_storey, mark_on_absent_part, no_parts, no_such_day, dates_out_of_order}
use Rattle.answer.specs.First.{first}
use Rattle.answer.specs.Length.{most_walls, rows_in}
use Rattle.calendar.specs.Days.{is_day}
use Rattle.survey.specs.Table.{cell, storeys, ends_storey, first_wall, parts_row, dates_row, rows_due}
use Rattle.survey.specs.declared.ranges.Range.{Range}
use Rattle.survey.specs.Ranges.{lows, highs, house_columns, storey_columns, ends_columns, wall_ranges, wall_columns, parts_columns, dates_columns}
use Rattle.survey.specs.declared.row.RowFault.{RowFault}

-- A row's fault: a refusal's number and column, from 1; number 0 where the row has none.
pub record Fault : Type 0 where
  pub number : ℕ
  pub column : ℕ

abbrev pub fault : ℕ → ℕ → Fault
fault number column = record { number = number; column = column }

abbrev pub none : Fault
none = fault 0 0

-- What the code's test of a row tells of the row.
abbrev pub fault_told : Result (Unit {0}) RowFault → Fault
fault_told (Ok _) = none
fault_told (Err found) = fault (number_of found.reason) found.column

abbrev pub faulty : Fault → Bool
faulty f = ltb 0 f.number

-- Two tests, one after the other: the fault of the first that finds one.
infixr 40 ◌then◌
unfoldable pub ◌then◌ : Fault → Fault → Fault
f then g = cond (faulty f) f g

-- A test: it finds the fault where the condition holds, and else none.
unfoldable pub test : Bool → Fault → Fault
test holds f = cond holds f none

-- Whether the number in a column lies outside its range.
unfoldable pub outside : List ℕ → List ℕ → List ℕ → ℕ → ℕ → Bool
outside low high table row column =
    ltb (cell table row column) (get_or low column 0) || ltb (get_or high column 0) (cell table row column)

-- The leftmost column of a row, from 0, whose number lies outside its range; 8 where none does.
unfoldable pub leftmost : List ℕ → List ℕ → List ℕ → ℕ → ℕ
leftmost low high table row = first (outside low high table row) 8

-- As the code has it: a place of the first n, where there is one.
abbrev pub place_below : ℕ → ℕ → Option ℕ
place_below n place = cond (ltb place n) (Some place) None

-- Refusals 3 and 4, by that column. The first `due` columns say which row it is: its kind, and the storey and direction that are due.
unfoldable pub wrong_column : ℕ → ℕ → Fault
wrong_column due column =
    test (ltb column due) (fault row_out_of_order 1)
    then test (ltb column 8) (fault out_of_range (column + 1))

abbrev pub columns_fault : ℕ → List Range → List ℕ → ℕ → Fault
columns_fault due ranges table row = wrong_column due (leftmost (lows ranges) (highs ranges) table row)

unfoldable pub house_fault : List ℕ → Fault
house_fault table = columns_fault 1 (house_columns table) table 0

unfoldable pub storey_fault : List ℕ → ℕ → Fault
storey_fault table row = columns_fault 2 (storey_columns row) table row

-- "area a + area b over the storey's area; column 4".
unfoldable pub ends_fault : List ℕ → ℕ → Fault
ends_fault table row =
    columns_fault 3 (ends_columns table row) table row
    then test (ltb (cell table (ends_storey table row) 2) (cell table row 3 + cell table row 4)) (fault ends_exceed_storey 4)

-- The storey of the wall before; 0 before the first wall.
unfoldable pub storey_before : List ℕ → ℕ → ℕ
storey_before table row = cond (eqb row (first_wall table)) 0 (cell table (row - 1) 1)

-- "In a wall row whose storey falls, 3 comes before 4"; "the 301st wall row".
unfoldable pub wall_fault : List ℕ → ℕ → Fault
wall_fault table row =
    test (ltb (cell table row 1) (storey_before table row)) (fault row_out_of_order 1)
    then columns_fault 1 (wall_columns table row) table row
    then test (leb (first_wall table + most_walls) row) (fault too_many_walls 1)

-- Whether every item of a set is one of another: "item 1 is worth 1, each next item twice the one before".
unfoldable pub within : ℕ → ℕ → Bool
within set other = eqb (bit_and set other) set

-- "mark on absent part"; "present set 0".
unfoldable pub parts_fault : List ℕ → ℕ → Fault
parts_fault table row =
    columns_fault 1 parts_columns table row
    then test (not (within (cell table row 2) (cell table row 1))) (fault mark_on_absent_part 3)
    then test (eqb (cell table row 1) 0) (fault no_parts 2)

-- "Refused: 10 no such day (leftmost column), 11 a date before the one to its left (leftmost such column; equal days are fine)".
abbrev pub has_no_day : List ℕ → ℕ → ℕ → Bool
has_no_day table row column = not (is_day (cell table row column))

unfoldable pub days_fault : List ℕ → ℕ → Fault
days_fault table row =
    test (has_no_day table row 1) (fault no_such_day 2)
    then test (has_no_day table row 2) (fault no_such_day 3)
    then test (has_no_day table row 3) (fault no_such_day 4)

unfoldable pub order_fault : List ℕ → ℕ → Fault
order_fault table row =
    test (ltb (cell table row 2) (cell table row 1)) (fault dates_out_of_order 3)
    then test (ltb (cell table row 3) (cell table row 2)) (fault dates_out_of_order 4)

-- "10 then 11 are tested on this row after its ranges".
unfoldable pub dates_fault : List ℕ → ℕ → Fault
dates_fault table row = columns_fault 1 dates_columns table row then days_fault table row then order_fault table row

-- The fault of a row, by where it stands, if no row before it has a fault. After the dates row no row is due.
unfoldable pub row_fault : List ℕ → ℕ → Fault
row_fault table row =
    cond (eqb row 0) (house_fault table)
    (cond (leb row (storeys table)) (storey_fault table row)
    (cond (ltb row (first_wall table)) (ends_fault table row)
    (cond (ltb row (parts_row table)) (wall_fault table row)
    (cond (eqb row (parts_row table)) (parts_fault table row)
    (cond (eqb row (dates_row table)) (dates_fault table row)
    (fault row_out_of_order 1))))))

-- The answer of judging a table: the first faulty row's refusal; 3 at the row after the last where the table ends early; else the count
-- of rows.
unfoldable pub judging : List ℕ → Told
judging table =
    let rows = rows_in 8 (length table) in
    let row = first (λ i. faulty (row_fault table i)) rows in
    cond (eqb rows 0) (refusal sheet_length 0 0)
    (cond (ltb row rows) (refusal (row_fault table row).number (row + 1) (row_fault table row).column)
    (cond (ltb rows (rows_due table)) (refusal row_out_of_order (rows + 1) 1)
    (counted rows)))

-- Document 02, request 7: of a wall's eight numbers that are to be a row of a house of so many storeys, the leftmost column, from 0, outside a wall
-- row's ranges; 8 where none is.
unfoldable pub new_wall_column : ℕ → List ℕ → ℕ
new_wall_column storeys wall = let ranges = wall_ranges storeys (cell wall 0 7) in leftmost (lows ranges) (highs ranges) wall 0
