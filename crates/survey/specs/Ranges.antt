-- What a row's columns may hold. Document 01, "The sheet and the table". Each kind of row is a list with a line for each column, the kind first.
use Rattle.std.specs.Prelude.{ℕ, Bool, cond, ◌||◌, List, [], ◌∷◌, map, eqb}
use Rattle.survey.specs.declared.ranges.Range.{Range}
use Rattle.survey.specs.Table.{cell, storeys, ends_storey, ends_direction}

-- The numbers that a column may hold: a record of the least, `low`, and the greatest, `high`.
infix 70 ◌to◌
abbrev pub ◌to◌ : ℕ → ℕ → Range
low to high = record { low = low; high = high }

abbrev pub exactly : ℕ → Range
exactly n = n to n

abbrev pub unused : Range
unused = exactly 0

abbrev pub lows : List Range → List ℕ
lows ranges = map (λ r. r.low) ranges

abbrev pub highs : List Range → List ℕ
highs ranges = map (λ r. r.high) ranges

-- "zone in hundredths (70, 80, 90 or 100)": the one of these that a number is; 100 where it is none of them.
unfoldable pub zone : ℕ → ℕ
zone n = cond (eqb n 70) 70 (cond (eqb n 80) 80 (cond (eqb n 90) 90 100))

-- "House, one row".
abbrev pub house_columns : List ℕ → List Range
house_columns table =
    exactly 1
    ∷ 1 to 3  -- storeys
    ∷ 1 to 3  -- weight class: 1 light, 2 heavy, 3 very heavy
    ∷ exactly (zone (cell table 0 3))  -- zone in hundredths
    ∷ 1 to 2  -- ground: 1 ordinary, 2 very soft
    ∷ 1 to 3  -- foundation: 000's I to III
    ∷ unused  -- "Age in the house row must be 0" (document 02, request 3)
    ∷ 0 to 3  -- snow: 0 none, 1 for 1 m cleared, 2 for 2 m, 3 for 2.5 m (document 02, request 1)
    ∷ []

-- "Storey, one each, from the ground up".
abbrev pub storey_columns : ℕ → List Range
storey_columns number =
    exactly 2
    ∷ exactly number  -- storey
    ∷ 1 to 50000  -- floor area in 0.01 m²
    ∷ 500 to 50000  -- short side in mm
    ∷ 1 to 3  -- floor type: 000's I to III
    ∷ 0 to 1  -- 1 if there is a void of 4 m or more
    ∷ unused
    ∷ unused
    ∷ []

-- "Ends, for each storey, direction 1 (X) then 2 (Y)". The storeys of a part are "each from this storey's number to the house's".
abbrev pub ends_columns : List ℕ → ℕ → List Range
ends_columns table row =
    exactly 3
    ∷ exactly (ends_storey table row)
    ∷ exactly (ends_direction table row)
    ∷ 1 to 50000  -- area of end quarter a in 0.01 m²
    ∷ 1 to 50000  -- area of end quarter b
    ∷ ends_storey table row to storeys table  -- storeys of the part at a
    ∷ ends_storey table row to storeys table  -- storeys of the part at b
    ∷ unused
    ∷ []

-- Types 2 and 3, the window and the full-height opening.
abbrev pub is_opening : ℕ → Bool
is_opening type = eqb type 2 || eqb type 3

-- "For types 2 and 3 strength and joint are 0. Where the type is none of the three, columns 5 and 7 are judged as for type 1."
abbrev pub solid : ℕ → Range → Range
solid type range = cond (is_opening type) unused range

-- "Walls", in a house of so many storeys, by the wall's own type.
abbrev pub wall_ranges : ℕ → ℕ → List Range
wall_ranges storeys type =
    exactly 4
    ∷ 1 to storeys  -- storey
    ∷ 1 to 2  -- direction
    ∷ 1 to 3  -- place: 1 end a, 2 middle, 3 end b
    ∷ solid type (1 to 300)  -- strength in 0.1 kN/m
    ∷ 1 to 20000  -- length in mm
    ∷ solid type (1 to 4)  -- joint: 000's I to IV
    ∷ 1 to 3  -- type: 1 solid, 2 window opening, 3 full-height opening
    ∷ []

abbrev pub wall_columns : List ℕ → ℕ → List Range
wall_columns table row = wall_ranges (storeys table) (cell table row 7)

-- "Parts, one row". "A set is 0 to 8,191".
abbrev pub parts_columns : List Range
parts_columns =
    exactly 5
    ∷ 0 to 8191  -- present set
    ∷ 0 to 8191  -- marked set
    ∷ 0 to 1  -- 1 for repaired (document 02, request 5)
    ∷ unused
    ∷ unused
    ∷ unused
    ∷ unused
    ∷ []

-- Document 02, request 3: "A row of kind 8 must follow the parts row, ..: 8; start of work; completion; survey day; four 0s"; "from 19000101 to 21991231".
abbrev pub any_day : Range
any_day = 19000101 to 21991231

abbrev pub dates_columns : List Range
dates_columns =
    exactly 8
    ∷ any_day  -- start of work
    ∷ any_day  -- completion
    ∷ any_day  -- survey day
    ∷ unused
    ∷ unused
    ∷ unused
    ∷ unused
    ∷ []
