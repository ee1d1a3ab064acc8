-- What a wall counts towards the held strength. Document 01, "Held strength". "Unit: 0.000001 kN, whole numbers."
use Rattle.std.specs.Prelude.{Bool, cond, ◌&&◌, List, [], ◌∷◌, ℕ, zero, suc, ◌+◌, ◌-◌, ◌*◌, ◌/◌, min, get_or, eqb, ltb}
use Rattle.method.specs.declared.joints.Position.{Position}
use Rattle.method.specs.declared.joints.Position.TheVariants.{TopStorey, OtherStorey, OneStorey}
use Rattle.method.specs.declared.rows.House.{House}
use Rattle.method.specs.declared.rows.Wall.{Wall}
use Rattle.method.specs.Printed.{nth}
use Rattle.method.specs.JointTables.{top_storey, other_storey, one_storey, at2, at3, at5, at7}

-- Which of the three printed tables a storey takes: 1 the top storey of two or three, 2 another storey of two or three, 3 one storey. Numbers that
-- no house has go by the same tests.
unfoldable pub position : House → ℕ → ℕ
position house storey = cond (eqb house.storeys 1) 3 (cond (eqb storey house.storeys) 1 2)

-- The number of a table.
abbrev pub position_number : Position → ℕ
position_number TopStorey = 1
position_number OtherStorey = 2
position_number OneStorey = 3

-- "The middle storey of three uses foundation 1."
unfoldable pub foundation_used : House → ℕ → ℕ
foundation_used house storey = cond (eqb house.storeys 3 && eqb storey 2) 1 house.foundation

-- "In one storey joints 3 and 4 share a row."
unfoldable pub shared_row : ℕ → ℕ
shared_row joint = cond (eqb joint 4) 3 joint

-- The printed entry of the top storey's table for a snow 0 to 3, by a joint 1 to 4 and a column of strength, from 0. Where there is no such table, or
-- no such entry in it, it is 0.
unfoldable pub top_entry : ℕ → ℕ → ℕ → ℕ
top_entry snow joint column = get_or (nth (get_or top_storey snow []) joint []) column 0

-- The same of the tables that go by foundation 1 to 3 too.
unfoldable pub entry_in : List (List (List (List ℕ))) → ℕ → ℕ → ℕ → ℕ → ℕ
entry_in tables snow foundation line column = nth (get_or (nth (get_or tables snow []) line []) column []) foundation 0

-- The printed entry of a snow, a position, a foundation and a joint, in a column of strength.
unfoldable pub entry : ℕ → ℕ → ℕ → ℕ → ℕ → ℕ
entry snow position foundation joint column =
    cond (eqb position 1) (top_entry snow joint column)
    (cond (eqb position 2) (entry_in other_storey snow foundation joint column) (entry_in one_storey snow foundation (shared_row joint) column))

-- A row's entries at 2.0, 3.0, 5.0 and 7.0 kN/m, as the code holds them.
abbrev pub entries : (ℕ → ℕ) → List ℕ
entries row = row at2 ∷ row at3 ∷ row at5 ∷ row at7 ∷ []

-- "Between, go straight from entry to entry and round to the nearest hundredth, half up": from one strength and its entry to the next.
unfoldable pub interpolated : ℕ → ℕ → ℕ → ℕ → ℕ → ℕ
interpolated from to left right strength =
    (2 * (left * (to - strength) + right * (strength - from)) + (to - from)) / (2 * (to - from))

-- The factor by the four entries of a row is one of five cases, in the page's order (document 02, request 2); a strength is in 0.1 kN/m. "Below 2.0
-- the 2.0 entry holds".
abbrev pub below2 : (ℕ → ℕ) → ℕ
below2 row = row at2

-- From 2.0 to 3.0, from 3.0 to 5.0 and from 5.0 to 7.0 it goes straight from entry to entry.
abbrev pub from2to3 : (ℕ → ℕ) → ℕ → ℕ
from2to3 row strength = interpolated 20 30 (row at2) (row at3) strength

abbrev pub from3to5 : (ℕ → ℕ) → ℕ → ℕ
from3to5 row strength = interpolated 30 50 (row at3) (row at5) strength

abbrev pub from5to7 : (ℕ → ℕ) → ℕ → ℕ
from5to7 row strength = interpolated 50 70 (row at5) (row at7) strength

-- "above 7.0 the 7.0 entry."
abbrev pub above7 : (ℕ → ℕ) → ℕ
above7 row = row at7

-- The factor of a strength: the case that it is in.
unfoldable pub row_factor : (ℕ → ℕ) → ℕ → ℕ
row_factor row strength =
    cond (ltb strength 20) (below2 row)
    (cond (ltb strength 30) (from2to3 row strength)
    (cond (ltb strength 50) (from3to5 row strength)
    (cond (ltb strength 70) (from5to7 row strength)
    (above7 row))))

-- Document 01's joint factor (000's Kj, and under snow its Kjs) of a solid wall in a storey of a house, in hundredths. "The joint factor then comes
-- from 000's table 4.4, with the same straight line between entries" (document 02, request 1).
unfoldable pub joint_factor : House → ℕ → Wall → ℕ
joint_factor house storey wall =
    row_factor (entry house.snow (position house storey) (foundation_used house storey) wall.joint) wall.strength

-- "A solid wall counts strength (at most 100) × joint factor in hundredths × length."
unfoldable pub solid_share : House → ℕ → Wall → ℕ
solid_share house storey wall = min wall.strength 100 * joint_factor house storey wall * wall.length

-- "A window counts 6 and a full-height opening 3, × 100 × length, with length at most 3,000."
unfoldable pub opening_share : ℕ → Wall → ℕ
opening_share strength wall = strength * 100 * min wall.length 3000

-- What a wall of a type (1 solid, 2 window opening, 3 full-height opening) counts; 0 for any other type.
unfoldable pub wall_share : House → ℕ → Wall → ℕ
wall_share house storey wall =
    cond (eqb wall.walltype 1) (solid_share house storey wall)
    (cond (eqb wall.walltype 2) (opening_share 6 wall)
    (cond (eqb wall.walltype 3) (opening_share 3 wall) 0))

-- "Held strength of a storey and direction is the sum over its walls": of n walls, numbered from 0, the sum of the shares of those that a
-- test takes.
unfoldable pub held_strength : (ℕ → Bool) → (ℕ → ℕ) → ℕ → ℕ
held_strength takes share zero = 0
held_strength takes share (suc n) = held_strength takes share n + cond (takes n) (share n) 0

-- 60,000 kN, which no storey's walls exceed. Where scores are computed, a held strength above this counts as this (`capped_quotient`).
abbrev pub most_held : ℕ
most_held = 60_000_000_000
