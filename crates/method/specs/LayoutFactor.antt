-- How far the layout of walls lowers a storey's strength. Document 01, "Layout factor".
use Rattle.std.specs.Prelude.{cond, List, [], ◌∷◌, ℕ, ◌+◌, ◌*◌, ◌≤◌, min, get_or, eqb, leb}
use Rattle.method.specs.declared.rows.Storey.{Storey}
use Rattle.method.specs.declared.rows.Strengths.{Strengths}
use Rattle.method.specs.declared.rows.Bands.{Bands}
use Rattle.method.specs.Printed.{nth}

-- Compared with a storey or an end, another holds no more, and no less is required of it.
pub record NoStronger (one other : Strengths) : Type 0 where
  pub holds : other.held ≤ one.held
  pub needs : one.required ≤ other.required

-- "Sufficiency of an end is its solid walls' held strength over its required strength", here 1 where it is at least so many hundredths and 0
-- where it is under them, "compared exactly". A unit of held strength is 1,000 units of required strength.
unfoldable pub reached : Strengths → ℕ → ℕ
reached end limit = cond (leb (limit * end.required) (100_000 * end.held)) 1 0

-- "Bands: A under 0.33, B from 0.33, C from 0.66, D from 1.00, E from 1.33", as the number of those limits that are reached: A is 0, E is 4.
unfoldable pub band : Strengths → ℕ
band end = reached end 33 + reached end 66 + reached end 100 + reached end 133

-- "A void makes floor type 1 into 2 and 2 into 3." 3 stays 3, and with a void no number is above 3. Void 1 is one of 4 m or more.
unfoldable pub floor_type : Storey → ℕ
floor_type storey = cond (eqb storey.void 1) (min (storey.floor + 1) 3) storey.floor

-- "The factor in hundredths is the table below, by floor type 1/2/3 (000, explanatory table 4.11)": as 000 prints it, a line for each band of
-- one end, and from the left the bands of the other, each for floor types I, II and III.
abbrev pub layout_factors : List (List (List ℕ))
layout_factors =
    ((100 ∷ 90 ∷ 80 ∷ []) ∷ (70 ∷ 65 ∷ 60 ∷ []) ∷ (65 ∷ 60 ∷ 55 ∷ []) ∷ (60 ∷ 55 ∷ 50 ∷ []) ∷ (55 ∷ 50 ∷ 45 ∷ []) ∷ [])  -- A
    ∷ ((70 ∷ 65 ∷ 60 ∷ []) ∷ (100 ∷ 90 ∷ 80 ∷ []) ∷ (100 ∷ 90 ∷ 80 ∷ []) ∷ (75 ∷ 70 ∷ 60 ∷ []) ∷ (70 ∷ 65 ∷ 55 ∷ []) ∷ [])  -- B
    ∷ ((65 ∷ 60 ∷ 55 ∷ []) ∷ (100 ∷ 90 ∷ 80 ∷ []) ∷ (100 ∷ 90 ∷ 80 ∷ []) ∷ (100 ∷ 90 ∷ 80 ∷ []) ∷ (100 ∷ 90 ∷ 80 ∷ []) ∷ [])  -- C
    ∷ ((60 ∷ 55 ∷ 50 ∷ []) ∷ (75 ∷ 70 ∷ 60 ∷ []) ∷ (100 ∷ 90 ∷ 80 ∷ []) ∷ (100 ∷ 100 ∷ 100 ∷ []) ∷ (100 ∷ 100 ∷ 100 ∷ []) ∷ [])  -- D
    ∷ ((55 ∷ 50 ∷ 45 ∷ []) ∷ (70 ∷ 65 ∷ 55 ∷ []) ∷ (100 ∷ 90 ∷ 80 ∷ []) ∷ (100 ∷ 100 ∷ 100 ∷ []) ∷ (100 ∷ 100 ∷ 100 ∷ []) ∷ [])  -- E
    ∷ []

-- The layout factor for the bands of both ends and a floor type; 0 where there is no such band or floor type.
unfoldable pub layout_factor : Bands → ℕ → ℕ
layout_factor ends floor = nth (get_or (get_or layout_factors ends.a []) ends.b []) floor 0

-- The factors of a pair of bands "by floor type 1/2/3", an entry of document 01's own table.
abbrev pub by_floor_type : Bands → List ℕ
by_floor_type ends = layout_factor ends 1 ∷ layout_factor ends 2 ∷ layout_factor ends 3 ∷ []
