-- The strength that a storey, or an end of it, must have. Document 01, "Required strength"; document 02, requests 1 and 6. "Unit: 0.000000001 kN."
use Rattle.std.specs.Prelude.{Bool, cond, ◌&&◌, List, [], ◌∷◌, ℕ, ◌+◌, ◌-◌, ◌*◌, get_or, eqb, leb, ltb}
use Rattle.method.specs.declared.rows.House.{House}
use Rattle.method.specs.declared.rows.Storey.{Storey}
use Rattle.method.specs.declared.rows.HousePart.{HousePart}
use Rattle.method.specs.Printed.{nth}
use Rattle.method.specs.Held.{most_held}

-- "Constant in 0.01 kN/m²": 000's table 4.1 as it is printed, for light, heavy and very heavy buildings; of houses of one and two storeys
-- the first two columns are also 003's table 1.
abbrev pub constants : List (List ℕ)
constants =
    (28 ∷ 40 ∷ 64 ∷ [])  -- one storey
    ∷ (37 ∷ 53 ∷ 78 ∷ [])  -- two storeys: storey 2
    ∷ (83 ∷ 106 ∷ 141 ∷ [])  -- storey 1
    ∷ (43 ∷ 62 ∷ 91 ∷ [])  -- three storeys: storey 3
    ∷ (98 ∷ 125 ∷ 159 ∷ [])  -- storey 2
    ∷ (134 ∷ 166 ∷ 207 ∷ [])  -- storey 1
    ∷ []

-- "the per-area addition of 000's section 4.1" (document 02, request 1), in 0.01 kN/m²: for 1 m and 2 m of snow as it is printed there, "0.26Z" and
-- "0.52Z", and for 2.5 m, which it leaves out, on the same straight line.
abbrev pub snow_additions : List ℕ
snow_additions = 26 ∷ 52 ∷ 65 ∷ []

-- The line of the table where a number of storeys begins, with its top storey.
unfoldable pub top_line : ℕ → ℕ
top_line storeys = cond (eqb storeys 1) 0 (cond (eqb storeys 2) 1 3)

-- The constant of a part's storey, by the storeys of the part and the house's weight class. It is 0 where the part has no such storey or is
-- not of one to three storeys, or the class is not 1 to 3.
unfoldable pub constant : HousePart → ℕ → ℕ
constant part weight =
    cond (leb 1 part.storey && leb part.storey part.storeys && leb part.storeys 3)
    (nth (get_or constants (top_line part.storeys + (part.storeys - part.storey)) []) weight 0) 0

-- The addition by the house's snow, "0 none, 1 for 1 m cleared, 2 for 2 m, 3 for 2.5 m"; 0 for any other number.
unfoldable pub snow_addition : ℕ → ℕ
snow_addition snow = nth snow_additions snow 0

-- What is required of an area in 0.01 kN/m², before zone, ground and narrow factor: the constant with the addition.
unfoldable pub per_area : House → HousePart → ℕ
per_area house part = constant part house.weight + snow_addition house.snow

-- "ground (10 ordinary, 15 very soft)". Ground 1 is ordinary, 2 very soft; other numbers go by the same test.
unfoldable pub ground_factor : ℕ → ℕ
ground_factor ground_class = cond (ltb ground_class 2) 10 15

-- A storey is narrow "if a storey's short side is under 4,000 mm" (document 02, request 6).
unfoldable pub is_narrow : Storey → Bool
is_narrow storey = ltb storey.side 4000

-- The narrow factor of a storey, by whether a storey above it is narrow: "every storey below it takes 113, once, however many are narrow above", else
-- 100. Document 01's sentence, by which the ground storey's own short side counted, no longer holds.
unfoldable pub narrow_factor : Bool → ℕ
narrow_factor narrow_above = cond narrow_above 113 100

-- "Constant in 0.01 kN/m² × area × zone × ground (..) × narrow factor in hundredths." "An end uses its own area, its part's number of storeys
-- for the constant, and its storey's other factors": so for a storey the storeys are the house's, for an end its part's. The addition for snow is
-- "times zone, for a storey and for its ends alike; ground and narrow factors apply to the sum" (document 02, request 1).
unfoldable pub required_strength : House → HousePart → ℕ → ℕ
required_strength house part narrow = per_area house part * part.area * house.zone * ground_factor house.ground_class * narrow

-- 60,000 kN in this unit, more than a storey can need. Where scores are computed, a required strength above this counts as this
-- (`capped_quotient`).
abbrev pub most_required : ℕ
most_required = 1000 * most_held
