-- How far deterioration lowers a house's strength. Document 01, "Deterioration factor"; document 02, request 5.
use Rattle.std.specs.Prelude.{cond, ◌&&◌, List, [], ◌∷◌, ℕ, ◌+◌, ◌-◌, ◌*◌, ◌/◌, ◌%◌, ◌≤◌, eqb, ltb}
use Rattle.method.specs.declared.deterioration.Fraction.{Fraction}
use Rattle.method.specs.declared.rows.Items.{Items}

-- "Items and points (000, table 4.8)": the column for houses of ten years or more.
abbrev pub item_points : List ℕ
item_points =
    2  -- 1 roofing
    ∷ 2  -- 2 eaves gutter
    ∷ 2  -- 3 downpipe
    ∷ 4  -- 4 outer wall
    ∷ 2  -- 5 exposed frame
    ∷ 1  -- 6 balcony rail
    ∷ 1  -- 7 balcony joint
    ∷ 1  -- 8 balcony drain
    ∷ 2  -- 9 inner wall
    ∷ 2  -- 10 bath wall
    ∷ 2  -- 11 room floor
    ∷ 1  -- 12 corridor floor
    ∷ 2  -- 13 underfloor
    ∷ []

-- "Under ten years items 6, 7, 8, 12 aren't surveyed": the column for houses under ten years, where 000 has a stroke in place of their points.
abbrev pub item_points_under_ten : List ℕ
item_points_under_ten = 2 ∷ 2 ∷ 2 ∷ 4 ∷ 2 ∷ 0 ∷ 0 ∷ 0 ∷ 2 ∷ 2 ∷ 2 ∷ 0 ∷ 2 ∷ []

-- The points of a set by such a column: "item 1 is worth 1, each next item twice the one before".
unfoldable pub points : List ℕ → ℕ → ℕ
points [] set = 0
points (p ∷ ps) set = p * (set % 2) + points ps (set / 2)

-- The points of the marks that count. "Under ten years items 6, 7, 8, 12 aren't surveyed, unless some other item is marked; then the house is
-- treated as over ten." Age 1 is under ten years, 2 ten or more; other numbers go by the same test.
unfoldable pub counted_marks : ℕ → ℕ → ℕ
counted_marks marked age = cond (ltb age 2 && eqb (points item_points_under_ten marked) 0) 0 (points item_points marked)

-- A factor as a fraction, which document 02 calls its upper and lower number.
abbrev pub fraction : ℕ → ℕ → Fraction
fraction upper lower = record { upper = upper; lower = lower }

-- One factor is at most another, with both sides multiplied out.
infix 40 ◌at_most◌
abbrev pub ◌at_most◌ : Fraction → Fraction → Type 0
f at_most g = f.upper * g.lower ≤ g.upper * f.lower

-- "With no counted mark the factor is 1. Else it is (present − marked) / present in points, never below 7/10." It is below where
-- 10 × (present − marked) < 7 × present, here with 10 × marked added to both sides.
unfoldable pub factor_of : ℕ → ℕ → Fraction
factor_of present marked =
    cond (eqb marked 0) (fraction 1 1)
    (cond (ltb (10 * present) (7 * present + 10 * marked)) (fraction 7 10)
    (fraction (present - marked) present))

-- The deterioration factor of the items and an age.
unfoldable pub deterioration_factor : Items → ℕ → Fraction
deterioration_factor items age = factor_of (points item_points items.present) (counted_marks items.marked age)

-- Document 02, request 5: "a house scored after repair gets at most 0.9 for deterioration, since not all rot is found" (000, below table 4.8, after the
-- four steps of the factor).
abbrev pub most_after_repair : Fraction
most_after_repair = fraction 9 10

-- The factor that is used, by the old factor and whether the house is repaired, 1 where it is: "The lesser of 9/10 and the old factor is used, as the
-- old fraction where both are equal." So it is 9/10 only where the old factor is above that. With another number than 1 the house is not repaired.
unfoldable pub after_repair : Fraction → ℕ → Fraction
after_repair factor repaired =
    cond (eqb repaired 1 && ltb (most_after_repair.upper * factor.lower) (most_after_repair.lower * factor.upper)) most_after_repair factor
