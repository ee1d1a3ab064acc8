-- The method's theorems on one page, each stated in full and proved elsewhere: the last line of each names the law. What they speak of is
-- defined in specs/. Assumes nothing.
use Rattle.std.proofs.Common.{◌≡◌, ℕ, ◌+◌, ◌*◌, ◌<◌, ◌≤◌, min, max, bit_and}
use lib.Count.{ones}
use Rattle.method.specs.declared.deterioration.Fraction.{Fraction}
use Rattle.method.specs.declared.rows.House.{House}
use Rattle.method.specs.declared.rows.HousePart.{HousePart}
use Rattle.method.specs.declared.rows.Items.{Items}
use Rattle.method.specs.declared.rows.Strengths.{Strengths}
use Rattle.method.specs.declared.rows.Bands.{Bands}
use Rattle.method.specs.JointTables.{at2, at3, at5, at7}
use Rattle.method.specs.Held.{entry, below2, from2to3, from3to5, from5to7, above7, row_factor, most_held}
use Rattle.method.specs.Required.{required_strength, most_required}
use Rattle.method.specs.LayoutFactor.{NoStronger, band, layout_factor}
use Rattle.method.specs.Deterioration.{item_points, item_points_under_ten, points, ◌at_most◌, deterioration_factor, most_after_repair, after_repair}
use Rattle.method.specs.Score.{quotient, score, score_before_layout, capped_quotient, verdict}
use Rattle.method.specs.Worked.{worked, expected, worked_quotients, expected_quotients, layout_table, document_table}
use Rattle.method.proofs.Cases as cases
use Rattle.method.proofs.Requirements as requirements
use Rattle.method.proofs.BandLaws as bands
use Rattle.method.proofs.Points as counts
use Rattle.method.proofs.Fractions as fractions
use Rattle.method.proofs.Quotients as quotients
use Rattle.method.proofs.Comparisons as comparisons
use Rattle.method.proofs.Examples as examples

-- Joint factor. "At 2.0, 3.0, 5.0 and 7.0 the cases on both sides are proved to give the printed entry" (document 02, request 2), in every row of the
-- tables: for every snow, position, foundation and joint.
pub cases_meet : (snow position foundation joint : ℕ)
    → let row = entry snow position foundation joint in
    (below2 row ≡ row at2) × (from2to3 row 20 ≡ row at2)
    × (from2to3 row 30 ≡ row at3) × (from3to5 row 30 ≡ row at3)
    × (from3to5 row 50 ≡ row at5) × (from5to7 row 50 ≡ row at5)
    × (from5to7 row 70 ≡ row at7) × (above7 row ≡ row at7)
cases_meet snow position foundation joint = cases.meet (entry snow position foundation joint)

-- Each case is the factor on the whole of its stretch, the printed strengths at its ends included: it does not matter to which of its two cases such a
-- strength is counted.
pub case_by_case : (row : ℕ → ℕ) (strength : ℕ)
    → (strength ≤ 20 → row_factor row strength ≡ below2 row)
    × (20 ≤ strength → strength ≤ 30 → row_factor row strength ≡ from2to3 row strength)
    × (30 ≤ strength → strength ≤ 50 → row_factor row strength ≡ from3to5 row strength)
    × (50 ≤ strength → strength ≤ 70 → row_factor row strength ≡ from5to7 row strength)
    × (70 ≤ strength → row_factor row strength ≡ above7 row)
case_by_case = cases.case_by_case

-- Layout factor. Document 01's table, by lower and higher band (A is 0, E is 4) and by floor type 1/2/3, is what the layout factor gives.
pub document_table_lem : layout_table ≡ document_table
document_table_lem = examples.document_table_lem

-- It does not matter which end is which.
pub layout_mirrored : (ends : Bands) (floor : ℕ) → layout_factor ends floor ≡ layout_factor (record { a = ends.b; b = ends.a }) floor
layout_mirrored = bands.layout_mirrored

-- Deterioration factor. "The points follow from how many items of each weight are in the set": mask by weight, then count ones. 8 is the
-- item of four points, 5,911 are those of two. Under ten years these are all.
pub points_under_ten_masked : (set : ℕ) → 4 * ones (bit_and set 8) + 2 * ones (bit_and set 5911) ≡ points item_points_under_ten set
points_under_ten_masked = counts.points_under_ten_masked

-- 2,272 are the items of one point.
pub points_masked : (set : ℕ) → points item_points_under_ten set + ones (bit_and set 2272) ≡ points item_points set
points_masked = counts.points_masked

-- "The lesser of 9/10 and the old factor is used, as the old fraction where both are equal" (document 02, request 5), of a repaired house, 1; of any
-- other the old factor.
pub lesser_after_repair : (f : Fraction)
    → (f at_most most_after_repair → after_repair f 1 ≡ f)
    × ((f at_most most_after_repair → ⊥) → after_repair f 1 ≡ most_after_repair)
    × ((repaired : ℕ) → (repaired ≡ 1 → ⊥) → after_repair f repaired ≡ f)
lesser_after_repair f = (fractions.repair_keeps f, fractions.repair_lowers f, fractions.not_repaired f)

-- So "a house scored after repair gets at most 0.9 for deterioration", and never more than without.
pub most_after_repair_lem : (f : Fraction) → (after_repair f 1 at_most most_after_repair) × ((repaired : ℕ) → after_repair f repaired at_most f)
most_after_repair_lem = fractions.repair_most

-- Score. "hundredths × divisor + remainder is the dividend, 1,000 × held × layout × the upper number of the deterioration fraction .. The divisor is
-- the required strength times the lower number of the deterioration fraction" (document 02, request 4), and the score is the hundredths, at most 999.
-- All of this for any numbers.
pub score_divided : (strengths : Strengths) (layout : ℕ) (f : Fraction)
    → let found = quotient strengths layout f in
    (found.hundredths * found.divisor + found.remainder ≡ 1000 * strengths.held * layout * f.upper)
    × (found.divisor ≡ strengths.required * f.lower)
    × (score strengths layout f ≡ min found.hundredths 999)
score_divided strengths layout f =
    (quotients.all_divided strengths layout f, quotients.divisor_is strengths layout f, quotients.score_limited strengths layout f)

-- "and the remainder is smaller than the divisor", where that is not 0: where something is required, since the lower number of a deterioration factor
-- never is.
pub remainder_smaller : (strengths : Strengths) (layout : ℕ) (f : Fraction) → 0 < strengths.required * f.lower
    → let found = quotient strengths layout f in found.remainder < found.divisor
remainder_smaller = quotients.remainder_smaller

-- A house made worse, number by number. With a heavier class, a higher zone, softer ground or deeper snow no less is required of a storey or an
-- end, nor with a larger area or narrow factor. (Deeper snow can also raise what a wall counts, so two houses that are compared have the same.)
pub required_rises : (house : House) (part : HousePart) (worse : House) (other : HousePart) {wider narrow : ℕ}
    → house.weight ≤ worse.weight → worse.weight ≤ 3 → house.zone ≤ worse.zone → house.ground_class ≤ worse.ground_class
    → house.snow ≤ worse.snow → worse.snow ≤ 3 → part.storey ≡ other.storey → part.storeys ≡ other.storeys → part.area ≤ other.area → wider ≤ narrow
    → required_strength house part wider ≤ required_strength worse other narrow
required_rises = requirements.required_rises

-- An end that holds no more, and of which no less is required, is in no higher band.
pub band_falls : {end weaker : Strengths} → NoStronger end weaker → band weaker ≤ band end
band_falls = bands.band_falls

-- Where neither end's band is higher and the higher band is kept, the layout factor is no higher.
pub layout_falls : (ends worse : Bands) (floor : ℕ) → worse.a ≤ ends.a → worse.b ≤ ends.b → max worse.a worse.b ≡ max ends.a ends.b
    → layout_factor worse floor ≤ layout_factor ends floor
layout_falls = bands.layout_falls

-- With the same parts, every mark of the other house and no fewer years the deterioration factor is no higher.
pub deterioration_falls : (items worse : Items) {younger age : ℕ} → items.present ≡ worse.present → bit_and items.marked worse.marked ≡ items.marked
    → younger ≤ age → deterioration_factor worse age at_most deterioration_factor items younger
deterioration_falls = fractions.deterioration_falls

-- Nor is it higher after repair, where both houses are repaired or neither is.
pub repair_falls : (f g : Fraction) (repaired : ℕ) → g at_most f → after_repair g repaired at_most after_repair f repaired
repair_falls = fractions.repair_falls

-- Where no more is held, no less is required and the deterioration factor is no higher, the score before the layout factor is no higher,
-- rounding down included.
pub score_before_falls : {all weaker : Strengths} (f g : Fraction) → NoStronger all weaker → g at_most f → 0 < all.required → 0 < f.lower
    → score_before_layout weaker g ≤ score_before_layout all f
score_before_falls = comparisons.score_before_falls

-- The full score of a storey and direction and its two ends: where none of them holds more, no less is required of any, the higher band is kept
-- and the deterioration factor is no higher, it is no higher, rounding down included.
pub full_score_falls : {all weaker a a' b b' : Strengths} (floor : ℕ) (f g : Fraction)
    → NoStronger all weaker → NoStronger a a' → NoStronger b b' → g at_most f → max (band a') (band b') ≡ max (band a) (band b)
    → 0 < all.required → 0 < f.lower
    → score weaker (layout_factor (record { a = band a'; b = band b' }) floor) g ≤ score all (layout_factor (record { a = band a; b = band b }) floor) f
full_score_falls = comparisons.full_score_falls

-- With a lower least score the verdict's number is no lower.
pub verdict_rises : {lower least : ℕ} → lower ≤ least → verdict least ≤ verdict lower
verdict_rises = comparisons.verdict_rises

-- Of strengths up to 60,000 kN, which no storey of a house exceeds, what the function `score` answers is the quotient.
pub capped_quotient_lem : (strengths : Strengths) (layout : ℕ) (f : Fraction) → strengths.held ≤ most_held → strengths.required ≤ most_required
    → capped_quotient strengths layout f ≡ quotient strengths layout f
capped_quotient_lem = quotients.capped_quotient_lem

-- Houses worked through: document 01's numbers, and one for each definition that its examples leave open.
pub worked_out : worked ≡ expected
worked_out = examples.worked_out

-- Scores with what is left over: P1's, one just under 100 and one at it, 14 of 20, under 7/10, no mark that counts, above 999; after repair 9/10 without
-- marks, and 18 of 20.
pub quotients_worked_out : worked_quotients ≡ expected_quotients
quotients_worked_out = examples.quotients_worked_out
