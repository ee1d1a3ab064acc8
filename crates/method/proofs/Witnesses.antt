-- The page's theorems on the cases of a joint factor, on repair, on houses made worse and on what is left over of a score, used at numbers that
-- compute: with a further premise, a clause left out, a turned conclusion or another number they would not fit here. Assumes nothing.
use Rattle.std.proofs.Common.{◌≡◌, refl, ℕ, ◌+◌, ◌*◌, ◌<◌, ◌≤◌, arith, lit<, lit≤}
use Rattle.method.specs.Printed.{nth}
use Rattle.method.specs.Held.{shared_row, top_entry, entry_in, entry, interpolated, below2, from2to3, from3to5, from5to7, above7, row_factor}
use Rattle.method.specs.Required.{top_line, constant, snow_addition, per_area, ground_factor, required_strength}
use Rattle.method.specs.LayoutFactor.{reached, band, layout_factor}
use Rattle.method.specs.Deterioration.{points, fraction, counted_marks, factor_of, deterioration_factor, after_repair}
use Rattle.method.specs.Score.{quotient, score, capped_quotient, verdict}
use Rattle.method.specs.Worked.{upper_joint_iv, snowy_house, house, house_part, items, strengths, bands}
use Rattle.method.proofs.Theorems.{cases_meet, case_by_case, lesser_after_repair, most_after_repair_lem, required_rises, band_falls, layout_falls, deterioration_falls, repair_falls, score_before_falls, full_score_falls, verdict_rises, score_divided, remainder_smaller, capped_quotient_lem}

-- Joint IV in the upper storey of two, 0.7, 0.35, 0.25 and 0.2: the cases on both sides of each printed strength give these numbers,
cases_met : (below2 upper_joint_iv ≡ 70) × (from2to3 upper_joint_iv 20 ≡ 70)
    × (from2to3 upper_joint_iv 30 ≡ 35) × (from3to5 upper_joint_iv 30 ≡ 35)
    × (from3to5 upper_joint_iv 50 ≡ 25) × (from5to7 upper_joint_iv 50 ≡ 25)
    × (from5to7 upper_joint_iv 70 ≡ 20) × (above7 upper_joint_iv ≡ 20)
unfolding entry top_entry nth
cases_met = cases_meet 0 1 1 4

-- so they do in a row of another snow, position, foundation and joint, 2 m, one storey, foundation III, joint II: 1.0, 0.85, 0.75 and 0.7,
cases_met_in_snow : let row = entry 2 3 3 2 in
    (below2 row ≡ 100) × (from2to3 row 20 ≡ 100)
    × (from2to3 row 30 ≡ 85) × (from3to5 row 30 ≡ 85)
    × (from3to5 row 50 ≡ 75) × (from5to7 row 50 ≡ 75)
    × (from5to7 row 70 ≡ 70) × (above7 row ≡ 70)
unfolding entry entry_in shared_row nth
cases_met_in_snow = cases_meet 2 3 3 2

-- and they are the factor there, where each of them ends. (Within the cases `row_factor` goes by the theorem.)
cases_held : (row_factor upper_joint_iv 20 ≡ 70) × (row_factor upper_joint_iv 30 ≡ 35) × (row_factor upper_joint_iv 50 ≡ 25) × (row_factor upper_joint_iv 70 ≡ 20)
unfolding entry top_entry nth interpolated
cases_held =
    let at = case_by_case upper_joint_iv in
    ((at 20).0 (lit≤ tt), (at 30).1 (lit≤ tt) (lit≤ tt), (at 50).2 (lit≤ tt) (lit≤ tt), (at 70).3 (lit≤ tt) (lit≤ tt))

-- A heavy house of one storey, 10 m², zone 90, on ordinary ground, without snow; a very heavy one, 40 m², zone 100, on very soft ground, with
-- 2.5 m of snow and 113 for the narrow factor: 3.6 kN becomes 87.462 kN.
required_risen : 3_600_000_000 ≤ 87_462_000_000
unfolding constant top_line snow_addition per_area ground_factor required_strength nth
required_risen =
    required_rises (house 1 2 90 1 1) (house_part 1 1 1000) (snowy_house 1 3 100 2 1 3) (house_part 1 1 4000) {wider = 100} {narrow = 113}
    (lit≤ tt) (lit≤ tt) (lit≤ tt) (lit≤ tt) (lit≤ tt) (lit≤ tt) refl refl (lit≤ tt) (lit≤ tt)

-- An end that holds 1.3 kN and then 1.2 kN, and of which 3.6 kN and then 4 kN are required: B becomes A.
band_fallen : 0 ≤ 1
unfolding band reached
band_fallen =
    band_falls {end = strengths 1_300_000 3_600_000_000} {weaker = strengths 1_200_000 4_000_000_000} (record { holds = lit≤ tt; needs = lit≤ tt })

-- BB becomes BA on floor type 1: 100 becomes 70.
layout_fallen : 70 ≤ 100
unfolding layout_factor nth
layout_fallen = layout_falls (bands 1 1) (bands 1 0) 1 (lit≤ tt) (lit≤ tt) refl

-- All present, under ten with item 4 marked, and then ten or more with items 1, 2 and 4: 20/24 becomes 7/10.
deterioration_fallen : 7 * 24 ≤ 20 * 10
unfolding points counted_marks factor_of deterioration_factor
deterioration_fallen = deterioration_falls (items 8191 8) (items 8191 11) {younger = 1} {age = 2} refl refl (lit≤ tt)

-- After repair 18/20, which is 9/10, stays 18/20, and 23/24 is 9/10; not repaired it stays 23/24.
lesser_used :
    (after_repair (fraction 18 20) 1 ≡ fraction 18 20)
    × (after_repair (fraction 23 24) 1 ≡ fraction 9 10)
    × (after_repair (fraction 23 24) 0 ≡ fraction 23 24)
lesser_used = (
  (lesser_after_repair (fraction 18 20)).0 (lit≤ tt),
  (lesser_after_repair (fraction 23 24)).1 (λ low. omega (arith, low)),
  (lesser_after_repair (fraction 23 24)).2 0 (λ e. omega (arith, e)),
)

-- So 23/24 is at most 9/10 after repair, and at most what it was.
most_used : (9 * 10 ≤ 9 * 10) × (9 * 24 ≤ 23 * 10) × (23 * 24 ≤ 23 * 24)
unfolding after_repair
most_used =
    let most = most_after_repair_lem (fraction 23 24) in
    (most.0, most.1 1, most.1 0)

-- 23/24 becomes 20/24, and after repair 9/10 does.
repair_fallen : (20 * 10 ≤ 9 * 24) × (20 * 24 ≤ 23 * 24)
unfolding after_repair
repair_fallen = (repair_falls (fraction 23 24) (fraction 20 24) 1 (lit≤ tt), repair_falls (fraction 23 24) (fraction 20 24) 0 (lit≤ tt))

-- P10's storey at zone 90 before the layout factor, and one at zone 100 that holds less and has marks worth 4: 16 becomes 11.
score_before_fallen : 11 ≤ 16
unfolding quotient score
score_before_fallen =
    score_before_falls {all = strengths 2_340_000 14_400_000_000} {weaker = strengths 2_300_000 16_000_000_000} (fraction 1 1) (fraction 20 24)
    (record { holds = lit≤ tt; needs = lit≤ tt }) (lit≤ tt) (lit< tt) (lit< tt)

-- P1's storey with ends that hold 2 kN and 1.3 kN, at zone 90 without marks and then at zone 100 with marks worth 4. The better end stays in
-- band B, and the other falls from B to A: 22 becomes 12.
full_score_fallen : 12 ≤ 22
unfolding quotient score layout_factor nth band reached
full_score_fallen =
    full_score_falls {all = strengths 3_300_000 14_400_000_000} {weaker = strengths 3_300_000 16_000_000_000}
    {a = strengths 2_000_000 3_600_000_000} {a' = strengths 2_000_000 4_000_000_000}
    {b = strengths 1_300_000 3_600_000_000} {b' = strengths 1_300_000 4_000_000_000} 1 (fraction 1 1) (fraction 20 24)
    (record { holds = lit≤ tt; needs = lit≤ tt }) (record { holds = lit≤ tt; needs = lit≤ tt }) (record { holds = lit≤ tt; needs = lit≤ tt })
    (lit≤ tt) refl (lit< tt) (lit< tt)

-- A least score of 150 that becomes 69: verdict 1 becomes 4.
verdict_risen : 1 ≤ 4
unfolding verdict
verdict_risen = verdict_rises {lower = 69} {least = 150} (lit≤ tt)

-- P1 in X: 9.2 kN held, 16 kN required, 20/24; and its remainder.
p1_divided : (47 * 384_000_000_000 + 352_000_000_000 ≡ 18_400_000_000_000) × (384_000_000_000 ≡ 16_000_000_000 * 24) × (◌≡◌ {A = ℕ} 47 47)
unfolding quotient score
p1_divided = score_divided (strengths 9_200_000 16_000_000_000) 100 (fraction 20 24)

p1_remainder : 352_000_000_000 < 384_000_000_000
unfolding quotient
p1_remainder = remainder_smaller (strengths 9_200_000 16_000_000_000) 100 (fraction 20 24) (lit< tt)

-- Where nothing is required, all is left.
nothing_divided : (0 * 0 + 234_000_000_000 ≡ 234_000_000_000) × (◌≡◌ {A = ℕ} 0 0) × (◌≡◌ {A = ℕ} 0 0)
unfolding quotient score
nothing_divided = score_divided (strengths 2_340_000 0) 100 (fraction 1 1)

-- With 60,000 kN both held and required, what is computed is still the quotient.
capped_at_most : capped_quotient (strengths 60_000_000_000 60_000_000_000_000) 100 (fraction 1 1)
    ≡ record { hundredths = 100; remainder = 0; divisor = 60_000_000_000_000 }
unfolding quotient
capped_at_most = capped_quotient_lem (strengths 60_000_000_000 60_000_000_000_000) 100 (fraction 1 1) (lit≤ tt) (lit≤ tt)
