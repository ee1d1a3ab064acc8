-- Document 01's worked examples that need no table, "Houses worked through", and after them numbers for what its examples leave open: each
-- definition has a number that another definition would change.
use Rattle.std.specs.Prelude.{List, [], ◌∷◌, ℕ}
use Rattle.method.specs.declared.rows.House.{House}
use Rattle.method.specs.declared.rows.Storey.{Storey}
use Rattle.method.specs.declared.rows.HousePart.{HousePart}
use Rattle.method.specs.declared.rows.Wall.{Wall}
use Rattle.method.specs.declared.rows.Items.{Items}
use Rattle.method.specs.declared.rows.Strengths.{Strengths}
use Rattle.method.specs.declared.rows.Bands.{Bands}
use Rattle.method.specs.declared.scores.Quotient.{Quotient}
use Rattle.method.specs.JointTables.{at2, at3, at5, at7}
use Rattle.method.specs.Held.{entry, below2, from2to3, from3to5, from5to7, above7, joint_factor, wall_share}
use Rattle.method.specs.Required.{constant, is_narrow, narrow_factor, required_strength}
use Rattle.method.specs.LayoutFactor.{band, floor_type, layout_factor, by_floor_type}
use Rattle.method.specs.Deterioration.{item_points, item_points_under_ten, points, fraction, deterioration_factor, after_repair}
use Rattle.method.specs.Score.{quotient, score, score_before_layout, capped_quotient, verdict}

-- A house by its storeys, weight class, zone, ground and foundation, and by its snow, or without snow,
abbrev pub snowy_house : ℕ → ℕ → ℕ → ℕ → ℕ → ℕ → House
snowy_house storeys weight zone ground_class foundation snow =
    record { storeys = storeys; weight = weight; zone = zone; ground_class = ground_class; foundation = foundation; snow = snow }

abbrev pub house : ℕ → ℕ → ℕ → ℕ → ℕ → House
house storeys weight zone ground_class foundation = snowy_house storeys weight zone ground_class foundation 0

-- a storey of 40 m² by its number, short side, floor type and void,
abbrev pub storey : ℕ → ℕ → ℕ → ℕ → Storey
storey number side floor void = record { number = number; area = 4000; side = side; floor = floor; void = void }

-- a part by its storey, the number of its storeys and its area,
abbrev pub house_part : ℕ → ℕ → ℕ → HousePart
house_part storey storeys area = record { storey = storey; storeys = storeys; area = area }

-- a wall by its type, joint, strength and length,
abbrev pub wall : ℕ → ℕ → ℕ → ℕ → Wall
wall walltype joint strength length = record { strength = strength; length = length; joint = joint; walltype = walltype }

-- the sets that are present and marked,
abbrev pub items : ℕ → ℕ → Items
items present marked = record { present = present; marked = marked }

-- what is held and what is required,
abbrev pub strengths : ℕ → ℕ → Strengths
strengths held required = record { held = held; required = required }

-- and the bands of two ends.
abbrev pub bands : ℕ → ℕ → Bands
bands a b = record { a = a; b = b }

-- The row of the upper storey of two without snow, joint IV: 0.7, 0.35, 0.25, 0.2.
abbrev pub upper_joint_iv : ℕ → ℕ
upper_joint_iv = entry 0 1 1 4

-- P1 to P11, and 000's own worked joint factor (its section 4.2); then the further numbers.
abbrev pub worked : List ℕ
worked =
    required_strength (house 1 2 100 1 1) (house_part 1 1 4000) 100  -- P1: one storey, heavy, 40 m², zone 100, ordinary ground, not narrow
    ∷ score (strengths 9_200_000 16_000_000_000) 100 (fraction 20 24)  -- its score in X, where 9.2 kN are held
    ∷ score (strengths 16_000_000 16_000_000_000) 100 (fraction 20 24)  -- and in Y, where 16 kN are
    ∷ joint_factor (house 2 1 100 1 1) 2 (wall 1 4 31 1000)  -- P2: upper storey of two, joint 4, strength 31: its factor
    ∷ wall_share (house 2 1 100 1 1) 2 (wall 1 4 31 4550)  -- and of 4,550 mm
    ∷ joint_factor (house 2 1 100 1 2) 1 (wall 1 4 22 1000)  -- P3: ground storey of two, foundation 2, joint 4, strength 22
    ∷ wall_share (house 2 1 100 1 2) 1 (wall 1 4 22 1820)
    ∷ joint_factor (house 2 1 100 1 2) 1 (wall 1 4 31 1000)  -- P4: strength 31
    ∷ wall_share (house 2 1 100 1 2) 1 (wall 1 4 31 3640)
    ∷ wall_share (house 1 1 100 1 1) 1 (wall 1 1 101 1000)  -- P5: strength 101 counts as 100
    ∷ wall_share (house 1 1 100 1 1) 1 (wall 1 1 100 1000)
    ∷ wall_share (house 1 1 100 1 1) 1 (wall 2 0 0 3001)  -- P6: a window of 3,001 mm
    ∷ (deterioration_factor (items 8191 8) 2).upper  -- P7: all present, marks worth 4 (item 4)
    ∷ (deterioration_factor (items 8191 8) 2).lower
    ∷ (deterioration_factor (items 8191 41) 2).upper  -- worth 7 (items 1, 4, 6)
    ∷ (deterioration_factor (items 8191 41) 2).lower
    ∷ (deterioration_factor (items 8191 11) 2).upper  -- worth 8 (items 1, 2, 4)
    ∷ (deterioration_factor (items 8191 11) 2).lower
    ∷ (deterioration_factor (items 8191 2048) 1).upper  -- P8: under ten, corridor (item 12) alone marked
    ∷ (deterioration_factor (items 8191 2048) 1).lower
    ∷ band (strengths 33 100_000)  -- P9: sufficiency exactly 0.33 is B
    ∷ band (strengths 100 100_000)  -- exactly 1.00 is D
    ∷ required_strength (house 1 2 90 1 1) (house_part 1 1 4000) 100  -- P10: at zone 90
    ∷ band (strengths 1_080_000 (required_strength (house 1 2 90 1 1) (house_part 1 1 1000) 100))  -- the end with the wall of 540 mm
    ∷ band (strengths 1_260_000 (required_strength (house 1 2 90 1 1) (house_part 1 1 1000) 100))  -- and that with the wall of 630 mm
    ∷ score_before_layout (strengths 2_340_000 14_400_000_000) (fraction 1 1)
    ∷ score (strengths 2_340_000 14_400_000_000) (layout_factor (bands 0 1) 1) (fraction 1 1)
    ∷ band (strengths 1_260_000 (required_strength (house 1 2 100 1 1) (house_part 1 1 1000) 100))  -- at zone 100: "the better end falls from B to A"
    ∷ score_before_layout (strengths 2_340_000 16_000_000_000) (fraction 1 1)
    ∷ score (strengths 2_340_000 16_000_000_000) (layout_factor (bands 0 0) 1) (fraction 1 1)
    ∷ verdict 69  -- P11
    ∷ verdict 70
    ∷ verdict 99
    ∷ verdict 100
    ∷ verdict 149
    ∷ verdict 150
    ∷ joint_factor (house 2 1 100 1 2) 1 (wall 1 2 40 1000)  -- 000: strength 4.0, joint II, foundation II, ground storey of two
    ∷ joint_factor (house 3 1 100 1 3) 2 (wall 1 1 70 1000)  -- "The middle storey of three uses foundation 1": joint I, strength 7.0, foundation III
    ∷ joint_factor (house 3 1 100 1 3) 1 (wall 1 1 70 1000)  -- its ground storey
    ∷ joint_factor (house 3 1 100 1 3) 3 (wall 1 2 30 1000)  -- its top storey, joint II, strength 3.0
    ∷ joint_factor (house 1 1 100 1 2) 1 (wall 1 2 50 1000)  -- one storey, foundation II, joint II, strength 5.0
    ∷ joint_factor (house 1 1 100 1 2) 1 (wall 1 4 50 1000)  -- "In one storey joints 3 and 4 share a row"
    ∷ wall_share (house 1 1 100 1 1) 1 (wall 3 0 0 2000)  -- a full-height opening of 2,000 mm
    ∷ constant (house_part 1 1 4000) 1  -- "one storey 28, 40"
    ∷ constant (house_part 1 1 4000) 2
    ∷ constant (house_part 1 2 4000) 1  -- "two storeys, ground 83, 106"
    ∷ constant (house_part 1 2 4000) 2
    ∷ constant (house_part 2 2 4000) 1  -- "upper 37, 53"
    ∷ constant (house_part 2 2 4000) 2
    ∷ constant (house_part 1 3 4000) 3  -- three storeys, very heavy, from the ground up
    ∷ constant (house_part 2 3 4000) 3
    ∷ constant (house_part 3 3 4000) 3
    ∷ narrow_factor (is_narrow (storey 2 3999 1 0))  -- "Run: .. short side 3,999 and 4,000", of the storeys below
    ∷ narrow_factor (is_narrow (storey 2 4000 1 0))
    ∷ required_strength (house 2 2 100 2 1) (house_part 1 2 4000) 113  -- 113: ground storey of two, heavy, 40 m², zone 100, very soft ground
    ∷ required_strength (house 2 2 100 1 1) (house_part 1 1 1000) 113  -- an end of it, of 10 m² and one storey, ordinary ground
    ∷ band (strengths 32 100_000)  -- a hundredth under each limit, and the limits that P9 leaves out
    ∷ band (strengths 65 100_000)
    ∷ band (strengths 66 100_000)
    ∷ band (strengths 99 100_000)
    ∷ band (strengths 132 100_000)
    ∷ band (strengths 133 100_000)
    ∷ floor_type (storey 1 5000 1 0)  -- no void
    ∷ floor_type (storey 1 5000 1 1)  -- "A void makes floor type 1 into 2 and 2 into 3"
    ∷ floor_type (storey 1 5000 2 1)
    ∷ floor_type (storey 1 5000 3 1)
    ∷ layout_factor (bands 0 0) 2  -- AA, BB, BC, CC, CD, CE: 100/90/80
    ∷ layout_factor (bands 1 0) 2  -- AB: 70/65/60
    ∷ layout_factor (bands 0 2) 3  -- AC: 65/60/55
    ∷ layout_factor (bands 3 0) 3  -- AD: 60/55/50
    ∷ layout_factor (bands 0 4) 3  -- AE: 55/50/45
    ∷ layout_factor (bands 1 3) 1  -- BD: 75/70/60
    ∷ layout_factor (bands 4 1) 3  -- BE: 70/65/55
    ∷ layout_factor (bands 3 4) 3  -- DD, DE, EE: 100/100/100
    ∷ points item_points 8191  -- all items
    ∷ points item_points_under_ten 8191
    ∷ (deterioration_factor (items 8191 2056) 1).upper  -- under ten, corridor and outer wall (items 4, 12) marked: worth 5
    ∷ (deterioration_factor (items 8191 2056) 1).lower
    ∷ (deterioration_factor (items 5919 7) 2).upper  -- items 6, 7, 8 and 12 absent, items 1, 2, 3 marked: just 7/10, and not below
    ∷ (deterioration_factor (items 5919 7) 2).lower
    ∷ (after_repair (deterioration_factor (items 8191 2048) 2) 1).upper  -- repaired, ten or more, the corridor alone marked: 23/24 is above 9/10
    ∷ (after_repair (deterioration_factor (items 8191 2048) 2) 1).lower
    ∷ (after_repair (deterioration_factor (items 8191 2048) 1) 1).upper  -- and under ten, where that mark does not count
    ∷ (after_repair (deterioration_factor (items 8191 2048) 1) 1).lower
    ∷ (after_repair (deterioration_factor (items 1919 1) 2) 1).upper  -- items 1 to 7, 9, 10 and 11 present, item 1 marked: just 9/10, and not above
    ∷ (after_repair (deterioration_factor (items 1919 1) 2) 1).lower
    ∷ (after_repair (deterioration_factor (items 8191 8) 2) 1).upper  -- P1's marks
    ∷ (after_repair (deterioration_factor (items 8191 8) 2) 1).lower
    ∷ (after_repair (deterioration_factor (items 8191 11) 2) 1).upper  -- marks worth 8
    ∷ (after_repair (deterioration_factor (items 8191 11) 2) 1).lower
    ∷ (after_repair (deterioration_factor (items 8191 2048) 2) 0).upper  -- not repaired
    ∷ (after_repair (deterioration_factor (items 8191 2048) 2) 0).lower
    ∷ score_before_layout (strengths 16_000_000 16_000_000_000) (fraction 1 1)  -- as much held as required
    ∷ score_before_layout (strengths 2_340_000 16_000_000_000) (fraction 20 24)  -- P10 in zone 100 with marks worth 4
    ∷ score (strengths 16_000_000 100_000_000) 100 (fraction 1 1)  -- "at most 999"
    ∷ band (strengths 120_000_000_000 60_000_000_000_000)  -- 120,000 kN held, 60,000 kN required: E
    ∷ score (strengths 120_000_000_000 60_000_000_000_000) 100 (fraction 1 1)
    ∷ score (strengths 60_000_000_000 120_000_000_000_000) 100 (fraction 1 1)  -- 60,000 kN held, 120,000 kN required
    ∷ joint_factor (snowy_house 2 1 100 1 1 1) 2 (wall 1 4 31 1000)  -- P2's wall under 1 m of snow
    ∷ joint_factor (snowy_house 2 1 100 1 1 1) 1 (wall 1 4 31 1000)  -- and on the ground
    ∷ joint_factor (snowy_house 1 1 100 1 2 1) 1 (wall 1 2 30 1000)  -- one storey, foundation II, joint II, strength 3.0
    ∷ joint_factor (snowy_house 2 1 100 1 1 2) 2 (wall 1 3 50 1000)  -- 2 m: upper storey of two, joint III, strength 5.0
    ∷ joint_factor (snowy_house 2 1 100 1 2 2) 1 (wall 1 1 70 1000)  -- ground storey, foundation II, joint I, strength 7.0
    ∷ joint_factor (snowy_house 1 1 100 1 3 2) 1 (wall 1 4 50 1000)  -- one storey, foundation III, joint IV, strength 5.0
    ∷ joint_factor (snowy_house 2 1 100 1 1 3) 2 (wall 1 2 70 1000)  -- 2.5 m: upper storey of two, joint II, strength 7.0
    ∷ joint_factor (snowy_house 2 1 100 1 3 3) 1 (wall 1 2 70 1000)  -- ground storey, foundation III
    ∷ joint_factor (snowy_house 1 1 100 1 2 3) 1 (wall 1 2 70 1000)  -- one storey, foundation II
    ∷ joint_factor (snowy_house 1 1 100 1 1 3) 1 (wall 1 3 50 1000)  -- joints 3 and 4 share a row
    ∷ joint_factor (snowy_house 3 1 100 1 3 3) 2 (wall 1 1 70 1000)  -- the middle storey of three uses foundation 1
    ∷ required_strength (snowy_house 1 2 100 1 1 1) (house_part 1 1 4000) 100  -- P1 under 1 m, 2 m and 2.5 m
    ∷ required_strength (snowy_house 1 2 100 1 1 2) (house_part 1 1 4000) 100
    ∷ required_strength (snowy_house 1 2 100 1 1 3) (house_part 1 1 4000) 100
    ∷ required_strength (snowy_house 2 2 90 2 1 1) (house_part 1 2 4000) 113  -- with 113, in zone 90 on very soft ground: the sum is multiplied
    ∷ required_strength (snowy_house 2 2 100 1 1 2) (house_part 1 1 1000) 100  -- an end of one storey in a house of two
    ∷ joint_factor (snowy_house 1 2 100 1 1 4) 1 (wall 1 1 20 1000)  -- there is no snow 4: no entry, and no addition
    ∷ required_strength (snowy_house 1 2 100 1 1 4) (house_part 1 1 4000) 100
    ∷ upper_joint_iv at2  -- the upper storey of two, joint IV: its entries,
    ∷ upper_joint_iv at3
    ∷ upper_joint_iv at5
    ∷ upper_joint_iv at7
    ∷ below2 upper_joint_iv  -- its cases, a tenth from the ends of each stretch, and half way through the last,
    ∷ from2to3 upper_joint_iv 21
    ∷ from2to3 upper_joint_iv 29
    ∷ from3to5 upper_joint_iv 31
    ∷ from3to5 upper_joint_iv 49
    ∷ from5to7 upper_joint_iv 51
    ∷ from5to7 upper_joint_iv 60
    ∷ from5to7 upper_joint_iv 69
    ∷ above7 upper_joint_iv
    ∷ joint_factor (house 2 1 100 1 1) 2 (wall 1 4 19 1000)  -- and its factors
    ∷ joint_factor (house 2 1 100 1 1) 2 (wall 1 4 20 1000)
    ∷ joint_factor (house 2 1 100 1 1) 2 (wall 1 4 21 1000)
    ∷ joint_factor (house 2 1 100 1 1) 2 (wall 1 4 30 1000)
    ∷ joint_factor (house 2 1 100 1 1) 2 (wall 1 4 31 1000)
    ∷ joint_factor (house 2 1 100 1 1) 2 (wall 1 4 50 1000)
    ∷ joint_factor (house 2 1 100 1 1) 2 (wall 1 4 70 1000)
    ∷ []

abbrev pub expected : List ℕ
expected =
    16_000_000_000  -- P1
    ∷ 47
    ∷ 83
    ∷ 35  -- P2
    ∷ 4_936_750
    ∷ 96  -- P3
    ∷ 3_843_840
    ∷ 80  -- P4
    ∷ 9_027_200
    ∷ 10_000_000  -- P5
    ∷ 10_000_000
    ∷ 1_800_000  -- P6
    ∷ 20  -- P7: 20/24
    ∷ 24
    ∷ 17  -- 17/24
    ∷ 24
    ∷ 7  -- 7/10
    ∷ 10
    ∷ 1  -- P8: 1
    ∷ 1
    ∷ 1  -- P9: B
    ∷ 3  -- D
    ∷ 14_400_000_000  -- P10, at zone 90
    ∷ 0  -- A
    ∷ 1  -- B
    ∷ 16
    ∷ 11
    ∷ 0  -- at zone 100: A
    ∷ 14
    ∷ 14
    ∷ 4  -- P11
    ∷ 3
    ∷ 3
    ∷ 2
    ∷ 2
    ∷ 1
    ∷ 85  -- 000: 0.85
    ∷ 100  -- joint factors
    ∷ 60
    ∷ 80
    ∷ 70
    ∷ 50
    ∷ 600_000
    ∷ 28  -- constants
    ∷ 40
    ∷ 83
    ∷ 106
    ∷ 37
    ∷ 53
    ∷ 207
    ∷ 159
    ∷ 91
    ∷ 113  -- narrow factors
    ∷ 100
    ∷ 71_868_000_000
    ∷ 4_520_000_000
    ∷ 0  -- bands
    ∷ 1
    ∷ 2
    ∷ 2
    ∷ 3
    ∷ 4
    ∷ 1  -- floor types
    ∷ 2
    ∷ 3
    ∷ 3
    ∷ 90  -- layout factors
    ∷ 65
    ∷ 55
    ∷ 50
    ∷ 45
    ∷ 75
    ∷ 55
    ∷ 100
    ∷ 24  -- points
    ∷ 20
    ∷ 19  -- 19/24
    ∷ 24
    ∷ 14  -- 14/20
    ∷ 20
    ∷ 9  -- after repair: 9/10
    ∷ 10
    ∷ 9  -- 9/10
    ∷ 10
    ∷ 18  -- 18/20
    ∷ 20
    ∷ 20  -- 20/24
    ∷ 24
    ∷ 7  -- 7/10
    ∷ 10
    ∷ 23  -- 23/24
    ∷ 24
    ∷ 100  -- scores
    ∷ 12
    ∷ 999
    ∷ 4  -- above 60,000 kN
    ∷ 200
    ∷ 50
    ∷ 74  -- under snow: joint factors
    ∷ 99
    ∷ 80
    ∷ 75
    ∷ 95
    ∷ 75
    ∷ 85
    ∷ 90
    ∷ 75
    ∷ 90
    ∷ 100
    ∷ 26_400_000_000  -- required strengths
    ∷ 36_800_000_000
    ∷ 42_000_000_000
    ∷ 80_546_400_000
    ∷ 9_200_000_000
    ∷ 0  -- no such snow
    ∷ 16_000_000_000
    ∷ 70  -- joint IV above: entries
    ∷ 35
    ∷ 25
    ∷ 20
    ∷ 70  -- cases
    ∷ 67
    ∷ 39
    ∷ 35
    ∷ 26
    ∷ 25
    ∷ 23
    ∷ 20
    ∷ 20
    ∷ 70  -- factors
    ∷ 70
    ∷ 67
    ∷ 35
    ∷ 35
    ∷ 25
    ∷ 20
    ∷ []

-- The whole hundredths, the remainder and the divisor of a score,
abbrev pub three_of : Quotient → List ℕ
three_of found = found.hundredths ∷ found.remainder ∷ found.divisor ∷ []

-- worked through for one storey's strengths at a time,
abbrev pub worked_quotients : List (List ℕ)
worked_quotients =
    three_of (quotient (strengths 9_200_000 16_000_000_000) 100 (fraction 20 24))  -- P1 in X
    ∷ three_of (quotient (strengths 16_000_000 16_000_000_000) 100 (fraction 20 24))  -- and in Y
    ∷ three_of (quotient (strengths 9_200_000 160_000_000) 100 (fraction 20 24))  -- with 0.4 m² in the place of 40 m²: "before the limit of 999"
    ∷ three_of (quotient (strengths 15_998_000 16_000_000_000) 100 (fraction 1 1))  -- 2 N short of what is required,
    ∷ three_of (quotient (strengths 16_000_000 16_000_000_000) 100 (fraction 1 1))  -- and just as much
    ∷ three_of (quotient (strengths 2_340_000 14_400_000_000) 70 (fraction 1 1))  -- P10 at zone 90: the layout factor is in the dividend
    ∷ three_of (quotient (strengths 9_200_000 16_000_000_000) 100 (deterioration_factor (items 5919 7) 2))  -- 14 of 20: 20, "not reduced"
    ∷ three_of (quotient (strengths 9_200_000 16_000_000_000) 100 (deterioration_factor (items 8191 11) 2))  -- 16 of 24: "10 where the fraction is under 7/10"
    ∷ three_of (quotient (strengths 9_200_000 16_000_000_000) 100 (deterioration_factor (items 8191 2048) 1))  -- "1 where no mark counts"
    ∷ three_of (quotient (strengths 9_200_000 16_000_000_000) 100 (after_repair (deterioration_factor (items 8191 0) 2) 1))  -- but 10 of a repaired house
    ∷ three_of (quotient (strengths 9_200_000 16_000_000_000) 100 (after_repair (deterioration_factor (items 1919 1) 2) 1))  -- 18 of 20 stays
    ∷ three_of (quotient (strengths 60_000_000_000 3_920_000) 100 (fraction 1 1))  -- the most hundredths of any house
    ∷ three_of (quotient (strengths 2_340_000 0) 100 (fraction 1 1))  -- nothing required: all is left
    ∷ three_of (capped_quotient (strengths 120_000_000_000 60_000_000_000_000) 100 (fraction 1 1))  -- computed with 60,000 kN held
    ∷ three_of (capped_quotient (strengths 60_000_000_000 120_000_000_000_000) 100 (fraction 1 1))  -- computed with 60,000 kN required
    ∷ []

-- and what they are.
abbrev pub expected_quotients : List (List ℕ)
expected_quotients =
    (47 ∷ 352_000_000_000 ∷ 384_000_000_000 ∷ [])
    ∷ (83 ∷ 128_000_000_000 ∷ 384_000_000_000 ∷ [])
    ∷ (4791 ∷ 2_560_000_000 ∷ 3_840_000_000 ∷ [])
    ∷ (99 ∷ 15_800_000_000 ∷ 16_000_000_000 ∷ [])
    ∷ (100 ∷ 0 ∷ 16_000_000_000 ∷ [])
    ∷ (11 ∷ 5_400_000_000 ∷ 14_400_000_000 ∷ [])
    ∷ (40 ∷ 80_000_000_000 ∷ 320_000_000_000 ∷ [])
    ∷ (40 ∷ 40_000_000_000 ∷ 160_000_000_000 ∷ [])
    ∷ (57 ∷ 8_000_000_000 ∷ 16_000_000_000 ∷ [])
    ∷ (51 ∷ 120_000_000_000 ∷ 160_000_000_000 ∷ [])
    ∷ (51 ∷ 240_000_000_000 ∷ 320_000_000_000 ∷ [])
    ∷ (1_530_612_244 ∷ 3_520_000 ∷ 3_920_000 ∷ [])
    ∷ (0 ∷ 234_000_000_000 ∷ 0 ∷ [])
    ∷ (100 ∷ 0 ∷ 60_000_000_000_000 ∷ [])
    ∷ (100 ∷ 0 ∷ 60_000_000_000_000 ∷ [])
    ∷ []

-- The layout factors of every pair of a lower and a higher band (A is 0, E is 4), each by floor type 1/2/3, in the order of document 01's table,
abbrev pub layout_table : List (List ℕ)
layout_table =
    by_floor_type (bands 0 0) ∷ by_floor_type (bands 1 1) ∷ by_floor_type (bands 1 2) ∷ by_floor_type (bands 2 2) ∷ by_floor_type (bands 2 3) ∷ by_floor_type (bands 2 4)  -- AA, BB, BC, CC, CD, CE
    ∷ by_floor_type (bands 0 1)  -- AB
    ∷ by_floor_type (bands 0 2)  -- AC
    ∷ by_floor_type (bands 0 3)  -- AD
    ∷ by_floor_type (bands 0 4)  -- AE
    ∷ by_floor_type (bands 1 3)  -- BD
    ∷ by_floor_type (bands 1 4)  -- BE
    ∷ by_floor_type (bands 3 3) ∷ by_floor_type (bands 3 4) ∷ by_floor_type (bands 4 4)  -- DD, DE, EE
    ∷ []

-- and what that table says.
abbrev pub document_table : List (List ℕ)
document_table =
    (100 ∷ 90 ∷ 80 ∷ []) ∷ (100 ∷ 90 ∷ 80 ∷ []) ∷ (100 ∷ 90 ∷ 80 ∷ []) ∷ (100 ∷ 90 ∷ 80 ∷ []) ∷ (100 ∷ 90 ∷ 80 ∷ []) ∷ (100 ∷ 90 ∷ 80 ∷ [])
    ∷ (70 ∷ 65 ∷ 60 ∷ [])
    ∷ (65 ∷ 60 ∷ 55 ∷ [])
    ∷ (60 ∷ 55 ∷ 50 ∷ [])
    ∷ (55 ∷ 50 ∷ 45 ∷ [])
    ∷ (75 ∷ 70 ∷ 60 ∷ [])
    ∷ (70 ∷ 65 ∷ 55 ∷ [])
    ∷ (100 ∷ 100 ∷ 100 ∷ []) ∷ (100 ∷ 100 ∷ 100 ∷ []) ∷ (100 ∷ 100 ∷ 100 ∷ [])
    ∷ []
