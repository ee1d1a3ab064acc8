-- The houses that the examples of this crate speak of: those of document 01, "Houses worked through", houses and records with what is left over of a
-- score (document 02, request 4), repaired ones among them (request 5), houses by their short sides (request 6), and pairs to which demand 3 applies.
use Rattle.std.specs.Prelude.{List, [], ◌∷◌, ◌++◌, ℕ, suc, ◌+◌, ◌*◌, length, get_or, set}
use Rattle.answer.specs.Text.{bytes}
use Rattle.answer.specs.Houses.{two_storeys}
use Rattle.answer.specs.Lists.{joined}
use Rattle.survey.specs.Table.{parts_row}
use Rattle.diagnosis.specs.Rows.{end_a, snow_column, repaired_column}
use Rattle.diagnosis.specs.House.{narrow, required, end_required, higher_band, score_before, scores}
use Rattle.diagnosis.specs.Answers.{ToldRecord, scoring}

-- P1's report, the three lines that document 01 prints.
abbrev pub p1_report : List ℕ
p1_report =
    bytes "       6       1       1     920    1600     100      83      47\n"
    ++ bytes "       6       1       2    1600    1600     100      83      83\n"
    ++ bytes "       7       4      47       0       0       0       0       0\n"

-- Its record.
abbrev pub p1_record : ToldRecord
p1_record = record {
  scores = 47 ∷ 83 ∷ 0 ∷ 0 ∷ 0 ∷ 0 ∷ [];
  count = 2;
  verdict = 4;
  started_by_31_may_1981 = 1;
  hundredths = 47 ∷ 83 ∷ 0 ∷ 0 ∷ 0 ∷ 0 ∷ [];
  remainders = 352_000_000_000 ∷ 128_000_000_000 ∷ 0 ∷ 0 ∷ 0 ∷ 0 ∷ [];
  divisors = 384_000_000_000 ∷ 384_000_000_000 ∷ 0 ∷ 0 ∷ 0 ∷ 0 ∷ [];
}

-- P1's house by its floor area, the area of each end, the length of its middle wall in Y, the present and the marked set, and 1 for repaired:
abbrev pub like_p1 : ℕ → ℕ → ℕ → ℕ → ℕ → ℕ → List ℕ
like_p1 area end middle present marked repaired =
    1 ∷ 1 ∷ 2 ∷ 100 ∷ 1 ∷ 1 ∷ 0 ∷ 0
    ∷ 2 ∷ 1 ∷ area ∷ 5000 ∷ 1 ∷ 0 ∷ 0 ∷ 0
    ∷ 3 ∷ 1 ∷ 1 ∷ end ∷ end ∷ 1 ∷ 1 ∷ 0
    ∷ 3 ∷ 1 ∷ 2 ∷ end ∷ end ∷ 1 ∷ 1 ∷ 0
    ∷ 4 ∷ 1 ∷ 1 ∷ 1 ∷ 20 ∷ 2000 ∷ 1 ∷ 1
    ∷ 4 ∷ 1 ∷ 1 ∷ 2 ∷ 0 ∷ 2000 ∷ 0 ∷ 2
    ∷ 4 ∷ 1 ∷ 1 ∷ 3 ∷ 20 ∷ 2000 ∷ 1 ∷ 1
    ∷ 4 ∷ 1 ∷ 2 ∷ 1 ∷ 20 ∷ 2000 ∷ 1 ∷ 1
    ∷ 4 ∷ 1 ∷ 2 ∷ 2 ∷ 20 ∷ middle ∷ 1 ∷ 1
    ∷ 4 ∷ 1 ∷ 2 ∷ 3 ∷ 20 ∷ 2000 ∷ 1 ∷ 1
    ∷ 5 ∷ present ∷ marked ∷ repaired ∷ 0 ∷ 0 ∷ 0 ∷ 0
    ∷ 8 ∷ 19800401 ∷ 19801001 ∷ 20120401 ∷ 0 ∷ 0 ∷ 0 ∷ 0
    ∷ []

-- with 0.4 m² of floor and ends of 0.1 m², so that its scores would be above 999;
abbrev pub small_floor : List ℕ
small_floor = like_p1 40 10 4000 8191 8 0

-- without marks, by the length of that wall;
abbrev pub with_middle_wall : ℕ → List ℕ
with_middle_wall length = like_p1 4000 1000 length 8191 0 0

-- by its parts;
abbrev pub with_parts : ℕ → ℕ → List ℕ
with_parts present marked = like_p1 4000 1000 4000 present marked 0

-- and by its parts, repaired.
abbrev pub repaired_with_parts : ℕ → ℕ → List ℕ
repaired_with_parts present marked = like_p1 4000 1000 4000 present marked 1

-- What a house's record has for the ground storey in X and in Y: score, whole hundredths, remainder and divisor.
abbrev pub recorded_at : List ℕ → ℕ → List ℕ
recorded_at table at =
    let found = (scoring table).result in
    get_or found.scores at 0 ∷ get_or found.hundredths at 0 ∷ get_or found.remainders at 0 ∷ get_or found.divisors at 0 ∷ []

abbrev pub on_the_ground : List ℕ → List (List ℕ)
on_the_ground table = recorded_at table 0 ∷ recorded_at table 1 ∷ []

-- P10's houses, by zone: P1's with no marks and in X only end walls, of 540 and 630 mm.
abbrev pub p10 : ℕ → List ℕ
p10 zone =
    1 ∷ 1 ∷ 2 ∷ zone ∷ 1 ∷ 1 ∷ 0 ∷ 0
    ∷ 2 ∷ 1 ∷ 4000 ∷ 5000 ∷ 1 ∷ 0 ∷ 0 ∷ 0
    ∷ 3 ∷ 1 ∷ 1 ∷ 1000 ∷ 1000 ∷ 1 ∷ 1 ∷ 0
    ∷ 3 ∷ 1 ∷ 2 ∷ 1000 ∷ 1000 ∷ 1 ∷ 1 ∷ 0
    ∷ 4 ∷ 1 ∷ 1 ∷ 1 ∷ 20 ∷ 540 ∷ 1 ∷ 1
    ∷ 4 ∷ 1 ∷ 1 ∷ 3 ∷ 20 ∷ 630 ∷ 1 ∷ 1
    ∷ 4 ∷ 1 ∷ 2 ∷ 1 ∷ 20 ∷ 2000 ∷ 1 ∷ 1
    ∷ 4 ∷ 1 ∷ 2 ∷ 2 ∷ 20 ∷ 4000 ∷ 1 ∷ 1
    ∷ 4 ∷ 1 ∷ 2 ∷ 3 ∷ 20 ∷ 2000 ∷ 1 ∷ 1
    ∷ 5 ∷ 8191 ∷ 0 ∷ 0 ∷ 0 ∷ 0 ∷ 0 ∷ 0
    ∷ 8 ∷ 19800401 ∷ 19801001 ∷ 20120401 ∷ 0 ∷ 0 ∷ 0 ∷ 0
    ∷ []

-- The last day on which the house of two storeys is under ten years, and the day on which it is ten.
abbrev pub under_ten_day : ℕ
under_ten_day = 20080331

abbrev pub ten_day : ℕ
ten_day = 20080401

-- A house of two storeys: light, in zone 90, on ordinary ground, under ten years, the corridor floor alone marked.
abbrev pub sound : List ℕ
sound = two_storeys 1 90 1 under_ten_day 2048

-- The same house worse in one of the five,
abbrev pub heavy : List ℕ
heavy = two_storeys 2 90 1 under_ten_day 2048

abbrev pub zone100 : List ℕ
zone100 = two_storeys 1 100 1 under_ten_day 2048

abbrev pub soft_ground : List ℕ
soft_ground = two_storeys 1 90 2 under_ten_day 2048

-- (surveyed a day later)
abbrev pub over_ten : List ℕ
over_ten = two_storeys 1 90 1 ten_day 2048

-- (the outer wall marked too)
abbrev pub more_marks : List ℕ
more_marks = two_storeys 1 90 1 under_ten_day 2056

-- and in all of them.
abbrev pub all_worse : List ℕ
all_worse = two_storeys 2 100 2 ten_day 2056

-- The records of the first and the last of them.
abbrev pub sound_record : ToldRecord
sound_record = record {
  scores = 131 ∷ 200 ∷ 350 ∷ 250 ∷ 0 ∷ 0 ∷ [];
  count = 4;
  verdict = 2;
  started_by_31_may_1981 = 0;
  hundredths = 131 ∷ 200 ∷ 350 ∷ 250 ∷ 0 ∷ 0 ∷ [];
  remainders = 23_220_000_000 ∷ 24_000_000_000 ∷ 3_500_000_000 ∷ 2_500_000_000 ∷ 0 ∷ 0 ∷ [];
  divisors = 29_880_000_000 ∷ 29_880_000_000 ∷ 9_990_000_000 ∷ 9_990_000_000 ∷ 0 ∷ 0 ∷ [];
}

abbrev pub all_worse_record : ToldRecord
all_worse_record = record {
  scores = 38 ∷ 74 ∷ 116 ∷ 82 ∷ 0 ∷ 0 ∷ [];
  count = 4;
  verdict = 4;
  started_by_31_may_1981 = 0;
  hundredths = 38 ∷ 74 ∷ 116 ∷ 82 ∷ 0 ∷ 0 ∷ [];
  remainders = 778_050_000_000 ∷ 1_046_400_000_000 ∷ 101_600_000_000 ∷ 563_200_000_000 ∷ 0 ∷ 0 ∷ [];
  divisors = 1_526_400_000_000 ∷ 1_526_400_000_000 ∷ 572_400_000_000 ∷ 572_400_000_000 ∷ 0 ∷ 0 ∷ [];
}

-- The sound house, by the day on which work started.
abbrev pub started_on : ℕ → List ℕ
started_on day = set sound 113 day

-- A house under snow, by the number that stands for its depth in column 8 of the house row.
abbrev pub under_snow : ℕ → List ℕ → List ℕ
under_snow depth table = set table snow_column depth

-- The house of two storeys under 1 m of snow, and worse in all five.
abbrev pub snowy_sound : List ℕ
snowy_sound = under_snow 1 sound

abbrev pub snowy_worse : List ℕ
snowy_worse = under_snow 1 all_worse

-- A house by what column 4 of its parts row says, 1 for repaired and 0 for not.
abbrev pub as_repaired : ℕ → List ℕ → List ℕ
as_repaired number table = set table (8 * parts_row table + repaired_column) number

-- The house of two storeys repaired, and worse in all five.
abbrev pub repaired_sound : List ℕ
repaired_sound = as_repaired 1 sound

abbrev pub repaired_worse : List ℕ
repaired_worse = as_repaired 1 all_worse

-- A house whose scores deeper snow raises: two storeys, very heavy, zone 100, ordinary ground, foundation I, no snow, no marks; each storey 40 m², its
-- ends 10 m²; in each storey and direction three walls of 3.1 kN/m and 4,550 mm with joint IV, one at each place.
abbrev pub weak_joints : List ℕ
weak_joints =
    1 ∷ 2 ∷ 3 ∷ 100 ∷ 1 ∷ 1 ∷ 0 ∷ 0
    ∷ 2 ∷ 1 ∷ 4000 ∷ 5000 ∷ 1 ∷ 0 ∷ 0 ∷ 0
    ∷ 2 ∷ 2 ∷ 4000 ∷ 5000 ∷ 1 ∷ 0 ∷ 0 ∷ 0
    ∷ 3 ∷ 1 ∷ 1 ∷ 1000 ∷ 1000 ∷ 2 ∷ 2 ∷ 0
    ∷ 3 ∷ 1 ∷ 2 ∷ 1000 ∷ 1000 ∷ 2 ∷ 2 ∷ 0
    ∷ 3 ∷ 2 ∷ 1 ∷ 1000 ∷ 1000 ∷ 2 ∷ 2 ∷ 0
    ∷ 3 ∷ 2 ∷ 2 ∷ 1000 ∷ 1000 ∷ 2 ∷ 2 ∷ 0
    ∷ 4 ∷ 1 ∷ 1 ∷ 1 ∷ 31 ∷ 4550 ∷ 4 ∷ 1
    ∷ 4 ∷ 1 ∷ 1 ∷ 2 ∷ 31 ∷ 4550 ∷ 4 ∷ 1
    ∷ 4 ∷ 1 ∷ 1 ∷ 3 ∷ 31 ∷ 4550 ∷ 4 ∷ 1
    ∷ 4 ∷ 1 ∷ 2 ∷ 1 ∷ 31 ∷ 4550 ∷ 4 ∷ 1
    ∷ 4 ∷ 1 ∷ 2 ∷ 2 ∷ 31 ∷ 4550 ∷ 4 ∷ 1
    ∷ 4 ∷ 1 ∷ 2 ∷ 3 ∷ 31 ∷ 4550 ∷ 4 ∷ 1
    ∷ 4 ∷ 2 ∷ 1 ∷ 1 ∷ 31 ∷ 4550 ∷ 4 ∷ 1
    ∷ 4 ∷ 2 ∷ 1 ∷ 2 ∷ 31 ∷ 4550 ∷ 4 ∷ 1
    ∷ 4 ∷ 2 ∷ 1 ∷ 3 ∷ 31 ∷ 4550 ∷ 4 ∷ 1
    ∷ 4 ∷ 2 ∷ 2 ∷ 1 ∷ 31 ∷ 4550 ∷ 4 ∷ 1
    ∷ 4 ∷ 2 ∷ 2 ∷ 2 ∷ 31 ∷ 4550 ∷ 4 ∷ 1
    ∷ 4 ∷ 2 ∷ 2 ∷ 3 ∷ 31 ∷ 4550 ∷ 4 ∷ 1
    ∷ 5 ∷ 8191 ∷ 0 ∷ 0 ∷ 0 ∷ 0 ∷ 0 ∷ 0
    ∷ 8 ∷ 19800401 ∷ 19801001 ∷ 20120401 ∷ 0 ∷ 0 ∷ 0 ∷ 0
    ∷ []

-- The first rows of a heavy house by the short sides of its storeys, from the ground up: its row, storeys of 40 m², and the ground storey's ends in X, of
-- 10 m² and of parts of one storey. Column 4 of the ends, an area, would be narrow if it were taken for a short side.
unfoldable pub storeys_and_ends : ℕ → List ℕ → List ℕ
storeys_and_ends storey [] = 3 ∷ 1 ∷ 1 ∷ 1000 ∷ 1000 ∷ 1 ∷ 1 ∷ 0 ∷ []
storeys_and_ends storey (side ∷ above) = 2 ∷ storey ∷ 4000 ∷ side ∷ 1 ∷ 0 ∷ 0 ∷ 0 ∷ storeys_and_ends (suc storey) above

abbrev pub by_sides : List ℕ → List ℕ
by_sides sides = 1 ∷ length sides ∷ 2 ∷ 100 ∷ 1 ∷ 1 ∷ 0 ∷ 0 ∷ storeys_and_ends 1 sides

-- Its narrow factors, from the ground up.
abbrev pub narrow_factors : List ℕ → List ℕ
narrow_factors sides = joined (length sides) (λ below. narrow (by_sides sides) (below + 1) ∷ [])

-- Such houses' factors, and, below a narrow storey, what is required of the ground storey and of its end a, which is of 10 m² and one storey.
abbrev pub worked_narrow : List (List ℕ)
worked_narrow =
    narrow_factors (5000 ∷ 3999 ∷ [])
    ∷ narrow_factors (3999 ∷ 5000 ∷ [])
    ∷ narrow_factors (5000 ∷ 5000 ∷ 3600 ∷ [])
    ∷ narrow_factors (5000 ∷ 3600 ∷ 5000 ∷ [])
    ∷ narrow_factors (5000 ∷ 3600 ∷ 3600 ∷ [])
    ∷ narrow_factors (3999 ∷ [])
    ∷ narrow_factors (5000 ∷ 4000 ∷ [])
    ∷ (required (by_sides (5000 ∷ 3999 ∷ [])) 1 ∷ end_required (by_sides (5000 ∷ 3999 ∷ [])) 1 1 end_a ∷ [])
    ∷ []

abbrev pub expected_narrow : List (List ℕ)
expected_narrow =
    (113 ∷ 100 ∷ [])
    ∷ (100 ∷ 100 ∷ [])
    ∷ (113 ∷ 113 ∷ 100 ∷ [])
    ∷ (113 ∷ 100 ∷ 100 ∷ [])
    ∷ (113 ∷ 113 ∷ 100 ∷ [])
    ∷ (100 ∷ [])
    ∷ (100 ∷ 100 ∷ [])
    ∷ (47_912_000_000 ∷ 4_520_000_000 ∷ [])
    ∷ []

-- Of a house of two storeys: its scores, its scores before the layout factor, and the bands of its better ends, storey by storey, X before Y.
abbrev pub by_place : (ℕ → ℕ → ℕ) → List ℕ
by_place f = f 1 1 ∷ f 1 2 ∷ f 2 1 ∷ f 2 2 ∷ []

abbrev pub figures : List ℕ → List (List ℕ)
figures table = scores table ∷ by_place (score_before table) ∷ by_place (higher_band table) ∷ []

-- The bands that the better ends keep: E in X and A in Y in both storeys (A to E are 0 to 4). The lower end of the ground storey in X goes
-- from B to A where the house is worse in all five.
abbrev pub same_bands : List ℕ
same_bands = 4 ∷ 0 ∷ 4 ∷ 0 ∷ []
