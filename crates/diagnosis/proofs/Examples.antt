-- Document 01's houses worked through, from P1's sheet to its report, by computation. Assumes nothing.
use Rattle.std.proofs.Common.{arith, ◌≡◌, refl, sym, ◌∙◌, false, map, Ok, List, [], ◌∷◌, ℕ, ◌+◌, ◌*◌, ◌≤◌, max, le_refl, lit≤, get_or, set, take, replicate, le-ltb}
use Rattle.answer.specs.Told.{counted, refusal}
use Rattle.answer.specs.First.{first}
use Rattle.answer.specs.Length.{rows_in}
use Rattle.answer.specs.Text.{bytes}
use Rattle.answer.specs.Houses.{p1_sheet, p1, two_storeys}
use Rattle.answer.specs.Lists.{joined, part, over}
use Rattle.calendar.specs.Days.{is_leap, days_in, is_date, is_day, ten_years_after, age_on}
use Rattle.sheet.specs.Field.{digit_after, after, field, is_number, value, digit_or_space, printed}
use Rattle.sheet.specs.Line.{line}
use Rattle.sheet.specs.Sheet.{field_at, misprinted, numbers_of, reading, lines_of}
use Rattle.survey.specs.Table.{storeys, wall_rows}
use Rattle.survey.specs.Ranges as ranges
use Rattle.survey.specs.Judgement.{◌then◌, test, outside, leftmost, wrong_column, house_fault, storey_fault, ends_fault, storey_before, wall_fault, within, parts_fault, days_fault, order_fault, dates_fault, row_fault, judging}
use Rattle.survey.specs.Walls.{rows_from, rows_where, is_wall_of, storey_walls}
use Rattle.survey.proofs.Examples.{p1_judged, zones_known}
use Rattle.survey.proofs.Examples as survey
use Rattle.method.specs.Printed.{nth}
use Rattle.method.specs.Held.{position, foundation_used, shared_row, top_entry, entry_in, entry, interpolated, row_factor, joint_factor, solid_share, opening_share, wall_share, held_strength, most_held}
use Rattle.method.specs.Required.{top_line, constant, snow_addition, per_area, ground_factor, is_narrow, narrow_factor, required_strength}
use Rattle.method.specs.LayoutFactor.{reached, band, floor_type, layout_factor}
use Rattle.method.specs.Deterioration.{points, counted_marks, fraction, factor_of, deterioration_factor, after_repair}
use Rattle.method.specs.Score.{quotient, limited, score, score_before_layout, verdict}
use Rattle.method.specs.Worked.{worked, expected}
use Rattle.method.proofs.Examples.{worked_out}
use Rattle.diagnosis.proofs.ScoreLists.{one_or_two}
use Rattle.diagnosis.specs.Rows.{end_a, end_b}
use Rattle.method.specs.declared.scores.Quotient.{Quotient}
use Rattle.diagnosis.specs.House.{in_direction, solid_at_end, held, end_held, narrow_storey, narrow, required_of, required, end_required, end_band, higher_band, storey_floor_type, layout, deterioration, strengths_with, score_before, score_with, quotient_with, full_score, full_quotient, scores, least_of, least_score, house_verdict, started_by_31_may_1981, scores_with, InHouse}
use Rattle.diagnosis.specs.declared.held.HeldSums.{HeldSums}
use Rattle.method.specs.declared.verdicts.Verdict.TheVariants.{LikelyToCollapse}
use Rattle.diagnosis.specs.Internal.{held_sums}
use Rattle.diagnosis.specs.Answers.{ToldRecord, told_refused, Scoring, told_scoring, six_numbers, record_with, record_of, scoring, score_at, number_at, counted_as}
use Rattle.diagnosis.specs.Report.{result_rows, report_rows, report_bytes, reporting, refusal_line}
use Rattle.diagnosis.specs.Program.{most_numbers, table_of, diagnosing, after_diagnosing, most_report_bytes, output}
use Rattle.diagnosis.specs.Worked.{p1_report, p1_record, sound_record, all_worse_record, like_p1, small_floor, with_parts, repaired_with_parts, with_middle_wall, on_the_ground, p10, under_ten_day, ten_day, storeys_and_ends, worked_narrow, expected_narrow, sound, heavy, zone100, soft_ground, over_ten, more_marks, all_worse, started_on, under_snow, snowy_sound, snowy_worse, repaired_sound, repaired_worse, weak_joints, figures, same_bands}

-- P1's sheet can be read, and is P1's table.
p1_read : reading p1_sheet most_numbers ≡ counted 12
unfolding reading rows_in first misprinted field_at part field after digit_after is_number
p1_read = refl

p1_table : table_of p1_sheet ≡ p1
unfolding table_of numbers_of rows_in joined field_at part field after digit_after value
p1_table = refl

-- A zone that a house may have, by which P10's are accepted.
abbrev pub Known : ℕ → Type 0
Known zone = ranges.zone zone ≡ zone

pub p10_judged : (zone : ℕ) → Known zone → judging (p10 zone) ≡ counted 11
unfolding judging rows_in first row_fault house_fault storey_fault ends_fault wall_fault parts_fault days_fault order_fault dates_fault wall_rows ranges.zone storey_before within wrong_column leftmost outside test ◌then◌ is_day is_date days_in is_leap
p10_judged zone known = rw (known, le-ltb zone zone (le_refl zone))

-- The walls of their one storey.
pub p1_walls : storey_walls p1 1 ≡ rows_from p1 4 6
unfolding storey_walls rows_where rows_from is_wall_of
p1_walls = rw p1_judged

pub p10_walls : (zone : ℕ) → Known zone → storey_walls (p10 zone) 1 ≡ rows_from (p10 zone) 4 5
unfolding p1_walls
p10_walls zone known = rw (p10_judged zone known)

-- Their deterioration factors, worked out once.
p1_factor : deterioration p1 ≡ fraction 20 24
unfolding deterioration wall_rows first points counted_marks factor_of deterioration_factor after_repair is_leap days_in is_date ten_years_after age_on
p1_factor = refl

p10_factor : (zone : ℕ) → deterioration (p10 zone) ≡ fraction 1 1
unfolding p1_factor
p10_factor zone = refl

-- From the walls on all is computed. Laws below that name this one in their `unfolding` line unfold what it does.
pub p1_scores : scores p1 ≡ 47 ∷ 83 ∷ []
unfolding scores joined score_with quotient_with score_before layout higher_band end_band end_required required required_of narrow narrow_storey storey_floor_type held end_held solid_at_end in_direction rows_from wall_rows first nth position foundation_used shared_row top_entry entry_in entry interpolated row_factor joint_factor solid_share opening_share wall_share held_strength top_line constant snow_addition per_area ground_factor is_narrow narrow_factor required_strength reached band floor_type layout_factor points counted_marks factor_of deterioration_factor after_repair quotient score is_leap days_in is_date ten_years_after age_on
p1_scores = rw (p1_walls, p1_factor)

-- And by held strengths that are given, as document 02's request 7 has them in an example; a held strength above 60,000 kN counts as that.
pub given_scores : scores_with p1 (number_at (4_000_000 ∷ 0 ∷ 7 ∷ 7 ∷ 7 ∷ 7 ∷ [])) ≡ 20 ∷ 0 ∷ []
unfolding p1_scores
given_scores = rw (p1_walls, p1_factor)

pub given_most : counted_as (60_000_000_001 ∷ 60_000_000_000 ∷ 0 ∷ 0 ∷ 0 ∷ 5 ∷ []) 1 1 ∷ counted_as (60_000_000_001 ∷ 60_000_000_000 ∷ 0 ∷ 0 ∷ 0 ∷ 5 ∷ []) 1 2
    ∷ counted_as (60_000_000_001 ∷ 60_000_000_000 ∷ 0 ∷ 0 ∷ 0 ∷ 5 ∷ []) 3 2 ∷ []
    ≡ 60_000_000_000 ∷ 60_000_000_000 ∷ 5 ∷ []
given_most = refl

pub given_small : (storey direction : ℕ) → InHouse p1 storey direction → number_at (4_000_000 ∷ 0 ∷ 7 ∷ 7 ∷ 7 ∷ 7 ∷ []) storey direction ≤ most_held
given_small storey direction here =
    let ground : storey ≡ 1 = omega (arith, here.some_storey, here.last_storey) in
    rw ground (one_or_two (λ d. number_at (4_000_000 ∷ 0 ∷ 7 ∷ 7 ∷ 7 ∷ 7 ∷ []) 1 d ≤ most_held) (omega arith) (omega arith) direction here.some_direction here.last_direction)

p1_rows : report_rows p1 ≡
    6 ∷ 1 ∷ 1 ∷ 920 ∷ 1600 ∷ 100 ∷ 83 ∷ 47
    ∷ 6 ∷ 1 ∷ 2 ∷ 1600 ∷ 1600 ∷ 100 ∷ 83 ∷ 83
    ∷ 7 ∷ 4 ∷ 47 ∷ 0 ∷ 0 ∷ 0 ∷ 0 ∷ 0
    ∷ []
unfolding p1_scores result_rows report_rows least_score least_of verdict
p1_rows = rw (p1_walls, p1_factor)

p1_printed : report_bytes p1 ≡ p1_report
unfolding report_bytes lines_of joined part line printed digit_or_space
p1_printed = rw p1_rows

-- From sheet to report, with as many bytes lent as it needs, and as many as any does.
p1_diagnosed : diagnosing p1_sheet 195 ≡ counted 195
unfolding diagnosing reporting
p1_diagnosed = rw (p1_read, p1_table, p1_judged)

p1_answered : diagnosing p1_sheet most_report_bytes ≡ counted 195
unfolding diagnosing reporting
p1_answered = rw (p1_read, p1_table, p1_judged)

p1_after : after_diagnosing p1_sheet (replicate 195 0) ≡ p1_report
unfolding after_diagnosing over
p1_after = rw (p1_diagnosed, p1_table, p1_printed)

p1_output : output p1_sheet ≡ p1_report
unfolding output
p1_output = rw (p1_answered, p1_table, p1_printed)

-- P1's first line alone ends early, so the program prints the line of refusal 3 at row 2, column 1.
refused_read : reading (take 65 p1_sheet) most_numbers ≡ counted 1
unfolding p1_read
refused_read = refl

refused_judged : judging (table_of (take 65 p1_sheet)) ≡ refusal 3 2 1
unfolding p1_table judging rows_in first row_fault house_fault ranges.zone wrong_column leftmost outside test ◌then◌ wall_rows
refused_judged = refl

refused_answered : diagnosing (take 65 p1_sheet) most_report_bytes ≡ refusal 3 2 1
unfolding diagnosing reporting
refused_answered = rw (refused_read, refused_judged)

pub refused_output : output (take 65 p1_sheet) ≡ bytes "       0       3       2       1       0       0       0       0\n"
unfolding output refusal_line line joined printed digit_or_space
refused_output = rw refused_answered

-- P10's scores before the layout factor, its full scores, and its higher bands in X: the better end falls from B to A.
abbrev pub p10_numbers : ℕ → List ℕ
p10_numbers zone = score_before (p10 zone) 1 1 ∷ full_score (p10 zone) 1 1 ∷ higher_band (p10 zone) 1 1 ∷ []

pub p10_rises : (p10_numbers 90 ≡ 16 ∷ 11 ∷ 1 ∷ []) × (p10_numbers 100 ≡ 14 ∷ 14 ∷ 0 ∷ [])
unfolding p1_scores
p10_rises = (rw (p10_walls 90 zones_known.2, p10_factor 90), rw (p10_walls 100 zones_known.3, p10_factor 100))

-- Document 01's small table in one statement over the definitions: P1 from its sheet to what is printed, with the count of bytes; P2 to P9 and
-- P11 without a table; P10 in zones 90 and 100.
pub houses_worked_out :
    (((diagnosing p1_sheet 195).count ∷ []) ∷ after_diagnosing p1_sheet (replicate 195 0) ∷ output p1_sheet ∷ worked ∷ p10_numbers 90 ∷ p10_numbers 100 ∷ [])
    ≡ ((195 ∷ []) ∷ p1_report ∷ p1_report ∷ expected ∷ (16 ∷ 11 ∷ 1 ∷ []) ∷ (14 ∷ 14 ∷ 0 ∷ []) ∷ [])
houses_worked_out = λ i. ((p1_diagnosed i).count ∷ []) ∷ p1_after i ∷ p1_output i ∷ worked_out i ∷ p10_rises.0 i ∷ p10_rises.1 i ∷ []

-- The house of two storeys is accepted, as it is and worse in one of the five numbers or in all of them.
abbrev pub Judged : List ℕ → Type 0
Judged table = judging table ≡ counted 15

in_range : (weight zone ground_class survey_day marked : ℕ) → 1 ≤ weight → weight ≤ 3 → Known zone → 1 ≤ ground_class → ground_class ≤ 2 → survey.Surveyed survey_day → marked ≤ 8191
    → Judged (two_storeys weight zone ground_class survey_day marked)
in_range weight zone ground_class survey_day marked light heavy known firm soft surveyed few =
    survey.two_judged weight zone ground_class survey_day marked (light, heavy) known (firm, soft) surveyed few

-- Its survey days, the last on which it is under ten years and the day after.
surveyed : survey.Surveyed under_ten_day × survey.Surveyed ten_day
unfolding is_day is_date days_in is_leap
surveyed = ((refl, lit≤ tt, lit≤ tt), (refl, lit≤ tt, lit≤ tt))

pub two_judged : Judged sound × Judged heavy × Judged zone100 × Judged soft_ground × Judged over_ten × Judged more_marks × Judged all_worse
two_judged = (
  in_range 1 90 1 under_ten_day 2048 (lit≤ tt) (lit≤ tt) zones_known.2 (lit≤ tt) (lit≤ tt) surveyed.0 (lit≤ tt),
  in_range 2 90 1 under_ten_day 2048 (lit≤ tt) (lit≤ tt) zones_known.2 (lit≤ tt) (lit≤ tt) surveyed.0 (lit≤ tt),
  in_range 1 100 1 under_ten_day 2048 (lit≤ tt) (lit≤ tt) zones_known.3 (lit≤ tt) (lit≤ tt) surveyed.0 (lit≤ tt),
  in_range 1 90 2 under_ten_day 2048 (lit≤ tt) (lit≤ tt) zones_known.2 (lit≤ tt) (lit≤ tt) surveyed.0 (lit≤ tt),
  in_range 1 90 1 ten_day 2048 (lit≤ tt) (lit≤ tt) zones_known.2 (lit≤ tt) (lit≤ tt) surveyed.1 (lit≤ tt),
  in_range 1 90 1 under_ten_day 2056 (lit≤ tt) (lit≤ tt) zones_known.2 (lit≤ tt) (lit≤ tt) surveyed.0 (lit≤ tt),
  in_range 2 100 2 ten_day 2056 (lit≤ tt) (lit≤ tt) zones_known.3 (lit≤ tt) (lit≤ tt) surveyed.1 (lit≤ tt),
)

-- What is worked out for a place of a house, by what its walls hold there, in all and at the ends.
module _ (house : List ℕ) where
  -- A place's band of an end, higher band, layout factor, what it is scored by, score, and score before the layout factor.
  abbrev band_by : ℕ → ℕ → ℕ → ℕ → ℕ
  band_by storey direction end holding = band (record { held = holding; required = end_required house storey direction end })

  abbrev higher_by : ℕ → ℕ → HeldSums → ℕ
  higher_by storey direction sums = max (band_by storey direction end_a sums.a) (band_by storey direction end_b sums.b)

  abbrev layout_by : ℕ → ℕ → HeldSums → ℕ
  layout_by storey direction sums =
      layout_factor (record { a = band_by storey direction end_a sums.a; b = band_by storey direction end_b sums.b }) (storey_floor_type house storey)

  abbrev quotient_by : ℕ → ℕ → HeldSums → Quotient
  quotient_by storey direction sums = quotient (strengths_with house sums.all storey) (layout_by storey direction sums) (deterioration house)

  abbrev full_by : ℕ → ℕ → HeldSums → ℕ
  full_by storey direction sums = limited (quotient_by storey direction sums)

  abbrev before_by : ℕ → HeldSums → ℕ
  before_by storey sums = score_before_layout (strengths_with house sums.all storey) (deterioration house)

  quotient_by_sums : (storey direction : ℕ) {sums : HeldSums} → held_sums house storey direction ≡ sums
      → full_quotient house storey direction ≡ quotient_by storey direction sums
  unfolding quotient_with layout end_band
  quotient_by_sums storey direction holds = λ i. quotient_by storey direction (holds i)

  -- The figures of a house of two storeys.
  module _ (two-storeys : storeys house ≡ 2) where
    by_sums : {one two three four : HeldSums}
        → (held_sums house 1 1 ≡ one) × (held_sums house 1 2 ≡ two) × (held_sums house 2 1 ≡ three) × (held_sums house 2 2 ≡ four)
        → figures house
        ≡ (full_by 1 1 one ∷ full_by 1 2 two ∷ full_by 2 1 three ∷ full_by 2 2 four ∷ [])
        ∷ (before_by 1 one ∷ before_by 1 two ∷ before_by 2 three ∷ before_by 2 four ∷ [])
        ∷ (higher_by 1 1 one ∷ higher_by 1 2 two ∷ higher_by 2 1 three ∷ higher_by 2 2 four ∷ [])
        ∷ []
    unfolding scores joined score_with quotient_with score_before layout higher_band end_band
    by_sums holds =
        rw two-storeys (
        λ i.
        (full_by 1 1 (holds.0 i) ∷ full_by 1 2 (holds.1 i) ∷ full_by 2 1 (holds.2 i) ∷ full_by 2 2 (holds.3 i) ∷ [])
        ∷ (before_by 1 (holds.0 i) ∷ before_by 1 (holds.1 i) ∷ before_by 2 (holds.2 i) ∷ before_by 2 (holds.3 i) ∷ [])
        ∷ (higher_by 1 1 (holds.0 i) ∷ higher_by 1 2 (holds.1 i) ∷ higher_by 2 1 (holds.2 i) ∷ higher_by 2 2 (holds.3 i) ∷ [])
        ∷ []
        )

-- What is held in all, at end a and at end b.
abbrev sums : ℕ → ℕ → ℕ → HeldSums
sums all a b = record { all = all; a = a; b = b }

-- What the house of two storeys holds, without snow and under 1 m.
abbrev TwoHold : List ℕ → Type 0
TwoHold house =
    (held_sums house 1 1 ≡ sums 56_250_000 55_000_000 1_250_000)
    × (held_sums house 1 2 ≡ sums 60_000_000 0 0)
    × (held_sums house 2 1 ≡ sums 35_000_000 17_500_000 17_500_000)
    × (held_sums house 2 2 ≡ sums 25_000_000 0 0)

-- The walls of two storeys, as many in each, after the ends of an accepted table.
abbrev StoreysWalls : List ℕ → ℕ → Type 0
StoreysWalls table each = (storey_walls table 1 ≡ rows_from table 7 each) × (storey_walls table 2 ≡ rows_from table (7 + each) each)

-- Whatever the five numbers are, and whether it is repaired or not (column 4 of the parts row is the number 107 of its table).
abbrev two_repaired : ℕ → ℕ → ℕ → ℕ → ℕ → ℕ → List ℕ
two_repaired weight zone ground_class survey_day marked repaired = set (two_storeys weight zone ground_class survey_day marked) 107 repaired

module _ (weight zone ground_class survey_day marked repaired : ℕ) (accepted : Judged (two_repaired weight zone ground_class survey_day marked repaired)) where
  abbrev house : List ℕ
  house = two_repaired weight zone ground_class survey_day marked repaired

  walls : StoreysWalls house 3
  unfolding p1_walls
  walls = (rw accepted, rw accepted)

  holds : TwoHold house
  unfolding p1_scores
  holds = (rw walls.0, rw walls.0, rw walls.1, rw walls.1)

-- From what they hold on all is computed.
pub sound_figures : figures sound ≡ (131 ∷ 200 ∷ 350 ∷ 250 ∷ []) ∷ (188 ∷ 200 ∷ 350 ∷ 250 ∷ []) ∷ same_bands ∷ []
unfolding end_required required required_of narrow narrow_storey deterioration storey_floor_type wall_rows first nth top_line constant snow_addition per_area ground_factor is_narrow narrow_factor required_strength reached band floor_type layout_factor points counted_marks factor_of deterioration_factor after_repair quotient score is_leap days_in is_date ten_years_after age_on
sound_figures = by_sums _ refl (holds 1 90 1 under_ten_day 2048 0 two_judged.0)

pub heavy_figures : figures heavy ≡ (103 ∷ 157 ∷ 244 ∷ 174 ∷ []) ∷ (147 ∷ 157 ∷ 244 ∷ 174 ∷ []) ∷ same_bands ∷ []
unfolding sound_figures
heavy_figures = by_sums _ refl (holds 2 90 1 under_ten_day 2048 0 two_judged.1)

pub zone_figures : figures zone100 ≡ (118 ∷ 180 ∷ 315 ∷ 225 ∷ []) ∷ (169 ∷ 180 ∷ 315 ∷ 225 ∷ []) ∷ same_bands ∷ []
unfolding sound_figures
zone_figures = by_sums _ refl (holds 1 100 1 under_ten_day 2048 0 two_judged.2)

pub soft_ground_figures : figures soft_ground ≡ (87 ∷ 133 ∷ 233 ∷ 166 ∷ []) ∷ (125 ∷ 133 ∷ 233 ∷ 166 ∷ []) ∷ same_bands ∷ []
unfolding sound_figures
soft_ground_figures = by_sums _ refl (holds 1 90 2 under_ten_day 2048 0 two_judged.3)

pub over_ten_figures : figures over_ten ≡ (126 ∷ 192 ∷ 335 ∷ 239 ∷ []) ∷ (180 ∷ 192 ∷ 335 ∷ 239 ∷ []) ∷ same_bands ∷ []
unfolding sound_figures
over_ten_figures = by_sums _ refl (holds 1 90 1 ten_day 2048 0 two_judged.4)

pub more_marks_figures : figures more_marks ≡ (104 ∷ 158 ∷ 277 ∷ 198 ∷ []) ∷ (149 ∷ 158 ∷ 277 ∷ 198 ∷ []) ∷ same_bands ∷ []
unfolding sound_figures
more_marks_figures = by_sums _ refl (holds 1 90 1 under_ten_day 2056 0 two_judged.5)

pub all_worse_figures : figures all_worse ≡ (38 ∷ 74 ∷ 116 ∷ 82 ∷ []) ∷ (70 ∷ 74 ∷ 116 ∷ 82 ∷ []) ∷ same_bands ∷ []
unfolding sound_figures
all_worse_figures = by_sums _ refl (holds 2 100 2 ten_day 2056 0 two_judged.6)

-- Repaired: the sound house and the one that is worse in all five.
pub repaired_judged : Judged repaired_sound × Judged repaired_worse
unfolding p10_judged
repaired_judged = (refl, refl)

-- 9/10 where the sound house had 1, and the worse one's 19/24 stays.
pub repaired_figures :
    (figures repaired_sound ≡ (118 ∷ 180 ∷ 315 ∷ 225 ∷ []) ∷ (169 ∷ 180 ∷ 315 ∷ 225 ∷ []) ∷ same_bands ∷ [])
    × (figures repaired_worse ≡ (38 ∷ 74 ∷ 116 ∷ 82 ∷ []) ∷ (70 ∷ 74 ∷ 116 ∷ 82 ∷ []) ∷ same_bands ∷ [])
unfolding sound_figures
repaired_figures =
    (by_sums _ refl (holds 1 90 1 under_ten_day 2048 1 repaired_judged.0), by_sums _ refl (holds 2 100 2 ten_day 2056 1 repaired_judged.1))

-- Under 1 m of snow: the sound house and the one that is worse in all five; and the house with weak joints, without snow and under 1 m.
pub snowy_judged : Judged snowy_sound × Judged snowy_worse × (judging weak_joints ≡ counted 21) × (judging (under_snow 1 weak_joints) ≡ counted 21)
unfolding p10_judged
snowy_judged = (refl, refl, refl, refl)

-- And the first two under 2 m and 2.5 m.
pub deeper_judged : Judged (under_snow 2 sound) × Judged (under_snow 2 all_worse) × Judged (under_snow 3 sound) × Judged (under_snow 3 all_worse)
unfolding p10_judged
deeper_judged = (refl, refl, refl, refl)

snowy_walls : StoreysWalls snowy_sound 3 × StoreysWalls snowy_worse 3 × StoreysWalls weak_joints 6 × StoreysWalls (under_snow 1 weak_joints) 6
unfolding p1_walls
snowy_walls = (
  (rw snowy_judged.0, rw snowy_judged.0),
  (rw snowy_judged.1, rw snowy_judged.1),
  (rw snowy_judged.2, rw snowy_judged.2),
  (rw snowy_judged.3, rw snowy_judged.3),
)

-- With joint I on foundation I no factor changes under snow; with joint IV all do.
abbrev WeakHold : List ℕ → HeldSums → HeldSums → Type 0
WeakHold house ground upper =
    (held_sums house 1 1 ≡ ground) × (held_sums house 1 2 ≡ ground) × (held_sums house 2 1 ≡ upper) × (held_sums house 2 2 ≡ upper)

snowy_hold :
    TwoHold snowy_sound
    × TwoHold snowy_worse
    × WeakHold weak_joints (sums 33_852_000 11_284_000 11_284_000) (sums 14_810_250 4_936_750 4_936_750)
    × WeakHold (under_snow 1 weak_joints) (sums 41_891_850 13_963_950 13_963_950) (sums 31_313_100 10_437_700 10_437_700)
unfolding p1_scores
snowy_hold = (
  (rw snowy_walls.0.0, rw snowy_walls.0.0, rw snowy_walls.0.1, rw snowy_walls.0.1),
  (rw snowy_walls.1.0, rw snowy_walls.1.0, rw snowy_walls.1.1, rw snowy_walls.1.1),
  (rw snowy_walls.2.0, rw snowy_walls.2.0, rw snowy_walls.2.1, rw snowy_walls.2.1),
  (rw snowy_walls.3.0, rw snowy_walls.3.0, rw snowy_walls.3.1, rw snowy_walls.3.1),
)

pub snowy_figures :
    (figures snowy_sound ≡ (78 ∷ 152 ∷ 205 ∷ 146 ∷ []) ∷ (143 ∷ 152 ∷ 205 ∷ 146 ∷ []) ∷ same_bands ∷ [])
    × (figures snowy_worse ≡ (30 ∷ 59 ∷ 77 ∷ 55 ∷ []) ∷ (56 ∷ 59 ∷ 77 ∷ 55 ∷ []) ∷ same_bands ∷ [])
unfolding sound_figures
snowy_figures = (by_sums _ refl snowy_hold.0, by_sums _ refl snowy_hold.1)

-- All four scores rise, on the ground with the better ends still in band C.
pub weak_joints_figures :
    (figures weak_joints ≡ (60 ∷ 60 ∷ 47 ∷ 47 ∷ []) ∷ (60 ∷ 60 ∷ 47 ∷ 47 ∷ []) ∷ (2 ∷ 2 ∷ 1 ∷ 1 ∷ []) ∷ [])
    × (figures (under_snow 1 weak_joints) ≡ (62 ∷ 62 ∷ 75 ∷ 75 ∷ []) ∷ (62 ∷ 62 ∷ 75 ∷ 75 ∷ []) ∷ (2 ∷ 2 ∷ 3 ∷ 3 ∷ []) ∷ [])
unfolding sound_figures
weak_joints_figures = (by_sums _ refl snowy_hold.2, by_sums _ refl snowy_hold.3)

-- What a house like P1 holds in X, and in Y, by the length of its middle wall there; and what a record has for a place.
abbrev held_in_x : HeldSums
held_in_x = sums 9_200_000 4_000_000 4_000_000

abbrev held_in_y : ℕ → HeldSums
held_in_y middle = sums (4_000_000 + 2000 * middle + 4_000_000) 4_000_000 4_000_000

abbrev recorded : Quotient → List ℕ
recorded found = limited found ∷ found.hundredths ∷ found.remainder ∷ found.divisor ∷ []

-- A house like P1, accepted: its walls, and what they hold.
module _ (area end middle present marked repaired : ℕ) (accepted : judging (like_p1 area end middle present marked repaired) ≡ counted 12) where
  abbrev like : List ℕ
  like = like_p1 area end middle present marked repaired

  walls_like_p1 : storey_walls like 1 ≡ rows_from like 4 6
  unfolding p1_walls
  walls_like_p1 = rw accepted

  held_like_p1 : (held_sums like 1 1 ≡ held_in_x) × (held_sums like 1 2 ≡ held_in_y middle)
  unfolding p1_scores
  held_like_p1 = (rw walls_like_p1, rw walls_like_p1)

  -- So what it is scored by, in X and in Y, and what its record has on the ground.
  scored_like_p1 :
      (full_quotient like 1 1 ≡ quotient_by like 1 1 held_in_x)
      × (full_quotient like 1 2 ≡ quotient_by like 1 2 (held_in_y middle))
  scored_like_p1 =
      (quotient_by_sums like 1 1 held_like_p1.0, quotient_by_sums like 1 2 held_like_p1.1)

  on_the_ground_lem : on_the_ground like
      ≡ recorded (quotient_by like 1 1 held_in_x) ∷ recorded (quotient_by like 1 2 (held_in_y middle)) ∷ []
  unfolding scoring record_of record_with six_numbers joined over score_with
  on_the_ground_lem = rw (accepted, scored_like_p1.0, scored_like_p1.1)

-- P1 and its house with a number changed: with a small floor; without marks, at 99 and at 100; with 14 of 20 points, and with 16 of 24, which is under
-- 7/10.
changed_judged :
    (judging small_floor ≡ counted 12)
    × (judging (with_middle_wall 3999) ≡ counted 12)
    × (judging (with_middle_wall 4000) ≡ counted 12)
    × (judging (with_parts 5919 7) ≡ counted 12)
    × (judging (with_parts 8191 11) ≡ counted 12)
unfolding p10_judged
changed_judged = (refl, refl, refl, refl, refl)

pub left_over :
    (on_the_ground p1 ≡ (47 ∷ 47 ∷ 352_000_000_000 ∷ 384_000_000_000 ∷ []) ∷ (83 ∷ 83 ∷ 128_000_000_000 ∷ 384_000_000_000 ∷ []) ∷ [])
    × (on_the_ground small_floor ≡ (999 ∷ 4791 ∷ 2_560_000_000 ∷ 3_840_000_000 ∷ []) ∷ (999 ∷ 8333 ∷ 1_280_000_000 ∷ 3_840_000_000 ∷ []) ∷ [])
    × (on_the_ground (with_middle_wall 3999) ≡ (57 ∷ 57 ∷ 8_000_000_000 ∷ 16_000_000_000 ∷ []) ∷ (99 ∷ 99 ∷ 15_800_000_000 ∷ 16_000_000_000 ∷ []) ∷ [])
    × (on_the_ground (with_middle_wall 4000) ≡ (57 ∷ 57 ∷ 8_000_000_000 ∷ 16_000_000_000 ∷ []) ∷ (100 ∷ 100 ∷ 0 ∷ 16_000_000_000 ∷ []) ∷ [])
    × (on_the_ground (with_parts 5919 7) ≡ (40 ∷ 40 ∷ 80_000_000_000 ∷ 320_000_000_000 ∷ []) ∷ (70 ∷ 70 ∷ 0 ∷ 320_000_000_000 ∷ []) ∷ [])
    × (on_the_ground (with_parts 8191 11) ≡ (40 ∷ 40 ∷ 40_000_000_000 ∷ 160_000_000_000 ∷ []) ∷ (70 ∷ 70 ∷ 0 ∷ 160_000_000_000 ∷ []) ∷ [])
unfolding sound_figures
left_over = (
  on_the_ground_lem 4000 1000 4000 8191 8 0 p1_judged,
  on_the_ground_lem 40 10 4000 8191 8 0 changed_judged.0,
  on_the_ground_lem 4000 1000 3999 8191 0 0 changed_judged.1,
  on_the_ground_lem 4000 1000 4000 8191 0 0 changed_judged.2,
  on_the_ground_lem 4000 1000 4000 5919 7 0 changed_judged.3,
  on_the_ground_lem 4000 1000 4000 8191 11 0 changed_judged.4,
)

-- Repaired: without marks, with 18 of 20 points, and P1 itself.
repaired_parts_judged :
    (judging (repaired_with_parts 8191 0) ≡ counted 12)
    × (judging (repaired_with_parts 1919 1) ≡ counted 12)
    × (judging (repaired_with_parts 8191 8) ≡ counted 12)
unfolding p10_judged
repaired_parts_judged = (refl, refl, refl)

pub repaired_left_over :
    (on_the_ground (repaired_with_parts 8191 0) ≡ (51 ∷ 51 ∷ 120_000_000_000 ∷ 160_000_000_000 ∷ []) ∷ (90 ∷ 90 ∷ 0 ∷ 160_000_000_000 ∷ []) ∷ [])
    × (on_the_ground (repaired_with_parts 1919 1) ≡ (51 ∷ 51 ∷ 240_000_000_000 ∷ 320_000_000_000 ∷ []) ∷ (90 ∷ 90 ∷ 0 ∷ 320_000_000_000 ∷ []) ∷ [])
    × (on_the_ground (repaired_with_parts 8191 8) ≡ on_the_ground p1)
unfolding sound_figures
repaired_left_over = (
  on_the_ground_lem 4000 1000 4000 8191 0 1 repaired_parts_judged.0,
  on_the_ground_lem 4000 1000 4000 1919 1 1 repaired_parts_judged.1,
  on_the_ground_lem 4000 1000 4000 8191 8 1 repaired_parts_judged.2 ∙ sym left_over.0,
)

-- What P1 is scored by: what its record has beside each score.
abbrev quotient_at : ToldRecord → ℕ → Quotient
quotient_at found at =
    record { hundredths = get_or found.hundredths at 0; remainder = get_or found.remainders at 0; divisor = get_or found.divisors at 0 }

p1_quotients : (full_quotient p1 1 1 ≡ quotient_at p1_record 0) × (full_quotient p1 1 2 ≡ quotient_at p1_record 1)
unfolding sound_figures
p1_quotients = scored_like_p1 4000 1000 4000 8191 8 0 p1_judged

-- The four of a house of two storeys.
abbrev ScoredBy : List ℕ → Quotient → Quotient → Quotient → Quotient → Type 0
ScoredBy house one two three four =
    (full_quotient house 1 1 ≡ one) × (full_quotient house 1 2 ≡ two) × (full_quotient house 2 1 ≡ three) × (full_quotient house 2 2 ≡ four)

sound_quotients : ScoredBy sound (quotient_at sound_record 0) (quotient_at sound_record 1) (quotient_at sound_record 2) (quotient_at sound_record 3)
unfolding sound_figures
sound_quotients =
    let held = holds 1 90 1 under_ten_day 2048 0 two_judged.0 in
    (quotient_by_sums _ 1 1 held.0, quotient_by_sums _ 1 2 held.1, quotient_by_sums _ 2 1 held.2, quotient_by_sums _ 2 2 held.3)

all_worse_quotients : ScoredBy all_worse (quotient_at all_worse_record 0) (quotient_at all_worse_record 1) (quotient_at all_worse_record 2) (quotient_at all_worse_record 3)
unfolding sound_figures
all_worse_quotients =
    let held = holds 2 100 2 ten_day 2056 0 two_judged.6 in
    (quotient_by_sums _ 1 1 held.0, quotient_by_sums _ 1 2 held.1, quotient_by_sums _ 2 1 held.2, quotient_by_sums _ 2 2 held.3)

p1_record_lem : record_of p1 ≡ p1_record
unfolding record_of record_with six_numbers joined over house_verdict least_score scores score_with least_of verdict started_by_31_may_1981 wall_rows first
p1_record_lem = rw (p1_quotients.0, p1_quotients.1)

-- The record of a house of two storeys, by its quotients.
module _ (house : List ℕ) (two-storeys : storeys house ≡ 2) {one two three four : Quotient} where
  by_quotients : ScoredBy house one two three four → record_of house
      ≡ record {
        scores = limited one ∷ limited two ∷ limited three ∷ limited four ∷ 0 ∷ 0 ∷ [];
        count = 4;
        verdict = verdict (least_of (limited one ∷ limited two ∷ limited three ∷ limited four ∷ []));
        started_by_31_may_1981 = started_by_31_may_1981 house;
        hundredths = one.hundredths ∷ two.hundredths ∷ three.hundredths ∷ four.hundredths ∷ 0 ∷ 0 ∷ [];
        remainders = one.remainder ∷ two.remainder ∷ three.remainder ∷ four.remainder ∷ 0 ∷ 0 ∷ [];
        divisors = one.divisor ∷ two.divisor ∷ three.divisor ∷ four.divisor ∷ 0 ∷ 0 ∷ [];
      }
  unfolding record_of record_with six_numbers joined over house_verdict least_score scores score_with
  by_quotients found = rw (two-storeys, found.0, found.1, found.2, found.3)

-- The records of P1 and of the best and the worst of them, and where a record has the score of a storey and direction.
pub worsened_records :
    (record_of p1 ≡ p1_record)
    × (record_of sound ≡ sound_record)
    × (record_of all_worse ≡ all_worse_record)
    × (◌≡◌ {A = List ℕ} (score_at 1 1 ∷ score_at 1 2 ∷ score_at 2 1 ∷ score_at 2 2 ∷ score_at 3 1 ∷ score_at 3 2 ∷ []) (0 ∷ 1 ∷ 2 ∷ 3 ∷ 4 ∷ 5 ∷ []))
unfolding least_of verdict started_by_31_may_1981 wall_rows first
worsened_records = (p1_record_lem, by_quotients sound refl sound_quotients, by_quotients all_worse refl all_worse_quotients, refl)

-- What scoring answers of the worst, as the code gives it.
abbrev pub all_worse_scoring : Scoring
all_worse_scoring =
    Ok (record {
      scores = all_worse_record.scores;
      count = all_worse_record.count;
      verdict = LikelyToCollapse;
      started_by_31_may_1981 = false;
      quotients = map (quotient_at all_worse_record) (0 ∷ 1 ∷ 2 ∷ 3 ∷ 4 ∷ 5 ∷ []);
    })

pub all_worse_scored : told_scoring all_worse_scoring ≡ scoring all_worse
unfolding scoring
all_worse_scored = rw (two_judged.6, worsened_records.2)

-- What scoring answers of a house on which work started on the grant's last day, and a day later; and of P1 with an age, which is refused.
started_judged : Judged (started_on 19810531) × Judged (started_on 19810601) × (judging (set p1 6 2) ≡ refusal 4 1 7)
unfolding p10_judged
started_judged = (refl, refl, refl)

pub grants_last_day_lem :
    ((scoring (started_on 19810531)).result.started_by_31_may_1981 ≡ 1)
    × ((scoring (started_on 19810601)).result.started_by_31_may_1981 ≡ 0)
unfolding scoring record_of record_with started_by_31_may_1981 wall_rows first
grants_last_day_lem = (rw started_judged.0, rw started_judged.1)

pub refused_record : scoring (set p1 6 2) ≡ told_refused 4 1 7
unfolding scoring
refused_record = rw started_judged.2

-- Narrow factors from the ground up, and below a narrow storey what is required of the ground storey and of its end a.
pub narrow_worked_out : worked_narrow ≡ expected_narrow
unfolding sound_figures joined storeys_and_ends
narrow_worked_out = refl
