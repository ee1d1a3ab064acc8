-- The theorems about a house's diagnosis, in the order of document 01. Each is proved where it is cited from; the words of its statement are
-- defined in specs/. Assumes nothing.
use Rattle.std.proofs.Common.{◌≡◌, Result, Ok, true, false, List, [], ◌∷◌, ℕ, ◌+◌, ◌*◌, ◌<◌, ◌≤◌, le_refl, min, arith, length, get_or, set, take, replicate, eqb, refl}
use Rattle.answer.specs.declared.refusal.Refusal.{Refusal}
use Rattle.answer.specs.Told.{told, counted, lent_space_short}
use Rattle.answer.specs.Text.{bytes}
use Rattle.answer.specs.Houses.{p1_sheet, p1}
use Rattle.answer.specs.Lists.{over}
use Rattle.sheet.specs.Sheet.{writing, after_writing}
use Rattle.survey.specs.Table.{cell, storeys}
use Rattle.survey.specs.Judgement.{judging, within}
use Rattle.method.specs.Worked.{worked, expected}
use Rattle.method.specs.Held.{most_held}
use Rattle.diagnosis.specs.Rows.{storey_of, weight, zone, ground_class, marked, repaired, survey_day}
use Rattle.diagnosis.specs.House.{InHouse, held, narrow, required, layout, higher_band, deterioration, score_before, full_score, least_score, house_verdict, scores_with}
use Rattle.diagnosis.specs.Answers.{Scoring, told_scoring, record_of, scoring, score_at, number_at, counted_as, record_with}
use Rattle.diagnosis.specs.Report.{report_rows, report_lines, report_bytes, reporting}
use Rattle.diagnosis.specs.Program.{table_of, diagnosing, after_diagnosing, most_report_bytes, output}
use Rattle.diagnosis.specs.Comparison.{may_differ, NoLower, SameOrWorse, BandKept, NoBetter, Applies}
use Rattle.diagnosis.specs.Worked.{p1_report, p1_record, sound_record, all_worse_record, small_floor, with_parts, repaired_with_parts, with_middle_wall, on_the_ground, p10, storeys_and_ends, by_sides, worked_narrow, expected_narrow, sound, heavy, zone100, soft_ground, over_ten, more_marks, all_worse, started_on, under_snow, snowy_sound, snowy_worse, as_repaired, repaired_sound, repaired_worse, weak_joints, figures, same_bands}
use Rattle.diagnosis.proofs.GivenStrengths as given_strengths
use Rattle.diagnosis.proofs.NarrowStoreys as narrow_storeys
use Rattle.diagnosis.proofs.ScoreLists as score_lists
use Rattle.diagnosis.proofs.RecordNumbers as record_numbers
use Rattle.diagnosis.proofs.ReportNumbers as report_numbers
use Rattle.diagnosis.proofs.Reporting as program
use Rattle.diagnosis.proofs.Comparing as comparing
use Rattle.diagnosis.proofs.Examples as examples
use Rattle.diagnosis.proofs.Pairs as pairs

-- Held strengths that are given

-- What a house's own walls hold has the house's record, and so have given strengths that are the same for the house's storeys; of given strengths none
-- above 60,000 kN counts as another than it is.
pub record_own : (table : List ℕ) (given : ℕ → ℕ → ℕ) → ((storey direction : ℕ) → InHouse table storey direction → given storey direction ≡ held table storey direction)
    → record_with table given ≡ record_of table
record_own table given own = given_strengths.record_own table given own

pub record_counted : (table given : List ℕ) → ((storey direction : ℕ) → InHouse table storey direction → number_at given storey direction ≤ most_held)
    → record_with table (counted_as given) ≡ record_with table (number_at given)
record_counted table given small = given_strengths.record_counted table given small

-- P1's scores by given strengths, document 02's example of request 7, and what strengths up to and above 60,000 kN count as.
pub given_worked :
    let most : List ℕ = 60_000_000_001 ∷ 60_000_000_000 ∷ 0 ∷ 0 ∷ 0 ∷ 5 ∷ [] in
    (scores_with p1 (number_at (4_000_000 ∷ 0 ∷ 7 ∷ 7 ∷ 7 ∷ 7 ∷ [])) ≡ 20 ∷ 0 ∷ [])
    × (counted_as most 1 1 ∷ counted_as most 1 2 ∷ counted_as most 3 2 ∷ [] ≡ 60_000_000_000 ∷ 60_000_000_000 ∷ 5 ∷ [])
given_worked = (examples.given_scores, examples.given_most)

-- The theorems used, of P1 and its own strengths.
pub p1_record_own : record_with p1 (held p1) ≡ record_of p1
p1_record_own = record_own p1 (held p1) (λ storey direction here. refl)

pub p1_record_counted : record_with p1 (counted_as (4_000_000 ∷ 0 ∷ 7 ∷ 7 ∷ 7 ∷ 7 ∷ [])) ≡ record_with p1 (number_at (4_000_000 ∷ 0 ∷ 7 ∷ 7 ∷ 7 ∷ 7 ∷ []))
p1_record_counted = record_counted p1 (4_000_000 ∷ 0 ∷ 7 ∷ 7 ∷ 7 ∷ 7 ∷ []) (λ storey direction here. examples.given_small storey direction here)

-- Required strength

-- Of a house, which has at most three storeys: "if a storey's short side is under 4,000 mm, every storey below it takes 113, once, however many are
-- narrow above" (document 02, request 6); and a storey with none such above it takes 100, as before.
pub narrow_above : (table : List ℕ) → storeys table ≤ 3 → (storey : ℕ) → 1 ≤ storey
    → ((above : ℕ) → storey < above → above ≤ storeys table → (storey_of table above).side < 4000 → narrow table storey ≡ 113)
    × (((above : ℕ) → storey < above → above ≤ storeys table → 4000 ≤ (storey_of table above).side) → narrow table storey ≡ 100)
narrow_above table few storey some = (narrow_storeys.below_narrow table few storey some, narrow_storeys.below_wide table few storey some)

-- The factors of seven houses; and, below a narrow storey, what is required of a ground storey and of an end of one storey.
pub narrow_worked_out : worked_narrow ≡ expected_narrow
narrow_worked_out = examples.narrow_worked_out

-- The theorem used: of two storeys, the ground one below a narrow one; of three, the ground and the middle one below a narrow top storey, the ground one
-- below a narrow middle storey, and the middle one, which is narrow itself, below a top storey of just 4,000 mm; and of one that is narrow.
pub narrow_used :
    (narrow (by_sides (5000 ∷ 3999 ∷ [])) 1 ≡ 113)
    × (narrow (by_sides (5000 ∷ 5000 ∷ 3999 ∷ [])) 1 ≡ 113)
    × (narrow (by_sides (5000 ∷ 5000 ∷ 3999 ∷ [])) 2 ≡ 113)
    × (narrow (by_sides (5000 ∷ 3999 ∷ 5000 ∷ [])) 1 ≡ 113)
    × (narrow (by_sides (5000 ∷ 3999 ∷ 4000 ∷ [])) 2 ≡ 100)
    × (narrow (by_sides (3999 ∷ [])) 1 ≡ 100)
unfolding storeys_and_ends
narrow_used = (
  (narrow_above (by_sides (5000 ∷ 3999 ∷ [])) (omega arith) 1 (omega arith)).0 2 (omega arith) (omega arith) (omega arith),
  (narrow_above (by_sides (5000 ∷ 5000 ∷ 3999 ∷ [])) (omega arith) 1 (omega arith)).0 3 (omega arith) (omega arith) (omega arith),
  (narrow_above (by_sides (5000 ∷ 5000 ∷ 3999 ∷ [])) (omega arith) 2 (omega arith)).0 3 (omega arith) (omega arith) (omega arith),
  (narrow_above (by_sides (5000 ∷ 3999 ∷ 5000 ∷ [])) (omega arith) 1 (omega arith)).0 2 (omega arith) (omega arith) (omega arith),
  (narrow_above (by_sides (5000 ∷ 3999 ∷ 4000 ∷ [])) (omega arith) 2 (omega arith)).1 (λ above higher last.
      let top : above ≡ 3 = omega (arith, higher, last) in
      rw top (le_refl 4000)),
  (narrow_above (by_sides (3999 ∷ [])) (omega arith) 1 (omega arith)).1 (λ above higher last. omega (arith, higher, last)),
)

-- Demand 2: the scores and the record

-- The least score is at most each score of a house, and is one of them.
pub least_score_most : (table : List ℕ) (storey direction : ℕ) → InHouse table storey direction → least_score table ≤ full_score table storey direction
least_score_most = score_lists.least_score_most

pub least_score_one : (table : List ℕ) → (judging table).number ≡ 0
    → (storey : ℕ) × (direction : ℕ) × InHouse table storey direction × (least_score table ≡ full_score table storey direction)
least_score_one = score_lists.least_score_one

-- A house's record has each score in its place.
pub record_score : (table : List ℕ) (storey direction : ℕ) → InHouse table storey direction
    → get_or (record_of table).scores (score_at storey direction) 0 ≡ full_score table storey direction
record_score = score_lists.record_score

-- "the record gives beside each score, the whole hundredths, the remainder and the divisor, such that hundredths × divisor + remainder is the dividend,
-- 1,000 × held × layout × the upper number of the deterioration fraction, and the remainder is smaller than the divisor. The divisor is the required
-- strength times the lower number of the deterioration fraction .. All three are before the limit of 999" (document 02, request 4): so it is in the
-- record of any scoring of a table that is not refused.
pub record_divided : (table : List ℕ) → (judging table).number ≡ 0 → (storey direction : ℕ) → InHouse table storey direction
    → (a : Scoring) → told_scoring a ≡ scoring table
    → let place : List ℕ → ℕ = λ numbers. get_or numbers (score_at storey direction) 0 in
    (place (told_scoring a).result.hundredths * place (told_scoring a).result.divisors + place (told_scoring a).result.remainders
    ≡ 1000 * held table storey direction * layout table storey direction * (deterioration table).upper)
    × (place (told_scoring a).result.remainders < place (told_scoring a).result.divisors)
    × (place (told_scoring a).result.divisors ≡ required table storey * (deterioration table).lower)
    × (place (told_scoring a).result.scores ≡ min (place (told_scoring a).result.hundredths) 999)
record_divided = record_numbers.record_divided

-- Score, hundredths, remainder and divisor in X and in Y: of P1; with a small floor, where they are above the limit; without marks, at 99 and at 100;
-- of 14 of 20 points, where the divisor keeps 20; and of 16 of 24, which is under 7/10.
pub left_over :
    (on_the_ground p1 ≡ (47 ∷ 47 ∷ 352_000_000_000 ∷ 384_000_000_000 ∷ []) ∷ (83 ∷ 83 ∷ 128_000_000_000 ∷ 384_000_000_000 ∷ []) ∷ [])
    × (on_the_ground small_floor ≡ (999 ∷ 4791 ∷ 2_560_000_000 ∷ 3_840_000_000 ∷ []) ∷ (999 ∷ 8333 ∷ 1_280_000_000 ∷ 3_840_000_000 ∷ []) ∷ [])
    × (on_the_ground (with_middle_wall 3999) ≡ (57 ∷ 57 ∷ 8_000_000_000 ∷ 16_000_000_000 ∷ []) ∷ (99 ∷ 99 ∷ 15_800_000_000 ∷ 16_000_000_000 ∷ []) ∷ [])
    × (on_the_ground (with_middle_wall 4000) ≡ (57 ∷ 57 ∷ 8_000_000_000 ∷ 16_000_000_000 ∷ []) ∷ (100 ∷ 100 ∷ 0 ∷ 16_000_000_000 ∷ []) ∷ [])
    × (on_the_ground (with_parts 5919 7) ≡ (40 ∷ 40 ∷ 80_000_000_000 ∷ 320_000_000_000 ∷ []) ∷ (70 ∷ 70 ∷ 0 ∷ 320_000_000_000 ∷ []) ∷ [])
    × (on_the_ground (with_parts 8191 11) ≡ (40 ∷ 40 ∷ 40_000_000_000 ∷ 160_000_000_000 ∷ []) ∷ (70 ∷ 70 ∷ 0 ∷ 160_000_000_000 ∷ []) ∷ [])
left_over = examples.left_over

-- The same of a repaired house: without marks it has 9/10; of 18 of 20 points, which is 9/10, the divisor keeps 20; and P1's 20/24 stays.
pub repaired_left_over :
    (on_the_ground (repaired_with_parts 8191 0) ≡ (51 ∷ 51 ∷ 120_000_000_000 ∷ 160_000_000_000 ∷ []) ∷ (90 ∷ 90 ∷ 0 ∷ 160_000_000_000 ∷ []) ∷ [])
    × (on_the_ground (repaired_with_parts 1919 1) ≡ (51 ∷ 51 ∷ 240_000_000_000 ∷ 320_000_000_000 ∷ []) ∷ (90 ∷ 90 ∷ 0 ∷ 320_000_000_000 ∷ []) ∷ [])
    × (on_the_ground (repaired_with_parts 8191 8) ≡ on_the_ground p1)
repaired_left_over = examples.repaired_left_over

-- A table is scored just where the refusal's number is 0, so a host can tell by the number.
pub scored_by_number : (table : List ℕ) → (scoring table).scored ≡ eqb (scoring table).number 0
scored_by_number = score_lists.scored_by_number

-- What is told of a report, of a table's or of a sheet's, is a count just where the number is 0.
pub reporting_by_number : (table : List ℕ) (lent : ℕ) → (reporting table lent).is_count ≡ eqb (reporting table lent).number 0
reporting_by_number = program.reporting_by_number

pub diagnosing_by_number : (sheet : List ℕ) (lent : ℕ) → (diagnosing sheet lent).is_count ≡ eqb (diagnosing sheet lent).number 0
diagnosing_by_number = program.diagnosing_by_number

-- Demand 3

-- A house made worse is no better: one claim over all pairs.
pub comparison : (A B : List ℕ) → SameOrWorse A B → NoBetter A B
comparison = comparing.comparison

-- The same with nothing left to a record: the premises are document 01's one by one, with the survey day in the age's place, and the conclusions
-- those of demand 3.
pub comparison_in_full : (A B : List ℕ)
    → (judging A).number ≡ 0 → (judging B).number ≡ 0 → length A ≡ length B
    → ((row column : ℕ) → column < 8 → may_differ A row column ≡ false → cell A row column ≡ cell B row column)
    → weight A ≤ weight B → zone A ≤ zone B → ground_class A ≤ ground_class B → survey_day A ≤ survey_day B → within (marked A) (marked B) ≡ true
    → ((storey direction : ℕ) → 1 ≤ storey → storey ≤ storeys A → 1 ≤ direction → direction ≤ 2
    → (score_before B storey direction ≤ score_before A storey direction)
    × (higher_band B storey direction ≡ higher_band A storey direction → full_score B storey direction ≤ full_score A storey direction)
    × ((a b : Scoring) → told_scoring a ≡ scoring A → told_scoring b ≡ scoring B → higher_band B storey direction ≡ higher_band A storey direction
    → get_or (told_scoring b).result.scores (score_at storey direction) 0 ≤ get_or (told_scoring a).result.scores (score_at storey direction) 0))
    × (((storey direction : ℕ) → 1 ≤ storey → storey ≤ storeys A → 1 ≤ direction → direction ≤ 2
    → higher_band B storey direction ≡ higher_band A storey direction)
    → (house_verdict A ≤ house_verdict B)
    × ((a b : Scoring) → told_scoring a ≡ scoring A → told_scoring b ≡ scoring B → (told_scoring a).result.verdict ≤ (told_scoring b).result.verdict))
comparison_in_full A B A_accepted B_accepted rows same heavier higher softer later marks =
    let no_lower : NoLower A B = record { heavier = heavier; higher = higher; softer = softer; later = later } in
    let worse : SameOrWorse A B = record { A_accepted = A_accepted; B_accepted = B_accepted; rows = rows; same = same; no_lower = no_lower; marks = marks } in
    let no_better = comparison A B worse in (
      (λ storey direction some last one two.
          let s : InHouse A storey direction = record { some_storey = some; last_storey = last; some_direction = one; last_direction = two } in (
            no_better.before storey direction s,
            no_better.full storey direction s,
            λ a b ea eb kept. no_better.record_full a b ea eb storey direction s kept,
          )),
      (λ kept.
          let all : (storey direction : ℕ) → InHouse A storey direction → BandKept A B storey direction =
          λ storey direction s. kept storey direction s.some_storey s.last_storey s.some_direction s.last_direction in
          (no_better.verdict all, λ a b ea eb. no_better.record_verdict a b ea eb all)),
    )

-- Pairs to which all of it applies. In each of the first five B is worse in one number alone; in the last in all of them.
pub worsened :
    Applies sound heavy × Applies sound zone100 × Applies sound soft_ground × Applies sound over_ten × Applies sound more_marks × Applies sound all_worse
worsened = pairs.worsened

-- Their scores fall, with the layout factor and before it, and their better ends keep their bands.
pub worsened_figures :
    (figures sound ≡ (131 ∷ 200 ∷ 350 ∷ 250 ∷ []) ∷ (188 ∷ 200 ∷ 350 ∷ 250 ∷ []) ∷ same_bands ∷ [])
    × (figures heavy ≡ (103 ∷ 157 ∷ 244 ∷ 174 ∷ []) ∷ (147 ∷ 157 ∷ 244 ∷ 174 ∷ []) ∷ same_bands ∷ [])
    × (figures zone100 ≡ (118 ∷ 180 ∷ 315 ∷ 225 ∷ []) ∷ (169 ∷ 180 ∷ 315 ∷ 225 ∷ []) ∷ same_bands ∷ [])
    × (figures soft_ground ≡ (87 ∷ 133 ∷ 233 ∷ 166 ∷ []) ∷ (125 ∷ 133 ∷ 233 ∷ 166 ∷ []) ∷ same_bands ∷ [])
    × (figures over_ten ≡ (126 ∷ 192 ∷ 335 ∷ 239 ∷ []) ∷ (180 ∷ 192 ∷ 335 ∷ 239 ∷ []) ∷ same_bands ∷ [])
    × (figures more_marks ≡ (104 ∷ 158 ∷ 277 ∷ 198 ∷ []) ∷ (149 ∷ 158 ∷ 277 ∷ 198 ∷ []) ∷ same_bands ∷ [])
    × (figures all_worse ≡ (38 ∷ 74 ∷ 116 ∷ 82 ∷ []) ∷ (70 ∷ 74 ∷ 116 ∷ 82 ∷ []) ∷ same_bands ∷ [])
worsened_figures = (
  examples.sound_figures,
  examples.heavy_figures,
  examples.zone_figures,
  examples.soft_ground_figures,
  examples.over_ten_figures,
  examples.more_marks_figures,
  examples.all_worse_figures,
)

-- The verdict goes from 2 to 4, as the theorem says that it gets no better. The first record is P1's, on which work started by 31 May 1981. These are
-- the places of a record.
pub worsened_records :
    (record_of p1 ≡ p1_record)
    × (record_of sound ≡ sound_record)
    × (record_of all_worse ≡ all_worse_record)
    × (◌≡◌ {A = List ℕ} (score_at 1 1 ∷ score_at 1 2 ∷ score_at 2 1 ∷ score_at 2 2 ∷ score_at 3 1 ∷ score_at 3 2 ∷ []) (0 ∷ 1 ∷ 2 ∷ 3 ∷ 4 ∷ 5 ∷ []))
worsened_records = examples.worsened_records

-- By the theorem on records, of the worst on the ground in X: 38 × 1,526,400,000,000 + 778,050,000,000 is what was divided.
pub all_worse_divided :
    (38 * 1_526_400_000_000 + 778_050_000_000 ≡ 1000 * held all_worse 1 1 * layout all_worse 1 1 * (deterioration all_worse).upper)
    × (778_050_000_000 < 1_526_400_000_000)
    × (1_526_400_000_000 ≡ required all_worse 1 * (deterioration all_worse).lower)
    × (38 ≡ min 38 999)
all_worse_divided =
    let here : InHouse all_worse 1 1 = record { some_storey = omega arith; last_storey = omega arith; some_direction = omega arith; last_direction = omega arith } in
    record_divided all_worse worsened.5.worse.B_accepted 1 1 here examples.all_worse_scoring examples.all_worse_scored

-- The record of a house on which work started on the grant's last day says so, and a day later it does not.
pub grants_last_day_lem :
    ((scoring (started_on 19810531)).result.started_by_31_may_1981 ≡ 1)
    × ((scoring (started_on 19810601)).result.started_by_31_may_1981 ≡ 0)
grants_last_day_lem = examples.grants_last_day_lem

-- P1 with age 2 is refused, and its record is all 0, though work on it started by that day.
pub refused_record :
    scoring (set p1 6 2)
    ≡ record {
      scored = false;
      number = 4;
      row = 1;
      column = 7;
      result = record {
        scores = 0 ∷ 0 ∷ 0 ∷ 0 ∷ 0 ∷ 0 ∷ [];
        count = 0;
        verdict = 0;
        started_by_31_may_1981 = 0;
        hundredths = 0 ∷ 0 ∷ 0 ∷ 0 ∷ 0 ∷ 0 ∷ [];
        remainders = 0 ∷ 0 ∷ 0 ∷ 0 ∷ 0 ∷ 0 ∷ [];
        divisors = 0 ∷ 0 ∷ 0 ∷ 0 ∷ 0 ∷ 0 ∷ [];
      };
    }
refused_record = examples.refused_record

pub worsened_verdict : house_verdict sound ≤ house_verdict all_worse
worsened_verdict = (comparison sound all_worse worsened.5.worse).verdict worsened.5.kept

-- By the theorem in full, the house surveyed a day later scores no more on the ground in X, before the layout factor and with it, and its verdict is
-- no better.
pub later_day :
    (score_before over_ten 1 1 ≤ score_before sound 1 1) × (full_score over_ten 1 1 ≤ full_score sound 1 1) × (house_verdict sound ≤ house_verdict over_ten)
later_day =
    let worse = worsened.3.worse in
    let no_lower = worse.no_lower in
    let no_better =
    comparison_in_full sound over_ten worse.A_accepted worse.B_accepted worse.rows worse.same
    no_lower.heavier no_lower.higher no_lower.softer no_lower.later worse.marks in
    let kept : (storey direction : ℕ) → 1 ≤ storey → storey ≤ storeys sound → 1 ≤ direction → direction ≤ 2
    → higher_band over_ten storey direction ≡ higher_band sound storey direction =
    λ storey direction some last one two.
    worsened.3.kept storey direction (record { some_storey = some; last_storey = last; some_direction = one; last_direction = two }) in
    let here = no_better.0 1 1 (omega arith) (omega arith) (omega arith) (omega arith) in
    (here.0, here.1 (kept 1 1 (omega arith) (omega arith) (omega arith) (omega arith)), (no_better.1 kept).0)

-- A pair under 1 m of snow to which all of it applies, worse in all five. Its scores fall, too, and the better ends keep their bands.
pub snowy_worsened : Applies snowy_sound snowy_worse
snowy_worsened = pairs.snowy_worsened

pub snowy_figures :
    (figures snowy_sound ≡ (78 ∷ 152 ∷ 205 ∷ 146 ∷ []) ∷ (143 ∷ 152 ∷ 205 ∷ 146 ∷ []) ∷ same_bands ∷ [])
    × (figures snowy_worse ≡ (30 ∷ 59 ∷ 77 ∷ 55 ∷ []) ∷ (56 ∷ 59 ∷ 77 ∷ 55 ∷ []) ∷ same_bands ∷ [])
snowy_figures = examples.snowy_figures

pub snowy_verdict : house_verdict snowy_sound ≤ house_verdict snowy_worse
snowy_verdict = (comparison snowy_sound snowy_worse snowy_worsened.worse).verdict snowy_worsened.kept

-- And by the theorem the worse one's score before the layout factor is no higher under 2 m and 2.5 m either.
pub deeper_before :
    (score_before (under_snow 2 all_worse) 1 1 ≤ score_before (under_snow 2 sound) 1 1)
    × (score_before (under_snow 3 all_worse) 1 1 ≤ score_before (under_snow 3 sound) 1 1)
deeper_before =
    let here : (table : List ℕ) → 1 ≤ storeys table → InHouse table 1 1 =
    λ table some. record { some_storey = omega arith; last_storey = some; some_direction = omega arith; last_direction = omega arith } in (
      (comparison (under_snow 2 sound) (under_snow 2 all_worse) (pairs.snowy_worse_lem).1).before 1 1 (here (under_snow 2 sound) (omega arith)),
      (comparison (under_snow 3 sound) (under_snow 3 all_worse) (pairs.snowy_worse_lem).2).before 1 1 (here (under_snow 3 sound) (omega arith)),
    )

-- The snow has to be the same: a house without snow and the same under 1 m. Its scores rise from 60 to 62 on the ground, where its better ends stay in
-- band C, and from 47 to 75 above, where they rise from B to D.
pub weak_joints_figures :
    (figures weak_joints ≡ (60 ∷ 60 ∷ 47 ∷ 47 ∷ []) ∷ (60 ∷ 60 ∷ 47 ∷ 47 ∷ []) ∷ (2 ∷ 2 ∷ 1 ∷ 1 ∷ []) ∷ [])
    × (figures (under_snow 1 weak_joints) ≡ (62 ∷ 62 ∷ 75 ∷ 75 ∷ []) ∷ (62 ∷ 62 ∷ 75 ∷ 75 ∷ []) ∷ (2 ∷ 2 ∷ 3 ∷ 3 ∷ []) ∷ [])
weak_joints_figures = examples.weak_joints_figures

-- So under deeper snow neither the score before the layout factor nor, with the better end in its band, the full score is always at most what it was.
pub same_snow_needed :
    (((table : List ℕ) (less more : ℕ) → less ≤ more → (judging (under_snow less table)).number ≡ 0 → (judging (under_snow more table)).number ≡ 0
    → (storey direction : ℕ) → InHouse (under_snow less table) storey direction
    → score_before (under_snow more table) storey direction ≤ score_before (under_snow less table) storey direction) → ⊥)
    × (((table : List ℕ) (less more : ℕ) → less ≤ more → (judging (under_snow less table)).number ≡ 0 → (judging (under_snow more table)).number ≡ 0
    → (storey direction : ℕ) → InHouse (under_snow less table) storey direction → BandKept (under_snow less table) (under_snow more table) storey direction
    → full_score (under_snow more table) storey direction ≤ full_score (under_snow less table) storey direction) → ⊥)
same_snow_needed = pairs.same_snow_needed

-- "A repaired house compares with another only if both are marked repaired" (document 02, request 5).
pub both_repaired : (A B : List ℕ) → SameOrWorse A B → repaired A ≡ repaired B
both_repaired = comparing.repaired_same

-- A pair of repaired houses to which all of it applies, worse in all five: 9/10 becomes 19/24.
pub repaired_worsened : Applies repaired_sound repaired_worse
repaired_worsened = pairs.repaired_worsened

pub repaired_figures :
    (figures repaired_sound ≡ (118 ∷ 180 ∷ 315 ∷ 225 ∷ []) ∷ (169 ∷ 180 ∷ 315 ∷ 225 ∷ []) ∷ same_bands ∷ [])
    × (figures repaired_worse ≡ (38 ∷ 74 ∷ 116 ∷ 82 ∷ []) ∷ (70 ∷ 74 ∷ 116 ∷ 82 ∷ []) ∷ same_bands ∷ [])
repaired_figures = examples.repaired_figures

pub repaired_verdict : house_verdict repaired_sound ≤ house_verdict repaired_worse
repaired_verdict = (comparison repaired_sound repaired_worse repaired_worsened.worse).verdict repaired_worsened.kept

-- Where A is repaired and B is not it is false: of the sound house repaired, and then not, 118 becomes 131, with the better end in its band. So neither
-- the score before the layout factor nor, with the better end in its band, the full score is always at most what it was.
pub same_repair_needed :
    (((table : List ℕ) → (judging (as_repaired 1 table)).number ≡ 0 → (judging (as_repaired 0 table)).number ≡ 0
    → (storey direction : ℕ) → InHouse (as_repaired 1 table) storey direction
    → score_before (as_repaired 0 table) storey direction ≤ score_before (as_repaired 1 table) storey direction) → ⊥)
    × (((table : List ℕ) → (judging (as_repaired 1 table)).number ≡ 0 → (judging (as_repaired 0 table)).number ≡ 0
    → (storey direction : ℕ) → InHouse (as_repaired 1 table) storey direction → BandKept (as_repaired 1 table) (as_repaired 0 table) storey direction
    → full_score (as_repaired 0 table) storey direction ≤ full_score (as_repaired 1 table) storey direction) → ⊥)
same_repair_needed = pairs.same_repair_needed

-- Without the premise on bands it is false: P10's house in zone 100 is the one in zone 90 made worse, and its score rises from 11 to 14.
pub p10_worse : SameOrWorse (p10 90) (p10 100)
p10_worse = pairs.p10_worse

pub bands_needed : ((A B : List ℕ) → SameOrWorse A B → (storey direction : ℕ) → InHouse A storey direction → full_score B storey direction ≤ full_score A storey direction)
    → ⊥
bands_needed = pairs.bands_needed

-- Demands 1 and 2: the report, and the whole program

-- No number of a report is too large for its field, so the report is the sheet that is written of its rows.
pub report_fits : (table : List ℕ) → (judging table).number ≡ 0 → (i : ℕ) → get_or (report_rows table) i 0 ≤ 99_999_999
report_fits = report_numbers.report_fits

pub report_is_sheet : (table : List ℕ) → (judging table).number ≡ 0 → (lent : List ℕ) → 65 * report_lines table ≤ length lent
    → (counted (65 * report_lines table) ≡ writing (report_rows table) (length lent))
    × (over lent (report_bytes table) ≡ after_writing (report_rows table) lent)
report_is_sheet = report_numbers.report_is_sheet

-- 9 is told only where the report needs more bytes than were lent, and no report needs more than 455.
pub short_only : (sheet : List ℕ) (lent : ℕ) → (diagnosing sheet lent).number ≡ lent_space_short
    → (lent < 65 * report_lines (table_of sheet)) × (65 * report_lines (table_of sheet) ≤ most_report_bytes)
short_only = program.short_only

-- No more bytes are counted than were lent.
pub diagnosed_within : (sheet : List ℕ) (lent : ℕ) (answer : Result ℕ Refusal) (count : ℕ) → told answer ≡ diagnosing sheet lent → answer ≡ Ok count → count ≤ lent
diagnosed_within sheet lent answer count diagnosed e = (program.diagnosed_count sheet lent diagnosed e).2

-- The program never prints 9, and never more than the longest report.
pub output_never_short : (sheet : List ℕ) → (diagnosing sheet most_report_bytes).number ≡ lent_space_short → ⊥
output_never_short sheet e = omega (arith, program.short_only sheet most_report_bytes e)

pub output_most : (sheet : List ℕ) → length (output sheet) ≤ most_report_bytes
output_most = program.output_most

-- P1's first line alone ends early: the one line of its refusal, 3 at row 2, column 1, is printed.
pub refused_output : output (take 65 p1_sheet) ≡ bytes "       0       3       2       1       0       0       0       0\n"
refused_output = examples.refused_output

-- Document 01, "Houses worked through", those lettered P: P1 from its sheet to what is printed, with the count of its bytes; P2 to P9, P11 and
-- more without a table; P10 in zones 90 and 100, before the layout factor, with it, and the higher band in X, which falls from B to A.
pub houses_worked_out :
    (
    ((diagnosing p1_sheet 195).count ∷ [])
    ∷ after_diagnosing p1_sheet (replicate 195 0)
    ∷ output p1_sheet
    ∷ worked
    ∷ (score_before (p10 90) 1 1 ∷ full_score (p10 90) 1 1 ∷ higher_band (p10 90) 1 1 ∷ [])
    ∷ (score_before (p10 100) 1 1 ∷ full_score (p10 100) 1 1 ∷ higher_band (p10 100) 1 1 ∷ [])
    ∷ []
    )
    ≡ ((195 ∷ []) ∷ p1_report ∷ p1_report ∷ expected ∷ (16 ∷ 11 ∷ 1 ∷ []) ∷ (14 ∷ 14 ∷ 0 ∷ []) ∷ [])
houses_worked_out = examples.houses_worked_out
