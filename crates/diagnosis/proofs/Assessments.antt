-- What is worked out for a house: what `score` answers is the quotient that is defined; and the house's record and report are those of its table. Assumes nothing.
use Rattle.std.proofs.Common.{◌≡◌, refl, ◌∙◌, Bool, true, false, cond, Option, Some, None, List, ℕ, zero, suc, ◌+◌, ◌*◌, ◌<◌, ◌≤◌, arith, length, get_or, set, map, leb, ltb}
use native.Mathlib.Nat.{min-le_right}
use Rattle.answer.specs.Told.{counted, refusal, accepts, lent_space_short}
use Rattle.answer.specs.Lists.{joined, over}
use Rattle.survey.specs.Table.{storeys}
use Rattle.survey.specs.Judgement.{judging}
use Rattle.survey.proofs.RefusalNumbers.{judging_accepts}
use Rattle.method.specs.Held.{most_held}
use Rattle.method.specs.Score.{capped_quotient}
use Rattle.method.proofs.Fractions.{Bounded, deterioration_bounded, repair_bounded}
use Rattle.method.proofs.Quotients.{capped_quotient_lem}
use Rattle.diagnosis.specs.Rows.{start_of_work, items_of, repaired, age}
use Rattle.diagnosis.specs.declared.assessment.Assessment.{Assessment}
use Rattle.method.specs.declared.scores.Quotient.{Quotient}
use Rattle.diagnosis.specs.declared.assessment.HouseAssessment.{HouseAssessment}
use Rattle.method.specs.declared.deterioration.Fraction.{Fraction}
use Rattle.diagnosis.specs.declared.held.HeldSums.{HeldSums}
use Rattle.diagnosis.specs.House.{InHouse, held, layout, deterioration, strengths_with, quotient_with, scores, least_score, grants_last_day, started_by_31_may_1981, assessment_with}
use Rattle.diagnosis.specs.Answers.{six_numbers, number_at, record_with}
use Rattle.diagnosis.specs.Report.{result_rows, report_rows, report_lines, report_bytes, reporting, after_reporting}
use Rattle.diagnosis.specs.Premises.{storey_at, direction_at, six, no_assessment, Printable}
use Rattle.diagnosis.specs.Internal.{Assessable, sums_with, held_by, assessment_at, places_of, WorkedOut, record_by, bytes_by, reporting_by, after_reporting_by}
use Rattle.diagnosis.proofs.AcceptedTables.{storeys_few, required_within}
use Rattle.diagnosis.proofs.Sums.{storey_held_most}
use Rattle.diagnosis.proofs.SixPlaces.{six_at, six_set}

-- What `score` answers for strengths that an accepted table's storey may have is the quotient: they are within what it computes with.
pub quotient_is : (table : List ℕ) → (judging table).number ≡ 0 → (storey direction : ℕ) → 1 ≤ storey → storey ≤ storeys table → {held : ℕ} → held ≤ most_held
    → capped_quotient (strengths_with table held storey) (layout table storey direction) (deterioration table) ≡ quotient_with table held storey direction
unfolding quotient_with
quotient_is table h storey direction some most {held} small =
    capped_quotient_lem (strengths_with table held storey) (layout table storey direction) (deterioration table) small (required_within table h some most)

-- The deterioration factor is bounded, and so its lower number is positive.
pub house_factor_bounded : (table : List ℕ) → Bounded (deterioration table)
unfolding deterioration
house_factor_bounded table = repair_bounded _ (repaired table) (deterioration_bounded (items_of table) (age table))

pub lower_some : (table : List ℕ) → 0 < (deterioration table).lower
lower_some table = (house_factor_bounded table).lower_positive

-- What is held, given or by a storey's own walls, is no more than `method` computes with.
pub held_by_most : (table : List ℕ) → (judging table).number ≡ 0 → (given : Option (List ℕ)) (storey direction : ℕ)
    → held_by table given storey direction ≤ most_held
held_by_most table h None storey direction = storey_held_most table h storey direction
held_by_most table h (Some given) storey direction = min-le_right (number_at given storey direction) most_held

-- A storey and direction of an accepted table, by what is held there.
pub assessable : (table : List ℕ) → (judging table).number ≡ 0 → (held : ℕ → ℕ → ℕ) → ((storey direction : ℕ) → held storey direction ≤ most_held)
    → (storey direction : ℕ) {sums : HeldSums} {factor : Fraction} → InHouse table storey direction
    → sums ≡ sums_with table held storey direction → factor ≡ deterioration table → Assessable table storey direction sums factor
assessable table h held small storey direction here sums factor = record {
  in_house = here;
  all_most = rw sums (small storey direction);
  a_is = rw sums refl;
  b_is = rw sums refl;
  factor_is = factor;
}

-- What holds of each number of storeys.
by_storeys : {P : Type 0} (n : ℕ) → n ≤ 3 → (n ≡ 0 → P) → (n ≡ 1 → P) → (n ≡ 2 → P) → (n ≡ 3 → P) → P
by_storeys zero few none one two three = none refl
by_storeys (suc zero) few none one two three = one refl
by_storeys (suc (suc zero)) few none one two three = two refl
by_storeys (suc (suc (suc zero))) few none one two three = three refl
by_storeys (suc (suc (suc (suc n)))) few none one two three = absurd (omega arith)

module _ (table : List ℕ) (h : (judging table).number ≡ 0) where
  few : (at : ℕ) → at < 2 * storeys table → at < 6
  few at inside = omega (arith, storeys_few table h)

  module _ (held : ℕ → ℕ → ℕ) where
    abbrev places : List Assessment
    places = places_of table held (2 * storeys table)

    place_is : (at : ℕ) → at < 2 * storeys table → get_or places at no_assessment ≡ assessment_at table held at
    place_is at inside = six_at no_assessment (assessment_at table held) (2 * storeys table) at inside (few at inside)

    -- What is worked out for a house can be printed.
    pub printable : ((storey direction : ℕ) → held storey direction ≤ most_held) → Printable places (2 * storeys table) (deterioration table)
    printable small = record {
      few = omega (arith, storeys_few table h);
      lower_some = lower_some table;
      held_most = λ at inside. rw (place_is at inside) (small (storey_at at) (direction_at at));
      required_most = λ at inside. rw (place_is at inside) (required_within table h (omega arith) (omega arith));
    }

    -- Six numbers of one kind, by how many storeys there are.
    pub each_is : (kind : Assessment → ℕ) → kind no_assessment ≡ 0
        → map kind places ≡ six_numbers table (λ storey direction. kind (assessment_with table (held storey direction) storey direction))
    unfolding six six_numbers joined over
    each_is kind none =
        by_storeys (storeys table) (storeys_few table h).1 (λ e. simp (e, none)) (λ e. simp (e, none)) (λ e. simp (e, none)) (λ e. simp e)

    each_left_over : (kind : Quotient → ℕ) → kind no_assessment.quotient ≡ 0
        → map kind (map (λ (one : Assessment). one.quotient) places)
        ≡ six_numbers table (λ storey direction. kind (assessment_with table (held storey direction) storey direction).quotient)
    unfolding six
    each_left_over kind none = each_is (λ (one : Assessment). kind one.quotient) none

    -- Its record,
    pub record_is : {found : HouseAssessment} → WorkedOut table held found
        → record_by found (leb (start_of_work table) grants_last_day) ≡ record_with table held
    unfolding record_with started_by_31_may_1981
    record_is w =
        rw (
          w.places,
          w.count,
          w.least,
          each_is (λ (one : Assessment). one.score) refl,
          each_left_over (λ (q : Quotient). q.hundredths) refl,
          each_left_over (λ (q : Quotient). q.remainder) refl,
          each_left_over (λ (q : Quotient). q.divisor) refl,
        )

    -- what is held,
    pub held_is : {found : HouseAssessment} → WorkedOut table held found → map (λ (one : Assessment). one.held) found.places ≡ six_numbers table held
    held_is w = rw w.places (each_is (λ (one : Assessment). one.held) refl)

  -- and its report, which goes by what its own walls hold.
  module _ {found : HouseAssessment} (w : WorkedOut table (held table) found) where
    report_bytes_lem : bytes_by found ≡ report_bytes table
    unfolding six report_bytes report_rows result_rows joined least_score scores
    report_bytes_lem =
        rw (w.places, w.count, w.least, w.factor)
        (by_storeys (storeys table) (storeys_few table h).1 (λ e. simp e) (λ e. simp e) (λ e. simp e) (λ e. simp e))

    pub report_answer : (lent : ℕ) → reporting_by found lent ≡ reporting table lent
    unfolding reporting_by reporting
    report_answer lent = rw (w.count, judging_accepts table h)

    pub report_after : (report : List ℕ) → after_reporting_by found report ≡ after_reporting table report
    unfolding after_reporting_by after_reporting reporting
    report_after report =
        rw (report_bytes_lem, w.count, judging_accepts table h) (go (ltb (length report) (65 * report_lines table)))
      where
        go : (short : Bool) → cond short report (over report (report_bytes table))
            ≡ cond (accepts (cond short (refusal lent_space_short 0 0) (counted (65 * report_lines table)))) (over report (report_bytes table)) report
        go true = refl
        go false = refl

-- Two places more, those of a storey.
pub places_more : (table : List ℕ) (held : ℕ → ℕ → ℕ) (below : ℕ) {places : List Assessment} {x y : Assessment} → below < 3
    → places ≡ places_of table held (2 * below)
    → x ≡ assessment_with table (held (below + 1) 1) (below + 1) 1 → y ≡ assessment_with table (held (below + 1) 2) (below + 1) 2
    → set (set places (2 * below) x) (2 * below + 1) y ≡ places_of table held (2 * (below + 1))
places_more table held below inside so_far one other =
    let at : ℕ = 2 * below in
    let ground : storey_at at ≡ below + 1 = omega arith in
    let above : storey_at (at + 1) ≡ below + 1 = omega arith in
    let along : direction_at at ≡ 1 = omega arith in
    let across : direction_at (at + 1) ≡ 2 = omega arith in
    let all : at + 1 + 1 ≡ 2 * (below + 1) = omega arith in
    let first = six_set no_assessment (assessment_at table held) at (omega arith) so_far (one ∙ rw (ground, along)) in
    rw (← all) (six_set no_assessment (assessment_at table held) (at + 1) (omega arith) first (other ∙ rw (above, across)))
