-- Demand 3: a house made worse scores no better. Assumes nothing.
use Rattle.std.proofs.Common.{◌≡◌, refl, sym, ap, ◌∙◌, false, ◌&&◌, List, ℕ, ◌+◌, ◌*◌, ◌/◌, ◌%◌, ◌<◌, ◌≤◌, le_refl, le_of_eq, arith, eqb, bit_and, get_or, ne_eqb, eqb-true}
use mathlib.Core.Path.{fun_ext}
use mathlib.Core.Bool.{and-false}
use Rattle.calendar.proofs.Theorems.{later_no_younger}
use Rattle.survey.specs.Table.{cell, storeys, ends_row, parts_row, dates_row}
use Rattle.survey.specs.Judgement.{within}
use Rattle.survey.specs.Walls.{storey_walls}
use Rattle.survey.specs.Acceptance.{Accepted}
use Rattle.survey.proofs.Acceptance.{accepted}
use Rattle.survey.proofs.AlikeTables.{parts_row_alike, walls_alike}
use Rattle.method.specs.declared.rows.HousePart.{HousePart}
use Rattle.method.specs.LayoutFactor.{NoStronger, floor_type}
use Rattle.method.specs.Deterioration.{◌at_most◌}
use Rattle.method.specs.Score.{score}
use Rattle.method.proofs.Shares as shares
use Rattle.method.proofs.Requirements.{required_rises}
use Rattle.method.proofs.Fractions.{deterioration_falls, repair_falls}
use Rattle.method.proofs.Comparisons.{score_before_falls, full_score_falls, verdict_rises}
use Rattle.diagnosis.specs.Rows.{foundation, snow, house_of, storey_of, end_a, end_b, wall_of, present, marked, items_of, repaired, completion, survey_day, age}
use Rattle.diagnosis.specs.House.{InHouse, share, held, end_held, narrow, required_of, required, end_required, end_strengths, end_band, higher_band, storey_floor_type, layout, deterioration, strengths_with, score_before, score_with, quotient_with, full_score, scores, least_score, house_verdict}
use Rattle.diagnosis.specs.Comparison.{house_may_differ, parts_may_differ, dates_may_differ, may_differ, SameOrWorse, BandKept, NoBetter}
use Rattle.diagnosis.proofs.ScoreLists.{scores_length, score_at_lem, record_score, record_verdict, record_told, least_falls, in_house_at}
use Rattle.diagnosis.proofs.AcceptedTables.{required_some}
use Rattle.diagnosis.proofs.NarrowStoreys.{factor_same}
use Rattle.diagnosis.proofs.Assessments.{lower_some}

module _ (A B : List ℕ) (w : SameOrWorse A B) where
  a : Accepted A
  a = accepted A w.A_accepted

  b : Accepted B
  b = accepted B w.B_accepted

  -- What is the same in both: every column that may differ in no row,
  column_same : (row column : ℕ) → column < 8 → house_may_differ column ≡ false → parts_may_differ column ≡ false → dates_may_differ column ≡ false
      → cell A row column ≡ cell B row column
  unfolding may_differ
  column_same row column inside house parts dates =
      w.same row column inside (rw (house, parts, dates, and-false (eqb row 0), and-false (eqb row (parts_row A)), and-false (eqb row (dates_row A))))

  -- every column of a row below the house's that may not differ there, be it the parts row, the dates row or another,
  below_same : (row column : ℕ) → (row ≡ 0 → ⊥) → (eqb row (parts_row A) && parts_may_differ column) ≡ false
      → (eqb row (dates_row A) && dates_may_differ column) ≡ false → column < 8 → cell A row column ≡ cell B row column
  unfolding may_differ
  below_same row column house parts dates inside = w.same row column inside (rw (ne_eqb row 0 house, parts, dates))

  -- and so all columns of a row that is neither the house nor the parts nor the dates.
  row_same : (row column : ℕ) → (row ≡ 0 → ⊥) → (row ≡ parts_row A → ⊥) → (row ≡ dates_row A → ⊥) → column < 8 → cell A row column ≡ cell B row column
  row_same row column house parts dates inside =
      below_same row column house (rw (ne_eqb row (parts_row A) parts)) (rw (ne_eqb row (dates_row A) dates)) inside

  kinds_same : (row : ℕ) → cell A row 0 ≡ cell B row 0
  kinds_same row = column_same row 0 (omega arith) refl refl refl

  numbers_same : (row : ℕ) → cell A row 1 ≡ cell B row 1
  numbers_same row = column_same row 1 (omega arith) refl refl refl

  storeys_same : storeys A ≡ storeys B
  storeys_same = numbers_same 0

  foundation_same : foundation A ≡ foundation B
  foundation_same = column_same 0 5 (omega arith) refl refl refl

  -- "two compared houses have the same snow" (document 02, request 1): it is not among the columns that may differ.
  snow_same : snow A ≡ snow B
  snow_same = column_same 0 7 (omega arith) refl refl refl

  parts_row_same : parts_row A ≡ parts_row B
  parts_row_same = parts_row_alike A B w.rows kinds_same numbers_same

  present_same : present A ≡ present B
  present_same = numbers_same (parts_row A) ∙ ap (λ (row : ℕ). cell B row 1) parts_row_same

  -- "only if both are marked repaired" (document 02, request 5): it is not among the columns that may differ.
  pub repaired_same : repaired A ≡ repaired B
  repaired_same =
      below_same (parts_row A) 3 (λ e. omega arith) (and-false (eqb (parts_row A) (parts_row A)))
      (rw (ne_eqb (parts_row A) (dates_row A) (λ e. omega arith))) (omega arith)
      ∙ ap (λ (row : ℕ). cell B row 3) parts_row_same

  completion_same : completion A ≡ completion B
  completion_same =
      below_same (dates_row A) 2 (λ e. omega arith) (rw (ne_eqb (dates_row A) (parts_row A) (λ e. omega arith)))
      (and-false (eqb (dates_row A) (dates_row A))) (omega arith)
      ∙ ap (λ (row : ℕ). cell B (row + 1) 2) parts_row_same

  -- The house is no younger on a later survey day.
  age_rises : age A ≤ age B
  age_rises = rw completion_same (later_no_younger (completion B) (survey_day A) (survey_day B) w.no_lower.later)

  -- A wall is neither the house nor the parts nor the dates.
  wall_same : (row column : ℕ) → cell A row 0 ≡ 4 → column < 8 → cell A row column ≡ cell B row column
  wall_same row column wall inside =
      row_same row column
      (λ e. omega (arith, a.house_inside 0 (omega arith), rw e at wall))
      (λ e. omega (arith, a.parts_inside 0 (omega arith), rw e at wall))
      (λ e. omega (arith, a.dates_inside 0 (omega arith), rw e at wall)) inside

  walls_same : (storey : ℕ) → storey_walls A storey ≡ storey_walls B storey
  walls_same storey = walls_alike A B w.rows kinds_same numbers_same w.A_accepted w.B_accepted wall_same storey

  -- So a storey holds the same, and so do its ends.
  share_same : (storey : ℕ) (walls : List ℕ) → share (house_of A) storey walls ≡ share (house_of B) storey walls
  share_same storey walls = fun_ext (λ row. shares.share_same (house_of A) (house_of B) storeys_same foundation_same snow_same storey (wall_of walls row))

  held_same : (storey direction : ℕ) → held A storey direction ≡ held B storey direction
  unfolding held
  held_same storey direction = rw (walls_same storey, share_same storey (storey_walls B storey))

  end_held_same : (storey direction end : ℕ) → end_held A storey direction end ≡ end_held B storey direction end
  unfolding end_held
  end_held_same storey direction end = rw (walls_same storey, share_same storey (storey_walls B storey))

  -- The deterioration factor is no higher.
  worn : deterioration B at_most deterioration A
  unfolding deterioration within
  worn =
      let old = deterioration_falls (items_of A) (items_of B) present_same (eqb-true (bit_and (marked A) (marked B)) (marked A) w.marks) age_rises in
      rw repaired_same (repair_falls _ _ (repaired B) old)

  -- A storey is neither the house nor the parts nor the dates.
  module _ (storey : ℕ) (some : 1 ≤ storey) (last : storey ≤ storeys A) where
    storey_same : (column : ℕ) → column < 8 → cell A storey column ≡ cell B storey column
    storey_same column inside = row_same storey column (λ e. omega arith) (λ e. omega arith) (λ e. omega arith) inside

    storey_row_same : storey_of A storey ≡ storey_of B storey
    storey_row_same =
        rw (storey_same 2 (omega arith), storey_same 3 (omega arith), storey_same 4 (omega arith), storey_same 5 (omega arith))

  narrow_same : (storey : ℕ) → narrow A storey ≡ narrow B storey
  narrow_same = factor_same A B storeys_same storey_row_same

  -- So what is required of a part is no less,
  required_of_rises : (a-part b-part : HousePart) → a-part ≡ b-part → required_of A a-part ≤ required_of B b-part
  unfolding required_of
  required_of_rises a-part b-part same =
      rw (← same)
      (required_rises (house_of A) a-part (house_of B) a-part (omega (arith, w.no_lower.heavier)) (b.house_inside 2 (omega arith)).1
      (omega (arith, w.no_lower.higher)) (omega (arith, w.no_lower.softer)) (le_of_eq snow_same) (b.house_inside 7 (omega arith)).1 refl refl (le_refl a-part.area)
      (le_of_eq (narrow_same a-part.storey)))

  module _ (storey direction : ℕ) (s : InHouse A storey direction) where
    floor_same : storey_floor_type A storey ≡ storey_floor_type B storey
    unfolding storey_floor_type
    floor_same = ap floor_type (storey_row_same storey s.some_storey s.last_storey)

    -- nor of a storey,
    storey_required : required A storey ≤ required B storey
    unfolding required
    storey_required = required_of_rises _ _ (rw (storeys_same, storey_same storey s.some_storey s.last_storey 2 (omega arith)))

    -- nor of an end.
    ends_same : (column : ℕ) → column < 8 → cell A (ends_row A storey direction) column ≡ cell B (ends_row B storey direction) column
    ends_same column inside =
        row_same (ends_row A storey direction) column (λ e. omega arith) (λ e. omega arith) (λ e. omega arith) inside ∙ rw storeys_same

    end_required_lem : (end : ℕ) → end < 2 → end_required A storey direction end ≤ end_required B storey direction end
    unfolding end_required
    end_required_lem end inside =
        required_of_rises _ _ (rw (ends_same (5 + end) (omega arith), ends_same (3 + end) (omega arith)))

    -- The score before the layout factor is no higher.
    storey_weaker : NoStronger (strengths_with A (held A storey direction) storey) (strengths_with B (held B storey direction) storey)
    storey_weaker = record { holds = le_of_eq (sym (held_same storey direction)); needs = storey_required }

    end_weaker : (end : ℕ) → end < 2 → NoStronger (end_strengths A storey direction end) (end_strengths B storey direction end)
    end_weaker end inside = record { holds = le_of_eq (sym (end_held_same storey direction end)); needs = end_required_lem end inside }

    before_falls : score_before B storey direction ≤ score_before A storey direction
    unfolding score_before
    before_falls = score_before_falls (deterioration A) (deterioration B) storey_weaker worn (required_some A w.A_accepted s.some_storey s.last_storey) (lower_some A)

    -- Nor is the full score, where the higher band is kept.
    full_falls : BandKept A B storey direction → full_score B storey direction ≤ full_score A storey direction
    unfolding score_with quotient_with score layout end_band higher_band
    full_falls kept =
        rw (← floor_same)
        (full_score_falls (storey_floor_type A storey) (deterioration A) (deterioration B) storey_weaker (end_weaker end_a (omega arith))
        (end_weaker end_b (omega arith)) worn kept (required_some A w.A_accepted s.some_storey s.last_storey) (lower_some A))

  in_both : {storey direction : ℕ} → InHouse A storey direction → InHouse B storey direction
  in_both s = record {
    some_storey = s.some_storey;
    last_storey = rw storeys_same at s.last_storey;
    some_direction = s.some_direction;
    last_direction = s.last_direction;
  }

  -- Where all keep it, the least score is no higher, and the verdict no better.
  module _ (kept : (storey direction : ℕ) → InHouse A storey direction → BandKept A B storey direction) where
    listed_falls : (i : ℕ) → i < 2 * storeys A → get_or (scores B) i 0 ≤ get_or (scores A) i 0
    listed_falls i inside =
        let s = in_house_at A i inside in
        rw (score_at_lem A i inside, score_at_lem B i (omega (arith, storeys_same)))
        (full_falls (i / 2 + 1) (i % 2 + 1) s (kept (i / 2 + 1) (i % 2 + 1) s))

    verdict_no_better : house_verdict A ≤ house_verdict B
    unfolding house_verdict least_score
    verdict_no_better =
        verdict_rises
        (least_falls (scores B) (scores A) (omega (arith, scores_length A, scores_length B, storeys_same))
        (λ i l. listed_falls i (omega (arith, scores_length A))))

  no_better : NoBetter A B
  no_better = record {
    before = before_falls;
    full = full_falls;
    verdict = verdict_no_better;
    record_full = λ x y ex ey storey direction s kept.
        rw (record_told A x w.A_accepted ex, record_told B y w.B_accepted ey)
        (rw (record_score A storey direction s, record_score B storey direction (in_both s))
        (full_falls storey direction s kept));
    record_verdict = λ x y ex ey kept.
        rw (record_told A x w.A_accepted ex, record_told B y w.B_accepted ey, record_verdict A, record_verdict B) (verdict_no_better kept);
  }

-- Demand 3: a house made worse is no better.
pub comparison : (A B : List ℕ) → SameOrWorse A B → NoBetter A B
comparison = no_better
