-- Every number of a report is printed whole: none is over 99,999,999, so the report is the sheet that `sheet` writes of its rows. Assumes
-- nothing.
use Rattle.std.proofs.Common.{◌≡◌, List, [], ◌∷◌, ℕ, zero, suc, ◌+◌, ◌*◌, ◌<◌, ◌≤◌, le_trans, div-le_self, arith, length, get_or, lit≤, le-ltb}
use Rattle.answer.specs.Told.{counted}
use Rattle.answer.specs.Lists.{joined, over}
use Rattle.sheet.specs.Sheet.{too_large, writing, after_writing}
use Rattle.sheet.proofs.Answers.{Writable, writable_accepted}
use Rattle.survey.specs.Table.{storeys}
use Rattle.survey.specs.Judgement.{judging}
use Rattle.method.specs.declared.deterioration.Fraction.{Fraction}
use Rattle.method.proofs.Tables.{AllAtMost, all_at, all_append}
use Rattle.method.proofs.BandLaws.{layout_most}
use Rattle.method.proofs.Fractions.{Bounded}
use Rattle.method.proofs.Comparisons.{verdict_most}
use Rattle.diagnosis.specs.House.{layout, deterioration, full_score, scores, least_of, least_score, assessment}
use Rattle.diagnosis.specs.Report.{in_hundredths, result_row, storey_rows, result_rows, verdict_row, report_rows, report_lines, report_bytes}
use Rattle.diagnosis.proofs.AcceptedTables.{storeys_few, required_within}
use Rattle.diagnosis.proofs.Sums.{storey_held_most}
use Rattle.diagnosis.proofs.ScoreLists.{score_small}
use Rattle.diagnosis.proofs.Assessments.{house_factor_bounded}
use Rattle.diagnosis.proofs.ReportRows.{report_length}

-- No number of a list is too large for a field.
abbrev Small : List ℕ → Type 0
Small = AllAtMost 99_999_999

small_joined : (n : ℕ) (f : ℕ → List ℕ) → ((i : ℕ) → i < n → Small (f i)) → Small (joined n f)
unfolding joined
small_joined zero f each = tt
small_joined (suc n) f each = all_append 99_999_999 (joined n f) (f n) (small_joined n f (λ i l. each i (omega arith))) (each n (omega arith))

-- The least of some scores is at most 999, and a fraction of at most 1 at most 100 hundredths.
least_most : (some : List ℕ) → least_of some ≤ 999
unfolding least_of
least_most [] = lit≤ tt
least_most (one ∷ others) = omega (arith, least_most others)

in_hundredths_most : (f : Fraction) → Bounded f → in_hundredths f ≤ 99_999_999
in_hundredths_most f b = le_trans (div-le_self (100 * f.upper) f.lower) (omega (arith, b))

module _ (table : List ℕ) (h : (judging table).number ≡ 0) where
  layout_small : (storey direction : ℕ) → layout table storey direction ≤ 99_999_999
  unfolding layout
  layout_small storey direction = le_trans (layout_most _ _) (lit≤ tt)

  factor_small : in_hundredths (deterioration table) ≤ 99_999_999
  factor_small = in_hundredths_most _ (house_factor_bounded table)

  result_small : (storey direction : ℕ) → 1 ≤ storey → storey ≤ storeys table → direction ≤ 2
      → Small (result_row storey direction (assessment table storey direction) (deterioration table))
  result_small storey direction some most two =
      let number : storey ≤ 99_999_999 = omega (arith, storeys_few table h) in
      let holds = storey_held_most table h storey direction in
      let needs = required_within table h some most in
      let score : full_score table storey direction ≤ 99_999_999 = le_trans (score_small table storey direction) (lit≤ tt) in
      (lit≤ tt, (number, (omega arith, (omega (arith, holds), (omega (arith, needs), (layout_small storey direction, (factor_small, (score, tt))))))))

  storey_small : (below : ℕ) → below < storeys table → Small (storey_rows table (below + 1))
  storey_small below inside =
      let row : ℕ → List ℕ = λ direction. result_row (below + 1) direction (assessment table (below + 1) direction) (deterioration table) in
      all_append 99_999_999 (row 1) (row 2) (result_small (below + 1) 1 (omega arith) (omega arith) (lit≤ tt))
      (result_small (below + 1) 2 (omega arith) (omega arith) (lit≤ tt))

  report_small : Small (report_rows table)
  unfolding report_rows result_rows least_score
  report_small =
      all_append 99_999_999 (result_rows table) (verdict_row (least_score table))
      (small_joined (storeys table) (λ below. storey_rows table (below + 1)) storey_small) (
        lit≤ tt,
        (le_trans (verdict_most (least_score table)) (lit≤ tt), (le_trans (least_most (scores table)) (lit≤ tt), (lit≤ tt, (lit≤ tt, (lit≤ tt, (lit≤ tt, (lit≤ tt, tt))))))),
      )

  pub report_fits : (i : ℕ) → get_or (report_rows table) i 0 ≤ 99_999_999
  report_fits = all_at 99_999_999 (report_rows table) report_small

  -- So it is what writing the rows gives.
  report_writable : Writable (report_rows table) (report_lines table)
  unfolding too_large
  report_writable = record {
    lengths = record { some = omega arith; most = omega (arith, storeys_few table h); whole = omega (arith, report_length table) };
    right = λ place l. le-ltb 99_999_999 (get_or (report_rows table) place 0) (report_fits place);
  }

  pub report_is_sheet : (lent : List ℕ) → 65 * report_lines table ≤ length lent
      → (counted (65 * report_lines table) ≡ writing (report_rows table) (length lent)) ×
      (over lent (report_bytes table) ≡ after_writing (report_rows table) lent)
  unfolding report_bytes
  report_is_sheet lent room = writable_accepted (report_rows table) lent (report_lines table) report_writable room
