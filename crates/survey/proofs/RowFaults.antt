-- What is wrong with a row of each kind, case by case in the order of its tests. Assumes nothing.
use Rattle.std.proofs.Common.{◌≡◌, ◌-◌, refl, true, false, cond, List, ℕ, ◌+◌, ◌<◌, ◌≤◌, arith, lit<, lit≤, eqb, bit_and, eq-eqb, ne_eqb, lt-ltb, le-ltb, le-leb}
use native.Mathlib.Decide.{dec_lt}
use borrow.Author.Tests.{lt-leb}
use Rattle.answer.specs.Told.{row_out_of_order, no_such_day, dates_out_of_order}
use Rattle.answer.specs.Length.{most_walls}
use Rattle.survey.specs.Table.{cell, storeys, ends_storey, first_wall, parts_row, dates_row}
use Rattle.survey.specs.Ranges.{ends_columns, wall_columns, parts_columns}
use Rattle.survey.specs.Judgement.{Fault, fault, none, wrong_column, columns_fault, ends_fault, storey_before, wall_fault, within, parts_fault, has_no_day, days_fault, order_fault, dates_fault, house_fault, storey_fault, row_fault}
use Rattle.survey.proofs.FirstInRange.{none_below, some_below}
use Rattle.survey.proofs.Faults.{error_found, passed, held, clear, test_finds, test_passes}

gt_eqb : (row : ℕ) → 0 < row → eqb row 0 ≡ false
gt_eqb row h = ne_eqb row 0 (λ e. omega arith)

-- No column outside its range.
pub column_none : (due column : ℕ) → due ≤ column → 8 ≤ column → none ≡ wrong_column due column
unfolding wrong_column
column_none due column after h = test_passes _ _ (le-ltb column due after) (clear _ (le-ltb column 8 h))

-- A row whose columns are in their ranges, by its other tests.
module _ (table : List ℕ) (row : ℕ) {f : Fault} where
  module _ (ranged : f ≡ columns_fault 3 (ends_columns table row) table row) (clean : f.number ≤ 0) where
    pub ends_right : cell table row 3 + cell table row 4 ≤ cell table (ends_storey table row) 2 → none ≡ ends_fault table row
    unfolding ends_fault
    ends_right h = passed _ _ ranged clean (clear _ (le-ltb _ _ h))

  module _ (rises : storey_before table row ≤ cell table row 1) where
    module _ (ranged : f ≡ columns_fault 1 (wall_columns table row) table row) (clean : f.number ≤ 0) where
      pub wall_right : row < first_wall table + most_walls → none ≡ wall_fault table row
      unfolding wall_fault
      wall_right h = test_passes _ _ (le-ltb _ _ rises) (passed _ _ ranged clean (clear _ (lt-leb _ _ h)))

  module _ (ranged : f ≡ columns_fault 1 parts_columns table row) (clean : f.number ≤ 0) where
    pub parts_right : bit_and (cell table row 2) (cell table row 1) ≡ cell table row 2 → (cell table row 1 ≡ 0 → ⊥) → none ≡ parts_fault table row
    unfolding parts_fault within
    parts_right all some = passed _ _ ranged clean (test_passes _ _ (rw (eq-eqb _ _ all)) (clear _ (ne_eqb _ _ some)))

-- The dates of a row, from the left: the first that is no day, and the first that is before the one to its left.
module _ (table : List ℕ) (row : ℕ) where
  pub no_day : (column : ℕ) → 1 ≤ column → column ≤ 3 → ((k : ℕ) → 1 ≤ k → k < column → has_no_day table row k ≡ false) → has_no_day table row column ≡ true
      → fault no_such_day (column + 1) ≡ days_fault table row
  unfolding days_fault
  no_day column some few before here = go column refl (dec_lt 1 column) (dec_lt 2 column)
    where
      go : (at : ℕ) → at ≡ column → Dec (1 < column) → Dec (2 < column) → fault no_such_day (at + 1) ≡ days_fault table row
      go at same (no p) _ =
          let one : column ≡ 1 = omega arith in
          rw (same, one) (test_finds _ _ (rw one at here) (lit< tt))
      go at same (yes p) (no q) =
          let two : column ≡ 2 = omega arith in
          rw (same, two) (test_passes _ _ (before 1 (lit≤ tt) (omega arith)) (test_finds _ _ (rw two at here) (lit< tt)))
      go at same (yes p) (yes q) =
          let three : column ≡ 3 = omega arith in
          rw (same, three)
          (test_passes _ _ (before 1 (lit≤ tt) (omega arith)) (test_passes _ _ (before 2 (lit≤ tt) (omega arith)) (held _ (rw three at here))))

  pub days_right : has_no_day table row 1 ≡ false → has_no_day table row 2 ≡ false → has_no_day table row 3 ≡ false → none ≡ days_fault table row
  unfolding days_fault
  days_right start completion survey = test_passes _ _ start (test_passes _ _ completion (clear _ survey))

  pub early : (column : ℕ) → 2 ≤ column → column ≤ 3 → (2 < column → cell table row 1 ≤ cell table row 2) → cell table row column < cell table row (column - 1)
      → fault dates_out_of_order (column + 1) ≡ order_fault table row
  unfolding order_fault
  early column some few started here = go column refl (dec_lt 2 column)
    where
      go : (at : ℕ) → at ≡ column → Dec (2 < column) → fault dates_out_of_order (at + 1) ≡ order_fault table row
      go at same (no p) =
          let two : column ≡ 2 = omega arith in
          rw (same, two) (test_finds _ _ (lt-ltb _ _ (rw two at here)) (lit< tt))
      go at same (yes p) =
          let three : column ≡ 3 = omega arith in
          rw (same, three) (test_passes _ _ (le-ltb _ _ (started (omega arith))) (held _ (lt-ltb _ _ (rw three at here))))

  pub order_right : cell table row 1 ≤ cell table row 2 → cell table row 2 ≤ cell table row 3 → none ≡ order_fault table row
  unfolding order_fault
  order_right started completed = test_passes _ _ (le-ltb _ _ started) (clear _ (le-ltb _ _ completed))

-- A row by the place where it stands.
pub row_house : (table : List ℕ) → house_fault table ≡ row_fault table 0
unfolding row_fault
row_house table = refl

module _ (table : List ℕ) (row : ℕ) (later : 0 < row) where
  pub row_storey : row ≤ storeys table → storey_fault table row ≡ row_fault table row
  unfolding row_fault
  row_storey h = rw (gt_eqb row later, le-leb row (storeys table) h)

  module _ (above : storeys table < row) where
    pub row_ends : row < first_wall table → ends_fault table row ≡ row_fault table row
    unfolding row_fault
    row_ends h = rw (gt_eqb row later, lt-leb row (storeys table) above, lt-ltb row (first_wall table) h)

    module _ (past : first_wall table ≤ row) where
      pub row_wall : row < parts_row table → wall_fault table row ≡ row_fault table row
      unfolding row_fault
      row_wall h = rw (gt_eqb row later, lt-leb row (storeys table) above, le-ltb row (first_wall table) past, lt-ltb row (parts_row table) h)

module _ (table : List ℕ) (row : ℕ) where
  -- Past the walls.
  row_past : parts_row table ≤ row
      → cond (eqb row (parts_row table)) (parts_fault table row) (cond (eqb row (dates_row table)) (dates_fault table row) (fault row_out_of_order 1)) ≡ row_fault table row
  unfolding row_fault
  row_past h =
      rw (gt_eqb row (omega arith), lt-leb row (storeys table) (omega arith), le-ltb row (first_wall table) (omega arith), le-ltb row (parts_row table) h)

  pub row_parts : row ≡ parts_row table → parts_fault table row ≡ row_fault table row
  row_parts h = rw (← row_past (omega arith), eq-eqb row (parts_row table) h)

  pub row_dates : row ≡ dates_row table → dates_fault table row ≡ row_fault table row
  row_dates h = rw (← row_past (omega arith), ne_eqb row (parts_row table) (λ e. omega arith), eq-eqb row (dates_row table) h)

  pub row_after : dates_row table < row → fault row_out_of_order 1 ≡ row_fault table row
  row_after h = rw (← row_past (omega arith), ne_eqb row (parts_row table) (λ e. omega arith), ne_eqb row (dates_row table) (λ e. omega arith))

-- For the code's tests: of a row's columns, and of each kind of row.
pub ruleset column_tests = (none_below, some_below, held, clear, test_finds, test_passes)

pub ruleset row_tests = (error_found, passed, held, clear, test_finds, test_passes, no_day, days_right, early, order_right)
