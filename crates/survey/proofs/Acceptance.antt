-- Acceptance: what a table that is refused on no ground is made of. Assumes nothing.
use Rattle.std.proofs.Common.{◌≡◌, refl, sym, ap, subst, ◌∙◌, Result, Ok, Err, T, Bool, true, false, cond, not, List, ℕ, ◌+◌, ◌-◌, ◌%◌, ◌<◌, ◌≤◌, le_refl, arith, eqb, leb, ltb, bit_and, length, eqb-true, ltb-true, ltb-false, leb-false, ne_eqb, le-ltb}
use native.Mathlib.Decide.{dec_lt}
use borrow.Author.Tests.{eqb-false, not-false}
use Rattle.answer.specs.declared.refusal.Refusal.{Refusal}
use Rattle.answer.specs.Told.{Told, told, counted, refusal, sheet_length, row_out_of_order, mark_on_absent_part, no_such_day, dates_out_of_order}
use Rattle.answer.specs.First.{first}
use Rattle.answer.specs.Length.{most_walls, rows_in, Whole}
use Rattle.answer.proofs.Refusals.{refused_told}
use Rattle.answer.proofs.Refusals as refusals
use Rattle.answer.proofs.Places.{before_first, at_first}
use Rattle.answer.proofs.Lengths.{rows_whole}
use Rattle.calendar.specs.Days.{is_day}
use Rattle.survey.specs.Table.{cell, storeys, ends_storey, first_wall, wall_rows, parts_row, dates_row, rows_due}
use Rattle.survey.specs.Ranges.{zone, house_columns, storey_columns, ends_columns, wall_columns, parts_columns, dates_columns}
use Rattle.survey.specs.Judgement.{fault, none, faulty, test, columns_fault, house_fault, storey_fault, ends_fault, storey_before, wall_fault, within, parts_fault, has_no_day, days_fault, order_fault, dates_fault, row_fault, judging}
use Rattle.survey.specs.Acceptance.{Inside, Accepted}
use Rattle.survey.specs.Internal.{JudgedTo}
use Rattle.survey.proofs.Faults.{passed, not_faulty}
use Rattle.survey.proofs.Positions.{by_place_lem}
use Rattle.survey.proofs.RowFaults.{ends_right, wall_right, parts_right, days_right, order_right, row_house, row_storey, row_ends, row_wall, row_parts, row_dates, row_after}
use Rattle.survey.proofs.Judging.{judging_accepted}
use Rattle.survey.proofs.RefusalNumbers.{judging_accepts}
use Rattle.survey.proofs.FaultlessRows.{Clean, then_clean, test_clean, columns_inside, inside_columns, house_storeys}

-- Every row is without a fault, and the dates row is among them.
record Faultless (table : List ℕ) (rows : ℕ) : Type 0 where
  size : Whole 8 (length table) rows
  clean : (row : ℕ) → row < rows → Clean (row_fault table row)
  reaches : rows_due table ≤ rows

faultless : (table : List ℕ) → (judging table).number ≡ 0 → Faultless table (rows_in 8 (length table))
unfolding judging
faultless table h = go (ltb row rows) refl some.1
  where
    rows : ℕ
    rows = rows_in 8 (length table)

    row : ℕ
    row = first (λ i. faulty (row_fault table i)) rows

    rest : Told
    rest = cond (ltb rows (rows_due table)) (refusal row_out_of_order (rows + 1) 1) (counted rows)

    some : (eqb rows 0 ≡ false) × ((cond (ltb row rows) (refusal (row_fault table row).number (row + 1) (row_fault table row).column) rest).number ≡ 0)
    some = refusals.passed (eqb rows 0) (refusal sheet_length 0 0) _ refl h

    go : (b : Bool) → ltb row rows ≡ b → (cond b (refusal (row_fault table row).number (row + 1) (row_fault table row).column) rest).number ≡ 0
        → Faultless table rows
    go true e z = absurd (omega (arith, z, ltb-true 0 (row_fault table row).number (at_first (λ i. faulty (row_fault table i)) rows (ltb-true row rows e))))
    go false e z = record {
      size = rows_whole 8 (length table) refl (eqb-false rows 0 some.0);
      clean = λ k l. ltb-false 0 (row_fault table k).number (before_first (λ i. faulty (row_fault table i)) rows k (omega (arith, ltb-false row rows e)));
      reaches = ltb-false rows (rows_due table) (refusals.passed (ltb rows (rows_due table)) (refusal row_out_of_order (rows + 1) 1) (counted rows) refl z).0;
    }

module _ (table : List ℕ) (h : (judging table).number ≡ 0) where
  abbrev rows : ℕ
  rows = rows_in 8 (length table)

  right : Faultless table rows
  right = faultless table h

  storeys_few : (1 ≤ storeys table) × (storeys table ≤ 3)
  storeys_few = house_storeys table (rw (row_house table) (right.clean 0 right.size.some))

  -- No row is due after the dates row.
  last : rows ≡ rows_due table
  last = go (dec_lt (rows_due table) rows)
    where
      go : Dec (rows_due table < rows) → rows ≡ rows_due table
      go (yes l) =
          let after = row_after table (rows_due table) (omega arith) in
          absurd (omega (arith, rw (← after) at (right.clean (rows_due table) l)))
      go (no l) = omega (arith, right.reaches)

  storey_clean : (row : ℕ) → 0 < row → row ≤ storeys table → Clean (storey_fault table row)
  storey_clean row some most = rw (row_storey table row some most) (right.clean row (omega (arith, right.reaches)))

  ends_clean : (row : ℕ) → storeys table < row → row < first_wall table → Clean (ends_fault table row)
  ends_clean row above before = rw (row_ends table row (omega arith) above before) (right.clean row (omega (arith, right.reaches)))

  wall_clean : (row : ℕ) → first_wall table ≤ row → row < parts_row table → Clean (wall_fault table row)
  wall_clean row past before = rw (row_wall table row (omega arith) (omega arith) past before) (right.clean row (omega (arith, right.reaches)))

  parts_clean : Clean (parts_fault table (parts_row table))
  parts_clean = rw (row_parts table (parts_row table) refl) (right.clean (parts_row table) (omega (arith, right.reaches)))

  dates_clean : Clean (dates_fault table (dates_row table))
  dates_clean = rw (row_dates table (dates_row table) refl) (right.clean (dates_row table) (omega (arith, right.reaches)))

  -- A wall row's three tests.
  wall_tests : (row : ℕ) → first_wall table ≤ row → row < parts_row table
      → (ltb (cell table row 1) (storey_before table row) ≡ false) × Inside (wall_columns table row) table row × (row < first_wall table + most_walls)
  unfolding wall_fault
  wall_tests row past before =
      let three = then_clean (test (ltb (cell table row 1) (storey_before table row)) (fault row_out_of_order 1)) _ (wall_clean row past before) in
      let two = then_clean (columns_fault 1 (wall_columns table row) table row) _ three.1 in
      let crowded = leb (first_wall table + most_walls) row in (
        test_clean (ltb (cell table row 1) (storey_before table row)) _ (omega arith) three.0,
        columns_inside 1 (wall_columns table row) table row two.0,
        leb-false (first_wall table + most_walls) row (test_clean crowded _ (omega arith) two.1),
      )

  ends_tests : (row : ℕ) → storeys table < row → row < first_wall table
      → Inside (ends_columns table row) table row × (cell table row 3 + cell table row 4 ≤ cell table (ends_storey table row) 2)
  unfolding ends_fault
  ends_tests row above before =
      let two = then_clean (columns_fault 3 (ends_columns table row) table row) _ (ends_clean row above before) in
      let exceed = ltb (cell table (ends_storey table row) 2) (cell table row 3 + cell table row 4) in
      (columns_inside 3 (ends_columns table row) table row two.0, ltb-false (cell table (ends_storey table row) 2) _ (test_clean exceed _ (omega arith) two.1))

  abbrev present : ℕ
  present = cell table (parts_row table) 1

  abbrev marked : ℕ
  marked = cell table (parts_row table) 2

  parts_tests : Inside parts_columns table (parts_row table) × (within marked present ≡ true) × (0 < present)
  unfolding parts_fault
  parts_tests =
      let three = then_clean (columns_fault 1 parts_columns table (parts_row table)) _ parts_clean in
      let two = then_clean (test (not (within marked present)) (fault mark_on_absent_part 3)) _ three.1 in (
        columns_inside 1 parts_columns table (parts_row table) three.0,
        not-false (within marked present) (test_clean (not (within marked present)) _ (omega arith) two.0),
        omega (arith, eqb-false present 0 (test_clean (eqb present 0) _ (omega arith) two.1)),
      )

  abbrev date : ℕ → ℕ
  date column = cell table (dates_row table) column

  a_day : (column number : ℕ) → Clean (test (has_no_day table (dates_row table) column) (fault no_such_day number)) → is_day (date column) ≡ true
  a_day column number clean = not-false (is_day (date column)) (test_clean (has_no_day table (dates_row table) column) _ (omega arith) clean)

  days_tests : Clean (days_fault table (dates_row table)) → (is_day (date 1) ≡ true) × (is_day (date 2) ≡ true) × (is_day (date 3) ≡ true)
  unfolding days_fault
  days_tests clean =
      let three = then_clean (test (has_no_day table (dates_row table) 1) (fault no_such_day 2)) _ clean in
      let two = then_clean (test (has_no_day table (dates_row table) 2) (fault no_such_day 3)) _ three.1 in
      (a_day 1 2 three.0, a_day 2 3 two.0, a_day 3 4 two.1)

  order_tests : Clean (order_fault table (dates_row table)) → (date 1 ≤ date 2) × (date 2 ≤ date 3)
  unfolding order_fault
  order_tests clean =
      let two = then_clean (test (ltb (date 2) (date 1)) (fault dates_out_of_order 3)) _ clean in (
        ltb-false (date 2) (date 1) (test_clean (ltb (date 2) (date 1)) _ (omega arith) two.0),
        ltb-false (date 3) (date 2) (test_clean (ltb (date 3) (date 2)) _ (omega arith) two.1),
      )

  dates_tests :
      Inside dates_columns table (dates_row table)
      × ((is_day (date 1) ≡ true) × (is_day (date 2) ≡ true) × (is_day (date 3) ≡ true))
      × ((date 1 ≤ date 2) × (date 2 ≤ date 3))
  unfolding dates_fault
  dates_tests =
      let three = then_clean (columns_fault 1 dates_columns table (dates_row table)) _ dates_clean in
      let two = then_clean (days_fault table (dates_row table)) _ three.1 in
      (columns_inside 1 dates_columns table (dates_row table) three.0, days_tests two.0, order_tests two.1)

  -- Not too many walls: the first that is too many would have a fault.
  walls_few : wall_rows table ≤ most_walls
  walls_few = go (dec_lt most_walls (wall_rows table))
    where
      go : Dec (most_walls < wall_rows table) → wall_rows table ≤ most_walls
      go (yes l) = absurd (omega (arith, (wall_tests (first_wall table + most_walls) (omega arith) (omega arith)).2))
      go (no l) = omega arith

  storeys_rise : (row : ℕ) → first_wall table ≤ row → row + 1 < parts_row table → cell table row 1 ≤ cell table (row + 1) 1
  unfolding storey_before
  storeys_rise row past before =
      let one : row + 1 - 1 ≡ row = omega arith in
      let rises = ltb-false (cell table (row + 1) 1) _ (wall_tests (row + 1) (omega arith) before).0 in
      rw (ne_eqb (row + 1) (first_wall table) (λ e. omega arith), one) at rises

  pub accepted : Accepted table
  unfolding house_fault storey_fault
  accepted = record {
    sizes = subst (Whole 8 (length table)) last right.size;
    house_inside = columns_inside 1 (house_columns table) table 0 (rw (row_house table) (right.clean 0 right.size.some));
    storey_inside = λ row some most. columns_inside 2 (storey_columns row) table row (storey_clean row some most);
    ends_inside = λ row above before. (ends_tests row above before).0;
    ends_fit = λ row above before. (ends_tests row above before).1;
    wall_inside = λ row past before. (wall_tests row past before).1;
    sorted = storeys_rise;
    few = walls_few;
    parts_inside = parts_tests.0;
    marks_present = parts_tests.1;
    some_present = parts_tests.2;
    dates_inside = dates_tests.0;
    days = dates_tests.1;
    in_order = dates_tests.2;
  }

  -- The answer counts every row.
  pub accepted_count : judging table ≡ counted (rows_due table)
  accepted_count =
      let judged : JudgedTo table rows rows = record { size = right.size; reached = le_refl rows; clean = λ k l. le-ltb 0 (row_fault table k).number (right.clean k l) } in
      sym (judging_accepted judged refl right.reaches) ∙ ap counted last

-- And the other way: a table made like that is accepted. So the record says no less than acceptance does.
module _ (table : List ℕ) (a : Accepted table) where
  storeys_known : (1 ≤ storeys table) × (storeys table ≤ 3)
  storeys_known = a.house_inside 1 (omega arith)

  house_clear : none ≡ row_fault table 0
  unfolding house_fault
  house_clear = inside_columns 1 (house_columns table) table 0 (omega arith) a.house_inside ∙ row_house table

  storey_clear : (row : ℕ) → 0 < row → row ≤ storeys table → none ≡ row_fault table row
  unfolding storey_fault
  storey_clear row some most =
      inside_columns 2 (storey_columns row) table row (omega arith) (a.storey_inside row some most) ∙ row_storey table row some most

  ends_clear : (row : ℕ) → storeys table < row → row < first_wall table → none ≡ row_fault table row
  ends_clear row above before =
      ends_right table row (inside_columns 3 (ends_columns table row) table row (omega arith) (a.ends_inside row above before)) (le_refl 0) (a.ends_fit row above before)
      ∙ row_ends table row (omega arith) above before

  storey_rises : (row : ℕ) → first_wall table ≤ row → row < parts_row table → storey_before table row ≤ cell table row 1
  unfolding storey_before
  storey_rises row past before = go (eqb row (first_wall table)) refl
    where
      go : (b : Bool) → eqb row (first_wall table) ≡ b → cond b 0 (cell table (row - 1) 1) ≤ cell table row 1
      go true e = omega arith
      go false e =
          let first = eqb-false row (first_wall table) e in
          let next : row - 1 + 1 ≡ row = omega (arith, first) in
          rw next at (a.sorted (row - 1) (omega (arith, first)) (omega (arith, first)))

  wall_clear : (row : ℕ) → first_wall table ≤ row → row < parts_row table → none ≡ row_fault table row
  wall_clear row past before =
      wall_right table row (storey_rises row past before) (inside_columns 1 (wall_columns table row) table row (omega arith) (a.wall_inside row past before)) (le_refl 0) (omega (arith, a.few))
      ∙ row_wall table row (omega arith) (omega (arith, storeys_known)) past before

  parts_clear : none ≡ row_fault table (parts_row table)
  unfolding within
  parts_clear =
      let row = parts_row table in
      parts_right table row (inside_columns 1 parts_columns table row (omega arith) a.parts_inside) (le_refl 0)
      (eqb-true (bit_and (cell table row 2) (cell table row 1)) (cell table row 2) a.marks_present) (λ e. omega (arith, a.some_present))
      ∙ row_parts table row refl

  dates_clear : none ≡ row_fault table (dates_row table)
  unfolding dates_fault
  dates_clear =
      let row = dates_row table in
      passed _ _ (inside_columns 1 dates_columns table row (omega arith) a.dates_inside) (le_refl 0)
      (passed _ _ (days_right table row (rw a.days.0) (rw a.days.1) (rw a.days.2)) (le_refl 0) (order_right table row a.in_order.0 a.in_order.1))
      ∙ row_dates table row refl

  all_clear : (row : ℕ) → row < rows_due table → none ≡ row_fault table row
  all_clear = by_place_lem table (λ row. none ≡ row_fault table row) house_clear storey_clear ends_clear wall_clear parts_clear dates_clear

  pub made_accepted : judging table ≡ counted (rows_due table)
  made_accepted =
      let rows = rows_due table in
      let judged : JudgedTo table rows rows = record { size = a.sizes; reached = le_refl rows; clean = λ row l. not_faulty (row_fault table row) (all_clear row l) (le_refl 0) } in
      sym (judging_accepted judged refl (le_refl rows))

-- The two ways out of judging.
module _ (table : List ℕ) {answer : Result ℕ Refusal} (judged : told answer ≡ judging table) where
  pub judge_refused : {r : Refusal} → answer ≡ Err r → (judging table).number ≡ 0 → ⊥
  judge_refused e h = absurd (subst T (sym (judging_accepts table h) ∙ refused_told judged e) tt)

  pub judge_accepted : {count : ℕ} → answer ≡ Ok count → ((judging table).number ≡ 0) × (count ≡ rows_due table)
  judge_accepted {count} e =
      let h : (judging table).number ≡ 0 = ap (λ (x : Told). x.number) (sym judged) ∙ ap (λ (x : Result ℕ Refusal). (told x).number) e in
      (h, ap (λ (x : Result ℕ Refusal). (told x).count) (sym e) ∙ ap (λ (x : Told). x.count) (judged ∙ accepted_count table h))

-- An accepted house's zone is a multiple of ten from 70 to 100.
abbrev pub Zone : ℕ → Type 0
Zone n = (70 ≤ n) × (n ≤ 100) × (n % 10 ≡ 0)

zone_known : (n : ℕ) → Zone (zone n)
unfolding zone
zone_known n = go (eqb n 70) (eqb n 80) (eqb n 90)
  where
    go : (a b c : Bool) → Zone (cond a 70 (cond b 80 (cond c 90 100)))
    go true b c = (omega arith, omega arith, refl)
    go false true c = (omega arith, omega arith, refl)
    go false false true = (omega arith, omega arith, refl)
    go false false false = (omega arith, omega arith, refl)

pub accepted_zone : {table : List ℕ} → Accepted table → Zone (cell table 0 3)
accepted_zone {table} a =
    let inside = a.house_inside 3 (omega arith) in
    let same : zone (cell table 0 3) ≡ cell table 0 3 = omega (arith, inside) in
    subst Zone same (zone_known (cell table 0 3))
