-- What a row without a fault holds: every number lies in its column's range. Assumes nothing.
use Rattle.std.proofs.Common.{◌≡◌, refl, subst, Bool, true, false, cond, ◌||◌, List, ℕ, ◌<◌, ◌≤◌, le_refl, arith, T, ltb, get_or, ltb-true, ltb-false}
use Rattle.answer.specs.Told.{row_out_of_order}
use Rattle.answer.proofs.Places.{before_first, first_none}
use Rattle.survey.specs.Table.{cell, storeys}
use Rattle.survey.specs.declared.ranges.Range.{Range}
use Rattle.survey.specs.Ranges.{lows, highs, house_columns}
use Rattle.survey.specs.Judgement.{Fault, fault, none, ◌then◌, test, outside, leftmost, wrong_column, columns_fault, house_fault}
use Rattle.survey.specs.Acceptance.{Inside}
use Rattle.survey.proofs.Faults.{inside}
use Rattle.survey.proofs.RowFaults.{column_none}

-- No fault.
abbrev pub Clean : Fault → Type 0
Clean f = f.number ≤ 0

-- Two tests find nothing where neither does.
pub then_clean : (f g : Fault) → Clean (f then g) → Clean f × Clean g
unfolding ◌then◌
then_clean f g h = go (ltb 0 f.number) refl h
  where
    go : (b : Bool) → ltb 0 f.number ≡ b → Clean (cond b f g) → Clean f × Clean g
    go true e h = absurd (omega (arith, ltb-true 0 f.number e))
    go false e h = (ltb-false 0 f.number e, h)

-- A test finds nothing where what it asks does not hold.
pub test_clean : (holds : Bool) (f : Fault) → 0 < f.number → Clean (test holds f) → holds ≡ false
unfolding test
test_clean true f some h = absurd (omega arith)
test_clean false f some h = refl

or_false : (a b : Bool) → (a || b) ≡ false → (a ≡ false) × (b ≡ false)
or_false true b e = absurd (subst T e tt)
or_false false b e = (refl, e)

-- Every number of a row lies in its column's range where none is the leftmost outside,
pub leftmost_inside : (ranges : List Range) (table : List ℕ) (row : ℕ) → 8 ≤ leftmost (lows ranges) (highs ranges) table row → Inside ranges table row
unfolding leftmost outside
leftmost_inside ranges table row past column inside =
    let low = lows ranges in
    let high = highs ranges in
    let both = or_false (ltb (cell table row column) (get_or low column 0)) _ (before_first (outside low high table row) 8 column (omega arith)) in
    (ltb-false (cell table row column) _ both.0, ltb-false _ (cell table row column) both.1)

-- and so it is in a row without refusal 3 or 4.
pub columns_inside : (due : ℕ) (ranges : List Range) (table : List ℕ) (row : ℕ) → Clean (columns_fault due ranges table row) → Inside ranges table row
unfolding wrong_column
columns_inside due ranges table row h =
    let last = leftmost (lows ranges) (highs ranges) table row in
    let past = ltb-false last 8 (test_clean (ltb last 8) _ (omega arith) (then_clean (test (ltb last due) (fault row_out_of_order 1)) _ h).1) in
    leftmost_inside ranges table row past

-- And the other way: a row whose numbers lie in their ranges has neither refusal 3 nor 4.
pub inside_columns : (due : ℕ) (ranges : List Range) (table : List ℕ) (row : ℕ) → due ≤ 8 → Inside ranges table row
    → none ≡ columns_fault due ranges table row
unfolding leftmost
inside_columns due ranges table row few within-ranges =
    let low = lows ranges in
    let high = highs ranges in
    let none_outside = first_none (outside low high table row) 8 (λ k l. inside low high table row k (within-ranges k l).0 (within-ranges k l).1) in
    rw none_outside (column_none due 8 few (le_refl 8))

-- A house row without a fault has one to three storeys.
pub house_storeys : (table : List ℕ) → Clean (house_fault table) → (1 ≤ storeys table) × (storeys table ≤ 3)
unfolding house_fault
house_storeys table h = columns_inside 1 (house_columns table) table 0 h 1 (omega arith)
