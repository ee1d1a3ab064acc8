-- The row that a new wall takes: in an accepted table it is that of the first wall of a storey above. Assumes nothing.
use Rattle.std.proofs.Common.{◌≡◌, refl, sym, ap, Bool, true, false, cond, List, ℕ, zero, suc, ◌+◌, ◌-◌, ◌<◌, ◌≤◌, arith, leb, ltb, ltb-true, ltb-false}
use Rattle.std.proofs.lemmas.Bool.{le-leb, lt-leb}
use borrow.Author.Tests.{leb-true, leb-false}
use native.Mathlib.Decide.{dec_lt}
use Rattle.answer.specs.First.{first}
use Rattle.answer.proofs.Places.{first_most, before_first, at_first}
use Rattle.survey.specs.Table.{cell, first_wall, wall_rows, parts_row}
use Rattle.survey.specs.Judgement.{judging}
use Rattle.survey.proofs.StoreyWalls.{rises}
use Rattle.site.specs.Rows.{after_last, row_due}

-- A place is after the last at which a test holds, where it holds just before it and nowhere from it on.
pub after_last_is : (test : ℕ → Bool) (n at : ℕ) → at ≤ n → (0 < at → test (at - 1) ≡ true) → ((k : ℕ) → at ≤ k → k < n → test k ≡ false)
    → after_last test n ≡ at
unfolding after_last
after_last_is test zero at most before later = omega arith
after_last_is test (suc n) at most before later =
    go (dec_lt n at) (λ more. after_last_is test n at more before (λ k past below. later k past (omega arith)))
  where
    go : Dec (n < at) → (at ≤ n → after_last test n ≡ at) → cond (test n) (suc n) (after_last test n) ≡ at
    go (yes l) rest =
        let last : at - 1 ≡ n = omega arith in
        rw (rw last at (before (omega arith))) (omega arith)
    go (no l) rest = rw (later n (omega arith) (omega arith)) (rest (omega arith))

-- It is at most their count; the place just before it passes; and no place from it on does.
pub record AfterLast (test : ℕ → Bool) (n at : ℕ) : Type 0 where
  pub most : at ≤ n
  pub passes : 0 < at → test (at - 1) ≡ true
  pub fails : (k : ℕ) → at ≤ k → k < n → test k ≡ false

pub after_last_lem : (test : ℕ → Bool) (n : ℕ) → AfterLast test n (after_last test n)
unfolding after_last
after_last_lem test zero = record { most = omega arith; passes = λ some. absurd (omega arith); fails = λ k past below. absurd (omega arith) }
after_last_lem test (suc n) = go (test n) refl (after_last_lem test n)
  where
    go : (b : Bool) → test n ≡ b → AfterLast test n (after_last test n) → AfterLast test (suc n) (cond b (suc n) (after_last test n))
    go true e rest =
        let last : suc n - 1 ≡ n = omega arith in
        record { most = omega arith; passes = λ some. rw last e; fails = λ k past below. absurd (omega arith) }
    go false e rest = record {
      most = omega (arith, rest.most);
      passes = rest.passes;
      fails = λ k past below. here k (dec_lt k n) past below;
    }
      where
        here : (k : ℕ) → Dec (k < n) → after_last test n ≤ k → k < suc n → test k ≡ false
        here k (yes l) past below = rest.fails k past l
        here k (no l) past below =
            let same : k ≡ n = omega arith in
            rw same e

module _ (table : List ℕ) (h : (judging table).number ≡ 0) (storey : ℕ) where
  abbrev above : ℕ → Bool
  above k = ltb storey (cell table (first_wall table + k) 1)

  pub row_due_first : first_wall table + first above (wall_rows table) ≡ row_due table storey
  unfolding row_due
  row_due_first =
      ap (λ (n : ℕ). first_wall table + n)
      (sym (after_last_is _ (wall_rows table) found (first_most above (wall_rows table)) before later))
    where
      found : ℕ
      found = first above (wall_rows table)

      before : 0 < found → leb (cell table (first_wall table + (found - 1)) 1) storey ≡ true
      before some = le-leb _ _ (ltb-false _ _ (before_first above (wall_rows table) (found - 1) (omega arith)))

      later : (k : ℕ) → found ≤ k → k < wall_rows table → leb (cell table (first_wall table + k) 1) storey ≡ false
      later k past below =
          let here = ltb-true _ _ (at_first above (wall_rows table) (omega arith)) in
          let same : first_wall table + found + (k - found) ≡ first_wall table + k = omega arith in
          lt-leb _ _ (omega (arith, here, ap (λ (row : ℕ). cell table row 1) same, rises table h (first_wall table + found) (k - found) (omega arith) (omega arith)))

-- It lies among the walls, or just after them.
pub row_due_most : (table : List ℕ) (storey : ℕ) → (first_wall table ≤ row_due table storey) × (row_due table storey ≤ parts_row table)
unfolding row_due
row_due_most table storey =
    (omega arith, omega (arith, (after_last_lem (λ k. leb (cell table (first_wall table + k) 1) storey) (wall_rows table)).most))

-- The wall before it is of a storey that is not above, and the wall in it of one above.
module _ (table : List ℕ) (storey : ℕ) where
  abbrev low : ℕ → Bool
  low k = leb (cell table (first_wall table + k) 1) storey

  place : AfterLast low (wall_rows table) (after_last low (wall_rows table))
  place = after_last_lem low (wall_rows table)

  pub row_due_above : first_wall table < row_due table storey → cell table (row_due table storey - 1) 1 ≤ storey
  unfolding row_due
  row_due_above h =
      let same : first_wall table + (after_last low (wall_rows table) - 1) ≡ first_wall table + after_last low (wall_rows table) - 1 = omega arith in
      rw (← same) (leb-true _ _ (place.passes (omega arith)))

  pub row_due_below : row_due table storey < parts_row table → storey < cell table (row_due table storey) 1
  unfolding row_due
  row_due_below h = leb-false _ _ (place.fails (after_last low (wall_rows table)) (omega arith) (omega arith))
