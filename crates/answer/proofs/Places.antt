-- The laws of `first`: which place it is, and what it says of the places before it. Assumes nothing.
use Rattle.std.proofs.Common.{◌≡◌, refl, sym, ap, ◌∙◌, Bool, true, false, cond, ℕ, zero, suc, ◌<◌, ◌≤◌, zero-le, suc-le-suc, le_of_suc-le-suc, not-suc-le-zero, zero-lt-suc, arith}
use Rattle.answer.specs.First.{first}

-- The test holds at i and at no place before it.
pub first_is : (test : ℕ → Bool) (n i : ℕ) → i < n → ((k : ℕ) → k < i → test k ≡ false) → test i ≡ true → first test n ≡ i
unfolding first
first_is test zero i h before here = absurd (not-suc-le-zero h)
first_is test (suc n) zero h before here = rw here
first_is test (suc n) (suc i) h before here =
    rw (before 0 (zero-lt-suc i))
    (ap suc (first_is (λ k. test (suc k)) n i (le_of_suc-le-suc h) (λ k l. before (suc k) (suc-le-suc l)) here))

-- The test holds at no place.
pub first_none : (test : ℕ → Bool) (n : ℕ) → ((k : ℕ) → k < n → test k ≡ false) → first test n ≡ n
unfolding first
first_none test zero before = refl
first_none test (suc n) before =
    rw (before 0 (zero-lt-suc n)) (ap suc (first_none (λ k. test (suc k)) n (λ k l. before (suc k) (suc-le-suc l))))

-- A search that has passed every place.
pub first_end : (test : ℕ → Bool) (n i : ℕ) → i ≤ n → n ≤ i → ((k : ℕ) → k < i → test k ≡ false) → i ≡ first test n
first_end test n i most least before =
    let all : i ≡ n = omega arith in
    all ∙ sym (first_none test n (λ k l. before k (omega arith)))

-- Before the first place the test does not hold.
pub before_first : (test : ℕ → Bool) (n : ℕ) (k : ℕ) → k < first test n → test k ≡ false
unfolding first
before_first test zero k h = absurd (not-suc-le-zero h)
before_first test (suc n) k h = go (test 0) refl (before_first (λ i. test (suc i)) n) k h
  where
    go : (b : Bool) → test 0 ≡ b → ((k : ℕ) → k < first (λ i. test (suc i)) n → test (suc k) ≡ false)
        → (k : ℕ) → k < cond b 0 (suc (first (λ i. test (suc i)) n)) → test k ≡ false
    go true e later k h = absurd (not-suc-le-zero h)
    go false e later zero h = e
    go false e later (suc k) h = later k (le_of_suc-le-suc h)

-- The first place is one of them, or their count.
pub first_most : (test : ℕ → Bool) (n : ℕ) → first test n ≤ n
unfolding first
first_most test zero = zero-le
first_most test (suc n) = go (test 0) (first_most (λ i. test (suc i)) n)
  where
    go : (b : Bool) → first (λ i. test (suc i)) n ≤ n → cond b 0 (suc (first (λ i. test (suc i)) n)) ≤ suc n
    go true h = zero-le
    go false h = suc-le-suc h

-- At the first place the test holds.
pub at_first : (test : ℕ → Bool) (n : ℕ) → first test n < n → test (first test n) ≡ true
unfolding first
at_first test zero h = absurd (not-suc-le-zero h)
at_first test (suc n) h = go (test 0) refl (at_first (λ i. test (suc i)) n) h
  where
    go : (b : Bool) → test 0 ≡ b → (first (λ i. test (suc i)) n < n → test (suc (first (λ i. test (suc i)) n)) ≡ true)
        → cond b 0 (suc (first (λ i. test (suc i)) n)) < suc n → test (cond b 0 (suc (first (λ i. test (suc i)) n))) ≡ true
    go true e later h = e
    go false e later h = later (le_of_suc-le-suc h)

-- Two tests that agree everywhere hold first at the same place.
pub first_same : (test other : ℕ → Bool) (n : ℕ) → ((k : ℕ) → test k ≡ other k) → first test n ≡ first other n
unfolding first
first_same test other zero same = refl
first_same test other (suc n) same =
    rw (same 0, first_same (λ k. test (suc k)) (λ k. other (suc k)) n (λ k. same (suc k)))
