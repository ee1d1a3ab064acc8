-- The first place at which a test holds, as a search through a range of numbers finds it. Assumes nothing.
use Rattle.std.proofs.Common.{◌≡◌, refl, ap, ◌∙◌, Bool, true, false, cond, not, Some, None, ℕ, zero, suc, ◌+◌, ◌<◌, ◌≤◌, add-zero, zero-add, arith, ltb, length, take, unwrap_or}
use Rattle.std.specs.List.{prefix_len, position_or_len, range_with_len}
use Rattle.std.proofs.lemmas.List.FromFn.{length-range_with_len}
use Rattle.std.proofs.lemmas.List.Folds.{length-prefix_len}
use Rattle.answer.specs.First.{first}
use Rattle.answer.proofs.Places.{first_same}
use Rattle.survey.specs.Judgement.{place_below}

-- How many numbers of a range have passed a test when the first fails it.
pub prefix_first : (test : ℕ → Bool) (start n : ℕ) → prefix_len test (range_with_len start n) ≡ first (λ k. not (test (start + k))) n
unfolding first
prefix_first test start zero = refl
prefix_first test start (suc n) = go (test start) (prefix_first test (start + 1) n ∙ first_same _ _ n later) refl
  where
    later : (k : ℕ) → not (test (start + 1 + k)) ≡ not (test (start + suc k))
    later k =
        let same : start + 1 + k ≡ start + suc k = omega arith in
        ap (λ (i : ℕ). not (test i)) same

    go : (b : Bool) → prefix_len test (range_with_len (start + 1) n) ≡ first (λ k. not (test (start + suc k))) n → test start ≡ b
        → cond b (1 + prefix_len test (range_with_len (start + 1) n)) 0 ≡ cond (not (test (start + 0))) 0 (suc (first (λ k. not (test (start + suc k))) n))
    go true rest e = rw (add-zero, e) (omega (arith, rest))
    go false rest e = rw (add-zero, e) refl

pub prefix_count : (test : ℕ → Bool) (start n : ℕ) → (let numbers = range_with_len start n in length (take (prefix_len test numbers) numbers)) ≡ first (λ k. not (test (start + k))) n
prefix_count test start n = length-prefix_len test (range_with_len start n) ∙ prefix_first test start n

-- The first number of a range that passes a test, by how many are before it.
pub position_from : (test : ℕ → Bool) (start n : ℕ) → (let numbers = range_with_len start n in cond (ltb (position_or_len test numbers) (length numbers)) (Some (position_or_len test numbers)) None)
    ≡ place_below n (first (λ k. test (start + k)) n)
position_from test start n =
    rw (length-range_with_len, prefix_first (λ k. not (test k)) start n, first_same (λ k. not (not (test (start + k)))) (λ k. test (start + k)) n (λ k. twice (test (start + k)))) refl
  where
    twice : (b : Bool) → not (not b) ≡ b
    twice true = refl
    twice false = refl

-- And of a range from 0.
pub position_first : (test : ℕ → Bool) (n : ℕ) → (let numbers = range_with_len 0 n in cond (ltb (position_or_len test numbers) (length numbers)) (Some (position_or_len test numbers)) None)
    ≡ place_below n (first test n)
position_first test n = position_from test 0 n ∙ ap (place_below n) (first_same (λ k. test (0 + k)) test n (λ k. rw zero-add refl))

-- A place, or else their count; and what a place says, or that there is none.
module _ (n i : ℕ) where
  pub place_or_count : i ≤ n → unwrap_or (place_below n i) n ≡ i
  place_or_count most = grind arith

  pub none_below : None ≡ place_below n i → n ≤ i
  none_below e = grind arith

  pub some_below : {k : ℕ} → Some k ≡ place_below n i → (k ≡ i) × (k < n)
  some_below e = (grind arith, grind arith)
