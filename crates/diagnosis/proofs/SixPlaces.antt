-- Six places by storey and direction, filled one after the other. Assumes nothing.
use Rattle.std.proofs.Common.{◌≡◌, refl, sym, ◌∙◌, List, [], ◌∷◌, ℕ, zero, suc, ◌+◌, ◌<◌, arith, length, get_or, set, map, lt-ltb}
use Rattle.std.proofs.Math.ListN.{get_or-map}
use Rattle.std.proofs.lemmas.List.{ext_get_or, length-map}
use Rattle.diagnosis.specs.Premises.{six}

-- What holds of the numbers 0 to 5 holds of each place.
pub by_place_lem : (P : ℕ → Type 0) → P 0 → P 1 → P 2 → P 3 → P 4 → P 5 → (at : ℕ) → at < 6 → P at
by_place_lem P zeroth first second third fourth fifth zero inside = zeroth
by_place_lem P zeroth first second third fourth fifth (suc zero) inside = first
by_place_lem P zeroth first second third fourth fifth (suc (suc zero)) inside = second
by_place_lem P zeroth first second third fourth fifth (suc (suc (suc zero))) inside = third
by_place_lem P zeroth first second third fourth fifth (suc (suc (suc (suc zero)))) inside = fourth
by_place_lem P zeroth first second third fourth fifth (suc (suc (suc (suc (suc zero))))) inside = fifth
by_place_lem P zeroth first second third fourth fifth (suc (suc (suc (suc (suc (suc at)))))) inside = absurd (omega arith)

module _ {A : Type 0} (none : A) (f : ℕ → A) where
  pub six_none : none ∷ none ∷ none ∷ none ∷ none ∷ none ∷ [] ≡ six 0 none f
  unfolding six
  six_none = refl

  -- One place more.
  six_more : (at : ℕ) → at < 6 → set (six at none f) at (f at) ≡ six (at + 1) none f
  unfolding six
  six_more = by_place_lem (λ at. set (six at none f) at (f at) ≡ six (at + 1) none f) refl refl refl refl refl refl

  -- The same of a list and a number that are known to be these.
  pub six_set : {filled : List A} {x : A} (at : ℕ) → at < 6 → filled ≡ six at none f → x ≡ f at → set filled at x ≡ six (at + 1) none f
  six_set at inside so_far one = rw (so_far, one) (six_more at inside)

  -- What stands in a place that is filled.
  pub six_at : (count at : ℕ) → at < count → at < 6 → get_or (six count none f) at none ≡ f at
  unfolding six
  six_at count at before inside =
      by_place_lem
      (λ at. at < count → get_or (six count none f) at none ≡ f at)
      (λ l. rw (lt-ltb 0 count l))
      (λ l. rw (lt-ltb 1 count l))
      (λ l. rw (lt-ltb 2 count l))
      (λ l. rw (lt-ltb 3 count l))
      (λ l. rw (lt-ltb 4 count l))
      (λ l. rw (lt-ltb 5 count l))
      at inside before

-- A list of what a function gives at each of six elements.
pub six_mapped : {A B : Type 0} (f : A → B) (none : A) (xs : List A) (ys : List B) → length xs ≡ 6 → length ys ≡ 6
    → ((at : ℕ) → at < 6 → get_or ys at (f none) ≡ f (get_or xs at none)) → ys ≡ map f xs
six_mapped f none xs ys six long each =
    ext_get_or (f none) ys (map f xs) (long ∙ sym six ∙ sym (length-map xs f)) (λ at inside. each at (omega (arith, long)) ∙ sym (get_or-map f xs at none))
