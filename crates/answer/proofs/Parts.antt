-- A part of a list, so many elements from a start on: as code lends it, its length, its elements. Assumes nothing.
use Rattle.std.proofs.Common.{◌≡◌, ap, ◌∙◌, List, [], ℕ, zero, suc, ◌+◌, ◌-◌, ◌*◌, ◌<◌, ◌≤◌, mul-zero, mul-suc, le_of_suc-le-suc, not-suc-le-zero, drop-drop, arith, length, get_or, take, drop, length-take, length-drop, get_or-take, get_or-drop}
use Rattle.std.specs.Simd.{first_chunks}
use Rattle.answer.specs.Lists.{part}

module _ (start size : ℕ) (list : List ℕ) where
  -- From a start to an end.
  pub lent_part : take (start + size - start) (drop start list) ≡ take size (drop start list)
  lent_part =
      let all : start + size - start ≡ size = omega arith in
      rw all

  pub part_size : start + size ≤ length list → length (take size (drop start list)) ≡ size
  part_size h = simp (length-take, length-drop) (omega arith)

  pub part_element : (i : ℕ) → i < size → get_or (take size (drop start list)) i 0 ≡ get_or list (start + i) 0
  part_element i h = rw (get_or-take, get_or-drop)

-- A part among the parts that the code cuts a list into.
part_of_chunks : (size n i : ℕ) (list : List ℕ) → i < n → get_or (first_chunks size n list) i [] ≡ part size i list
unfolding part
part_of_chunks size zero i list h = absurd (not-suc-le-zero h)
part_of_chunks size (suc n) zero list h = rw mul-zero
part_of_chunks size (suc n) (suc i) list h =
    part_of_chunks size n i (drop size list) (le_of_suc-le-suc h)
    ∙ ap (take size) (drop-drop (size * i) size list ∙ ap (λ (k : ℕ). drop k list) (omega (arith, mul-suc size i)))

pub part_cut : (size n i : ℕ) (list : List ℕ) {parts : List (List ℕ)} → parts ≡ first_chunks size n list → i < n → get_or parts i [] ≡ part size i list
part_cut size n i list cut h = rw cut (part_of_chunks size n i list h)
