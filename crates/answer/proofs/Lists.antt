-- Laws on lists: stores that fill a list, storage that is written from its front, parts that are joined. Assumes nothing.
use Rattle.std.proofs.Common.{◌≡◌, refl, sym, ap, ap₂, ◌∙◌, List, [], ◌∷◌, ◌++◌, append_assoc, append-nil, ℕ, zero, suc, ◌+◌, ◌*◌, ◌-◌, ◌<◌, ◌≤◌, add-zero, add-suc, le_refl, mul-suc, mul-zero, mul-le-mul_left, not-suc-le-zero, add-one, arith, length, get_or, take, drop, set, length-append, length-drop, drop_of_length-le, take_at, drop_at, drop-drop, take_all, take-take, length-take-le, take-add, take-suc}
use native.Mathlib.Nat.{sub-zero}
use native.Mathlib.Decide.{dec_lt}
use lib.Seq.{sets, sets-eq, set_split, take-append-le, drop-append-le, append_snoc}
use borrow.Rule.Slice.PartMut.{put_mid, post_of, Post-is}
use Rattle.answer.proofs.Parts.{lent_part, part_size, part_element}
use Rattle.answer.specs.Lists.{joined, part, over}

-- As many stores as there are elements leave nothing of them.
pub filled : (l vs : List ℕ) → length l ≡ length vs → sets l 0 vs ≡ vs
filled l vs e = sets-eq vs l 0 (omega arith) ∙ rw (drop_of_length-le l {i = 0 + length vs} (omega arith)) (append-nil vs)

-- Storage that is written from its front.
module _ (lent x : List ℕ) where
  pub over_length : length x ≤ length lent → length (over lent x) ≡ length lent
  unfolding over
  over_length h = simp (length-append, length-drop) (omega arith)

  -- A part after what is written already.
  pub over_part : (y : List ℕ) (n m : ℕ) → length x ≡ n → length y ≡ m → n + m ≤ length lent
      → take n (over lent x) ++ y ++ drop (n + m) (over lent x) ≡ over lent (x ++ y)
  unfolding over
  over_part y n m ex ey h =
      let rest : List ℕ = drop (length x) lent in
      let long : length x + m ≡ length (x ++ y) = simp length-append (omega arith) in
      ap₂ {B = List ℕ} (λ (a b : List ℕ). a ++ y ++ b)
      (take_at x rest n ex)
      (sym (drop-drop m n (x ++ rest)) ∙ ap (drop m) (drop_at x rest n ex) ∙ drop-drop m (length x) lent ∙ ap (λ (k : ℕ). drop k lent) long)

  -- One element after what is written already.
  pub over_set : (v n : ℕ) → length x ≡ n → n < length lent → set (over lent x) n v ≡ over lent (x ++ (v ∷ []))
  over_set v n ex h =
      let inside : n < length (over lent x) = rw (over_length (omega arith)) h in
      set_split (over lent x) n v inside
      ∙ sym (append_snoc (take n (over lent x)) v (drop (suc n) (over lent x)))
      ∙ rw (← add-one) (over_part (v ∷ []) n 1 ex refl (omega arith))

-- The front of a list, and one element more of it.
pub over_more : (lent x l : List ℕ) (at : ℕ) → at < length x → length x ≤ length lent → l ≡ over lent (take at x)
    → set l at (get_or x at 0) ≡ over lent (take (at + 1) x)
over_more lent x l at inside fits e =
    rw (e, add-one, take-suc x at 0 inside) (over_set lent (take at x) (get_or x at 0) at (length-take-le at x (omega arith)) (omega arith))

-- What is written is the front of the storage, as the code lends it.
pub over_front : (lent x : List ℕ) (n : ℕ) → length x ≡ n → take (n - 0) (over lent x) ≡ x
unfolding over
over_front lent x n e = rw sub-zero (take_at x (drop (length x) lent) n e)

-- Storage that is written whole.
pub over_whole : (lent x : List ℕ) → length x ≡ length lent → over lent x ≡ x
unfolding over
over_whole lent x e = rw (drop_of_length-le lent {i = length x} (omega arith)) (append-nil x)

-- A part that was lent has come back.
pub part_put : (a size : ℕ) (l y : List ℕ) → put_mid a (a + size - a) l y ≡ take a l ++ y ++ drop (a + size) l
part_put a size l y =
    sym (append_assoc (take a l) y (post_of a (a + size - a) l))
    ∙ ap (λ (r : List ℕ). take a l ++ y ++ r) (Post-is a (a + size) l (omega arith))

-- Parts.
pub part_length : (size i : ℕ) (l : List ℕ) → size * i + size ≤ length l → length (part size i l) ≡ size
unfolding part
part_length size i l h = part_size (size * i) size l h

-- A part as the code lends it, from a start to an end.
pub part_lent : (size i : ℕ) (l : List ℕ) → take (size * i + size - size * i) (drop (size * i) l) ≡ part size i l
unfolding part
part_lent size i l = lent_part (size * i) size l

pub part_append : (size i : ℕ) (l m : List ℕ) → size * i + size ≤ length l → part size i (l ++ m) ≡ part size i l
unfolding part
part_append size i l m h =
    ap (take size) (drop-append-le (size * i) l m (omega arith))
    ∙ take-append-le size (drop (size * i) l) m (simp length-drop (omega arith))

pub part_at : (size i : ℕ) (l : List ℕ) (j : ℕ) → j < size → get_or (part size i l) j 0 ≡ get_or l (size * i + j) 0
unfolding part
part_at size i l j h = part_element (size * i) size l j h

-- A part has one part of its own size, itself.
pub part_again : (size i : ℕ) (l : List ℕ) → part size 0 (part size i l) ≡ part size i l
unfolding part
part_again size i l = rw mul-zero (take-take size size (drop (size * i) l) (le_refl size))

pub part_whole : (size : ℕ) (l : List ℕ) → length l ≡ size → part size 0 l ≡ l
unfolding part
part_whole size l e = rw mul-zero (take_all size l (omega arith))

-- Joined lists, some and then the others.
pub joined_add : (f : ℕ → List ℕ) (n m : ℕ) → joined (n + m) f ≡ joined n f ++ joined m (λ i. f (n + i))
unfolding joined
joined_add f n zero = rw add-zero (sym (append-nil (joined n f)))
joined_add f n (suc m) = rw (add-suc, joined_add f n m) (append_assoc (joined n f) (joined m (λ i. f (n + i))) (f (n + m)))

-- Joined lists, each as long as the others.
module _ (size : ℕ) (f : ℕ → List ℕ) (long : (i : ℕ) → length (f i) ≡ size) where
  pub joined_length : (n : ℕ) → length (joined n f) ≡ size * n
  unfolding joined
  joined_length zero = rw mul-zero
  joined_length (suc n) = rw (length-append, joined_length n, long n, mul-suc)

  pub joined_part : (n i : ℕ) → i < n → part size i (joined n f) ≡ f i
  unfolding joined part
  joined_part zero i h = absurd (not-suc-le-zero h)
  joined_part (suc n) i h = go (dec_lt i n) (joined_part n i)
    where
      go : Dec (i < n) → (i < n → part size i (joined n f) ≡ f i) → part size i (joined n f ++ f n) ≡ f i
      go (yes l) earlier =
          let fits : size * suc i ≤ size * n = mul-le-mul_left size l in
          part_append size i (joined n f) (f n) (omega (arith, joined_length n, mul-suc size i)) ∙ earlier l
      go (no l) earlier =
          let last : i ≡ n = omega arith in
          rw last
          (ap (take size) (drop_at (joined n f) (f n) (size * n) (joined_length n))
          ∙ take_all size (f n) (omega (arith, long n)))

  -- One more list, written over the part after those before it.
  pub joined_over : (lent l y : List ℕ) (n : ℕ) → size * n + size ≤ length lent → l ≡ over lent (joined n f) → y ≡ f n
      → put_mid (size * n) (size * n + size - size * n) l y ≡ over lent (joined (n + 1) f)
  unfolding joined
  joined_over lent l y n h e g =
      part_put (size * n) size l y
      ∙ rw (e, g, add-one) (over_part lent (joined n f) (f n) (size * n) size (joined_length n) (long n) h)

pub joined_same : (f g : ℕ → List ℕ) (n : ℕ) → ((i : ℕ) → i < n → f i ≡ g i) → joined n f ≡ joined n g
unfolding joined
joined_same f g zero h = refl
joined_same f g (suc n) h = ap₂ {B = List ℕ} (λ (a b : List ℕ). a ++ b) (joined_same f g n (λ i l. h i (omega arith))) (h n (omega arith))

pub joined_parts : (size n : ℕ) (l : List ℕ) → joined n (λ i. part size i l) ≡ take (size * n) l
unfolding joined part
joined_parts size zero l = rw mul-zero
joined_parts size (suc n) l = rw (joined_parts size n l, mul-suc, take-add)

pub joined_elements : (n : ℕ) (l : List ℕ) → n ≤ length l → joined n (λ i. get_or l i 0 ∷ []) ≡ take n l
unfolding joined
joined_elements zero l h = refl
joined_elements (suc n) l h = rw (joined_elements n l (omega arith), take-suc l n 0 h)

pub joined_at : (v : ℕ → ℕ) (n k : ℕ) → k < n → get_or (joined n (λ i. v i ∷ [])) k 0 ≡ v k
joined_at v n k h =
    let l = joined n (λ i. v i ∷ []) in
    let same : k ≡ 1 * k + 0 = omega arith in
    ap (λ (i : ℕ). get_or l i 0) same ∙ sym (part_at 1 k l 0 (omega arith)) ∙ ap (λ (p : List ℕ). get_or p 0 0) (joined_part 1 (λ i. v i ∷ []) (λ i. refl) n k h)
