-- The points of a set: how many of its items have each weight, by a mask and a count of ones; and more marks are no fewer points. Assumes
-- nothing.
use Rattle.std.proofs.Common.{◌≡◌, ◌∙◌, refl, sym, ap, ap₂, subst, Bool, true, false, cond, ◌&&◌, List, [], ◌∷◌, ℕ, ◌+◌, ◌*◌, ◌/◌, ◌%◌, ◌^◌, ◌<◌, ◌≤◌, zero-le, min, lt_of_le_of_lt, add-le-add, mul-le-mul_left, add-mul, mul_assoc, arith, T, eqb, ltb, ltb→lt, lit<, lit≤, bit_and, eqb-true, ltb-true, lt-ltb, eq-eqb}
use native.Mathlib.Nat.{min-le_right}
use lib.Bits.{and_step, and_zero_r, and_le_r}
use lib.Count.{ones_in, ones, ones_step, ones-le}
use Rattle.std.proofs.lemmas.Bool.{and_parts}
use Rattle.method.specs.Deterioration.{item_points, item_points_under_ten, points, counted_marks}
use Rattle.method.proofs.Tables.{every}
use Rattle.method.proofs.Branches.{cond_most}

-- The items of both of two sets, digit by digit.
module _ (set other : ℕ) where
  and_first : bit_and set other % 2 ≡ min (set % 2) (other % 2)
  and_first = omega (arith, and_step set other)

  and_rest : bit_and set other / 2 ≡ bit_and (set / 2) (other / 2)
  and_rest = omega (arith, and_step set other)

-- How many items of a weight are in a set, by a column of points.
unfoldable items_of : ℕ → List ℕ → ℕ → ℕ
items_of weight [] set = 0
items_of weight (p ∷ ps) set = cond (eqb p weight) (set % 2) 0 + items_of weight ps (set / 2)

-- The set of all items of a weight.
abbrev mask : ℕ → List ℕ → ℕ
mask weight [] = 0
mask weight (p ∷ ps) = mask weight ps * 2 + cond (eqb p weight) 1 0

-- A mask's first item, and the rest of it.
one_more : (set rest first : ℕ) → first < 2 → ones (bit_and set (rest * 2 + first)) ≡ min (set % 2) first + ones (bit_and (set / 2) rest)
one_more set rest first digit =
    let this : (rest * 2 + first) % 2 ≡ first = omega arith in
    let others : (rest * 2 + first) / 2 ≡ rest = omega arith in
    ones_step (bit_and set (rest * 2 + first))
    ∙ ap₂ (λ (x y : ℕ). x + ones y)
    (and_first set (rest * 2 + first) ∙ ap (min (set % 2)) this)
    (and_rest set (rest * 2 + first) ∙ ap (bit_and (set / 2)) others)

-- Mask by weight, then count ones.
counted : (weight : ℕ) (ps : List ℕ) (set : ℕ) → ones (bit_and set (mask weight ps)) ≡ items_of weight ps set
unfolding items_of ones ones_in
counted weight [] set = rw (and_zero_r set)
counted weight (p ∷ ps) set = go (eqb p weight) (counted weight ps (set / 2))
  where
    go : (t : Bool) → ones (bit_and (set / 2) (mask weight ps)) ≡ items_of weight ps (set / 2)
        → ones (bit_and set (mask weight ps * 2 + cond t 1 0)) ≡ cond t (set % 2) 0 + items_of weight ps (set / 2)
    go true rest = one_more set (mask weight ps) 1 (lit< tt) ∙ ap₂ (λ (x y : ℕ). x + y) (omega arith) rest
    go false rest = one_more set (mask weight ps) 0 (lit< tt) ∙ ap₂ (λ (x y : ℕ). x + y) (omega arith) rest

-- The test of a column of points: each is 4, 2, 1 or none.
flag : Bool → ℕ
flag t = cond t 1 0

is_weight : ℕ → Bool
is_weight p = eqb p (4 * flag (eqb p 4) + 2 * flag (eqb p 2) + flag (eqb p 1))

flagged : (t : Bool) (digit : ℕ) → cond t digit 0 ≡ flag t * digit
unfolding flag
flagged true digit = omega arith
flagged false digit = omega arith

weighed : (p digit : ℕ) → is_weight p ≡ true → p * digit ≡ 4 * (flag (eqb p 4) * digit) + 2 * (flag (eqb p 2) * digit) + flag (eqb p 1) * digit
unfolding is_weight
weighed p digit h = ap (λ (q : ℕ). q * digit) (eqb-true p (4 * flag (eqb p 4) + 2 * flag (eqb p 2) + flag (eqb p 1)) h) ∙ simp (add-mul, mul_assoc)

-- "The points follow from how many items of each weight are in the set."
by_weight : (ps : List ℕ) → every is_weight ps ≡ true → (set : ℕ)
    → 4 * items_of 4 ps set + 2 * items_of 2 ps set + items_of 1 ps set ≡ points ps set
unfolding items_of points is_weight
by_weight [] h set = refl
by_weight (p ∷ ps) h set =
    let digit = set % 2 in
    let this = weighed p digit (and_parts (is_weight p) (every is_weight ps) h).0 in
    let rest = by_weight ps (and_parts (is_weight p) (every is_weight ps) h).1 (set / 2) in
    rw (flagged (eqb p 4) digit, flagged (eqb p 2) digit, flagged (eqb p 1) digit) (omega (arith, this, rest))

-- Mask by weight, then count ones: 8 has the item of four points, 5,911 those of two, 2,272 those of one.
module _ (set : ℕ) where
  pub points_under_ten_masked : 4 * ones (bit_and set 8) + 2 * ones (bit_and set 5911) ≡ points item_points_under_ten set
  unfolding is_weight flag items_of
  points_under_ten_masked =
      rw (counted 4 item_points_under_ten set, counted 2 item_points_under_ten set) (omega (arith, by_weight item_points_under_ten refl set))

  pub points_masked : points item_points_under_ten set + ones (bit_and set 2272) ≡ points item_points set
  unfolding is_weight flag
  points_masked =
      rw (← points_under_ten_masked, counted 4 item_points set, counted 2 item_points set, counted 1 item_points set) (by_weight item_points refl set)

-- A mask of thirteen items has at most thirteen ones.
pub masked_most : (set mask : ℕ) → T (ltb mask (2 ^ 13)) → ones (bit_and set mask) ≤ 13
masked_most set mask items = ones-le 13 (bit_and set mask) (lt_of_le_of_lt (and_le_r set mask) (ltb→lt mask (2 ^ 13) items))

-- A column's points in all.
abbrev total : List ℕ → ℕ
total [] = 0
total (p ∷ ps) = p + total ps

points_total : (ps : List ℕ) (set : ℕ) → points ps set ≤ total ps
unfolding points
points_total [] set = lit≤ tt
points_total (p ∷ ps) set =
    let here : p * (set % 2) ≤ p * 1 = mul-le-mul_left p (omega arith) in
    omega (arith, points_total ps (set / 2))

pub points_most : (set : ℕ) → points item_points set ≤ 24
points_most set = points_total item_points set

pub points_under_ten_most : (set : ℕ) → points item_points_under_ten set ≤ 20
points_under_ten_most set = points_total item_points_under_ten set

-- The items of both of two sets have no more points than either.
points_within : (ps : List ℕ) (set other : ℕ) → points ps (bit_and set other) ≤ points ps other
unfolding points
points_within [] set other = lit≤ tt
points_within (p ∷ ps) set other =
    let here : bit_and set other % 2 ≤ other % 2 = rw (and_first set other) (min-le_right (set % 2) (other % 2)) in
    add-le-add (mul-le-mul_left p here) (rw (and_rest set other) (points_within ps (set / 2) (other / 2)))

-- Every mark of one set is one of the other.
module _ (fewer marked : ℕ) (within : bit_and fewer marked ≡ fewer) where
  -- More marks are no fewer points.
  pub points_rise : (ps : List ℕ) → points ps fewer ≤ points ps marked
  points_rise ps = subst (λ (set : ℕ). points ps set ≤ points ps marked) within (points_within ps fewer marked)

  not_counted : {younger : ℕ} → younger < 2 → points item_points_under_ten fewer ≡ 0 → ltb younger 2 && eqb (points item_points_under_ten fewer) 0 ≡ true
  not_counted {younger} young none = rw (lt-ltb younger 2 young, eq-eqb (points item_points_under_ten fewer) 0 none)

  -- Nor do fewer points count with more marks, or when ten years have passed.
  pub counted_rise : {younger age : ℕ} → younger ≤ age → counted_marks fewer younger ≤ counted_marks marked age
  unfolding counted_marks
  counted_rise {younger} {age} older =
      cond_most (ltb younger 2 && eqb (points item_points_under_ten fewer) 0) (λ e. zero-le)
      (λ e. go (ltb age 2 && eqb (points item_points_under_ten marked) 0) refl e)
    where
      go : (t : Bool) → ltb age 2 && eqb (points item_points_under_ten marked) 0 ≡ t → ltb younger 2 && eqb (points item_points_under_ten fewer) 0 ≡ false
          → points item_points fewer ≤ cond t 0 (points item_points marked)
      go false e counts = points_rise item_points
      go true e counts =
          let both = and_parts (ltb age 2) _ e in
          let young = ltb-true age 2 both.0 in
          let none = eqb-true (points item_points_under_ten marked) 0 both.1 in
          let none_fewer : points item_points_under_ten fewer ≡ 0 = omega (arith, none, points_rise item_points_under_ten) in
          absurd (subst T (sym (not_counted {younger = younger} (omega (arith, young, older)) none_fewer) ∙ counts) tt)

pub counted_most : (marked age : ℕ) → counted_marks marked age ≤ 24
unfolding counted_marks
counted_most marked age = cond_most (ltb age 2 && eqb (points item_points_under_ten marked) 0) (λ e. zero-le) (λ e. points_most marked)
