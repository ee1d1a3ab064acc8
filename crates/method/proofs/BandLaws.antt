-- Bands and the layout factor: the test by which a band is computed; a band never rises as more is required, and with the higher band kept
-- the factor never rises as bands fall. Assumes nothing.
use Rattle.std.proofs.Common.{◌≡◌, refl, sym, ap, ◌∙◌, Bool, true, false, not, ◌&&◌, ◌||◌, [], ℕ, ◌+◌, ◌*◌, ◌/◌, ◌%◌, ◌≤◌, zero-le, max, cond, count_by, ◌∷◌, mul-add, mul_left_comm, mul-le-mul_left, le_refl, le_trans, add-le-add, arith, length, get_or, unwrap_or, eqb, leb, lit≤, leb-true, leb-false, le-leb, eqb-true, eq-eqb}
use mir.Val.{bool_byte}
use native.Mathlib.Nat.{min-le_right}
use native.Mathlib.Decide.{dec_le}
use lib.ListN.{get_or-eq_default}
use borrow.Author.Tests.{lt-leb}
use Rattle.method.specs.declared.rows.Storey.{Storey}
use Rattle.method.specs.declared.rows.Strengths.{Strengths}
use Rattle.method.specs.declared.rows.Bands.{Bands}
use Rattle.method.specs.Printed.{nth, numbered}
use Rattle.method.specs.Worked.{bands}
use Rattle.method.specs.LayoutFactor.{NoStronger, reached, band, floor_type, layout_factors, layout_factor}
use Rattle.method.proofs.Tables.{numbered_nth, nth_none, implied, every, get_or_every, nth_every, small, short, every_below, at_every}
use Rattle.method.proofs.Branches.{cond_most, cond_least}

-- The function's test, which has no product beyond 64 bits, is the definition's: limit × required / 100,000, rounded up, is at most what is
-- held just where limit × required is at most 100,000 × held.
pub reached_test : (held required limit : ℕ)
    → leb (limit * (required / 100_000) + (limit * (required % 100_000) + 99_999) / 100_000) held ≡ leb (limit * required) (100_000 * held)
reached_test held required limit =
    go (leb (limit * (required / 100_000) + (limit * (required % 100_000) + 99_999) / 100_000) held) refl
  where
    apart : limit * required ≡ 100_000 * (limit * (required / 100_000)) + limit * (required % 100_000)
    apart =
        let sum : required ≡ 100_000 * (required / 100_000) + required % 100_000 = omega arith in
        ap (λ (n : ℕ). limit * n) sum ∙ rw (mul-add limit _ _, mul_left_comm limit 100_000 _)

    go : (t : Bool) → leb (limit * (required / 100_000) + (limit * (required % 100_000) + 99_999) / 100_000) held ≡ t
        → t ≡ leb (limit * required) (100_000 * held)
    go true e = sym (le-leb (limit * required) (100_000 * held) (omega (arith, apart, leb-true _ held e)))
    go false e = sym (lt-leb (limit * required) (100_000 * held) (omega (arith, apart, leb-false _ held e)))

-- So it is true just where the definition's number is 1.
one_if : (t : Bool) → t ≡ eqb (cond t 1 0) 1
one_if true = refl
one_if false = refl

pub reached_known : (held required limit : ℕ)
    → leb (limit * (required / 100_000) + (limit * (required % 100_000) + 99_999) / 100_000) held
    ≡ eqb (reached (record { held = held; required = required }) limit) 1
unfolding reached
reached_known held required limit = reached_test held required limit ∙ one_if (leb (limit * required) (100_000 * held))

-- A limit is reached or not.
pub reached_most : (end : Strengths) (limit : ℕ) → reached end limit ≤ 1
unfolding reached
reached_most end limit = cond_most (leb (limit * end.required) (100_000 * end.held)) (λ e. lit≤ tt) (λ e. lit≤ tt)

-- A sufficiency that falls reaches no more limits.
module _ {end weaker : Strengths} (falls : NoStronger end weaker) where
  reached_falls : (limit : ℕ) → reached weaker limit ≤ reached end limit
  unfolding reached
  reached_falls limit =
      let needs : limit * end.required ≤ limit * weaker.required = mul-le-mul_left limit falls.needs in
      cond_most (leb (limit * weaker.required) (100_000 * weaker.held))
      (λ e. rw (le-leb (limit * end.required) (100_000 * end.held) (omega (arith, falls.holds, leb-true (limit * weaker.required) (100_000 * weaker.held) e)))
      (le_refl 1))
      (λ e. zero-le)

  pub band_falls : band weaker ≤ band end
  unfolding band
  band_falls = add-le-add (add-le-add (add-le-add (reached_falls _) (reached_falls _)) (reached_falls _)) (reached_falls _)

pub band_most : (end : Strengths) → band end ≤ 4
unfolding band
band_most end = add-le-add (add-le-add (add-le-add (reached_most end _) (reached_most end _)) (reached_most end _)) (reached_most end _)

-- A floor type stays 1 to 3.
pub floor_least : (storey : Storey) → 1 ≤ storey.floor → 1 ≤ floor_type storey
unfolding floor_type
floor_least storey some = cond_least (eqb storey.void 1) (λ e. omega arith) (λ e. some)

pub floor_most : (storey : Storey) → storey.floor ≤ 3 → floor_type storey ≤ 3
unfolding floor_type
floor_most storey most = cond_most (eqb storey.void 1) (λ e. min-le_right (storey.floor + 1) 3) (λ e. most)

-- What the layout factor is, by the table.
module _ (ends : Bands) (floor : ℕ) where
  pub layout_numbered : unwrap_or (numbered (get_or (get_or layout_factors ends.a []) ends.b []) floor) 0 ≡ layout_factor ends floor
  unfolding layout_factor
  layout_numbered = numbered_nth (get_or (get_or layout_factors ends.a []) ends.b []) floor 0

  pub layout_no_pair : get_or (get_or layout_factors ends.a []) ends.b [] ≡ [] → 0 ≡ layout_factor ends floor
  unfolding layout_factor
  layout_no_pair none = rw none (sym (nth_none {A = ℕ} [] floor 0 (λ some most. omega arith)))

  pub layout_no_band : 5 ≤ ends.a → 0 ≡ layout_factor ends floor
  unfolding layout_factor
  layout_no_band beyond = rw (get_or-eq_default layout_factors [] beyond) (sym (nth_none {A = ℕ} [] floor 0 (λ some most. omega arith)))

  pub layout_no_other : 5 ≤ ends.b → 0 ≡ layout_factor ends floor
  unfolding layout_factor
  layout_no_other beyond =
      let five : length (get_or layout_factors ends.a []) ≤ 5 = leb-true _ 5 (get_or_every (short 5) refl layout_factors refl ends.a) in
      rw (get_or-eq_default (get_or layout_factors ends.a []) [] (le_trans five beyond)) (sym (nth_none {A = ℕ} [] floor 0 (λ some most. omega arith)))

  pub layout_no_floor : (1 ≤ floor → floor ≤ 3 → ⊥) → 0 ≡ layout_factor ends floor
  unfolding layout_factor
  layout_no_floor none =
      let row = get_or layout_factors ends.a [] in
      let cell = get_or row ends.b [] in
      let three = leb-true (length cell) 3 (get_or_every (short 3) refl row (get_or_every (every (short 3)) refl layout_factors refl ends.a) ends.b) in
      sym (nth_none cell floor 0 (λ some most. none some (le_trans most three)))

-- No layout factor is above 100.
pub layout_most : (ends : Bands) (floor : ℕ) → layout_factor ends floor ≤ 100
unfolding layout_factor
layout_most ends floor =
    leb-true _ 100
    (nth_every (small 100) refl (get_or (get_or layout_factors ends.a []) ends.b [])
    (get_or_every (every (small 100)) refl (get_or layout_factors ends.a []) (get_or_every (every (every (small 100))) refl layout_factors refl ends.a) ends.b) floor)

-- The test of table 4.11: from one pair of bands to a pair where neither is higher and the higher of the two is the same, the factor does
-- not rise.
falling : ℕ → ℕ → ℕ → ℕ → ℕ → Bool
falling floor one other one' other' =
    not (leb one' one && leb other' other && eqb (max one' other') (max one other))
    || leb (layout_factor (bands one' other') floor) (layout_factor (bands one other) floor)

all_falling :
    every_below 4 (λ floor. every_below 5 (λ one. every_below 5 (λ other. every_below 5 (λ one'. every_below 5 (λ other'. falling floor one other one' other'))))) ≡ true
unfolding every_below falling layout_factor nth
all_falling = refl

-- With the higher band kept the layout factor never rises. Where there is no such band or floor type it is 0.
pair_falls : {one other one' other' : ℕ} (floor : ℕ) → one' ≤ one → other' ≤ other → max one' other' ≡ max one other
    → layout_factor (bands one' other') floor ≤ layout_factor (bands one other) floor
unfolding falling
pair_falls {one} {other} {one'} {other'} floor lower lower' kept = go (dec_le one' 4) (dec_le other' 4) (dec_le floor 3)
  where
    go : Dec (one' ≤ 4) → Dec (other' ≤ 4) → Dec (floor ≤ 3) → layout_factor (bands one' other') floor ≤ layout_factor (bands one other) floor
    go (no beyond) h k = rw (← layout_no_band (bands one' other') floor (omega (arith, beyond))) zero-le
    go (yes known) (no beyond) k = rw (← layout_no_other (bands one' other') floor (omega (arith, beyond))) zero-le
    go (yes known) (yes known') (no beyond) = rw (← layout_no_floor (bands one' other') floor (λ some most. beyond most)) zero-le
    go (yes known) (yes known') (yes few) =
        leb-true (layout_factor (bands one' other') floor) (layout_factor (bands one other) floor)
        (implied (leb one' one && leb other' other && eqb (max one' other') (max one other))
        (at_every 5 _
        (at_every 5 _ (at_every 5 _ (at_every 5 _ (at_every 4 _ all_falling floor (omega arith)) one (omega arith)) other (omega arith)) one' (omega arith))
        other' (omega arith))
        (rw (le-leb one' one lower, le-leb other' other lower', eq-eqb (max one' other') (max one other) kept)))

pub layout_falls : (ends worse : Bands) (floor : ℕ) → worse.a ≤ ends.a → worse.b ≤ ends.b → max worse.a worse.b ≡ max ends.a ends.b
    → layout_factor worse floor ≤ layout_factor ends floor
unfolding layout_factor
layout_falls ends worse floor a b kept = pair_falls floor a b kept

-- It does not matter which end is which.
mirrored : ℕ → ℕ → ℕ → Bool
mirrored floor one other = eqb (layout_factor (bands one other) floor) (layout_factor (bands other one) floor)

all_mirrored : every_below 4 (λ floor. every_below 5 (λ one. every_below 5 (λ other. mirrored floor one other))) ≡ true
unfolding every_below mirrored layout_factor nth
all_mirrored = refl

pair_mirrored : (one other floor : ℕ) → layout_factor (bands one other) floor ≡ layout_factor (bands other one) floor
unfolding mirrored
pair_mirrored one other floor = go (dec_le one 4) (dec_le other 4) (dec_le floor 3)
  where
    go : Dec (one ≤ 4) → Dec (other ≤ 4) → Dec (floor ≤ 3) → layout_factor (bands one other) floor ≡ layout_factor (bands other one) floor
    go (no beyond) h k = sym (layout_no_band (bands one other) floor (omega (arith, beyond))) ∙ layout_no_other (bands other one) floor (omega (arith, beyond))
    go (yes known) (no beyond) k = sym (layout_no_other (bands one other) floor (omega (arith, beyond))) ∙ layout_no_band (bands other one) floor (omega (arith, beyond))
    go (yes known) (yes known') (no beyond) =
        sym (layout_no_floor (bands one other) floor (λ some most. beyond most)) ∙ layout_no_floor (bands other one) floor (λ some most. beyond most)
    go (yes known) (yes known') (yes few) =
        eqb-true (layout_factor (bands one other) floor) (layout_factor (bands other one) floor)
        (at_every 5 _ (at_every 5 _ (at_every 4 _ all_mirrored floor (omega arith)) one (omega arith)) other (omega arith))

pub layout_mirrored : (ends : Bands) (floor : ℕ) → layout_factor ends floor ≡ layout_factor (record { a = ends.b; b = ends.a }) floor
unfolding layout_factor
layout_mirrored ends floor = pair_mirrored ends.a ends.b floor

-- What the function adds for a limit, 1 where it is reached, is the definition's number.
pub reached_added : (end : Strengths) (limit : ℕ) {added : ℕ} {found : Bool} → added ≡ bool_byte found → found ≡ eqb (reached end limit) 1
    → added ≡ reached end limit
unfolding reached
reached_added end limit adds finds = adds ∙ ap bool_byte finds ∙ one (leb (limit * end.required) (100_000 * end.held))
  where
    one : (t : Bool) → bool_byte (eqb (cond t 1 0) 1) ≡ cond t 1 0
    one true = refl
    one false = refl

-- The band is how many of the limits are reached.
pub band_counted : (end : Strengths) → count_by (λ (limit : ℕ). eqb (reached end limit) 1) (33 ∷ 66 ∷ 100 ∷ 133 ∷ []) ≡ band end
unfolding band reached
band_counted end =
    go (leb (33 * end.required) (100_000 * end.held)) (leb (66 * end.required) (100_000 * end.held)) (leb (100 * end.required) (100_000 * end.held))
    (leb (133 * end.required) (100_000 * end.held))
  where
    one : (t : Bool) → cond (eqb (cond t 1 0) 1) 1 0 ≡ cond {A = ℕ} t 1 0
    one t = ap (λ (u : Bool). cond {A = ℕ} u 1 0) (sym (one_if t))

    go : (b c d e : Bool)
        → 0 + cond (eqb (cond b 1 0) 1) 1 0 + cond (eqb (cond c 1 0) 1) 1 0 + cond (eqb (cond d 1 0) 1) 1 0 + cond (eqb (cond e 1 0) 1) 1 0
        ≡ cond b 1 0 + cond c 1 0 + cond d 1 0 + cond e 1 0
    go b c d e = omega (arith, one b, one c, one d, one e)
