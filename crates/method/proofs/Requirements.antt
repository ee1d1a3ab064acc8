-- The required strength never falls with weight class, zone, ground or snow, is positive, and has a most. Assumes nothing.
use Rattle.std.proofs.Common.{◌≡◌, refl, sym, Bool, true, not, ◌&&◌, ◌||◌, List, [], ℕ, ◌+◌, ◌-◌, ◌*◌, ◌<◌, ◌≤◌, zero-le, add-le-add, mul-le-mul, mul-pos, le_refl, le_trans, arith, length, get_or, unwrap_or, eqb, leb, ltb, lit≤, leb-true, ltb-true, ltb-false, le-leb, le-ltb}
use Rattle.std.proofs.lemmas.Bool.Decides.{nat_tests}
use Rattle.method.specs.declared.rows.House.{House}
use Rattle.method.specs.declared.rows.HousePart.{HousePart}
use Rattle.method.specs.Printed.{nth, numbered}
use Rattle.method.specs.Required.{constants, snow_additions, top_line, constant, snow_addition, per_area, ground_factor, narrow_factor, required_strength, most_required}
use Rattle.method.proofs.Tables.{nth_none, numbered_nth, implied, every, get_or_every, nth_every, small, short, every_below, at_every}
use Rattle.method.proofs.Branches.{cond_most, cond_least, cond_same}

-- Three storeys begin at line 3, and no number of storeys later.
pub top_line_most : (storeys : ℕ) → top_line storeys ≤ 3
unfolding top_line
top_line_most storeys = cond_most (eqb storeys 1) (λ e. lit≤ tt) (λ e. cond_most (eqb storeys 2) (λ d. lit≤ tt) (λ d. lit≤ tt))

-- What the constant is, by the line of the table that holds it.
module _ (part : HousePart) (weight : ℕ) where
  abbrev line : ℕ
  line = top_line part.storeys + (part.storeys - part.storey)

  abbrev known : Bool
  known = leb 1 part.storey && leb part.storey part.storeys && leb part.storeys 3

  pub constant_none : (1 ≤ part.storey → part.storey ≤ part.storeys → part.storeys ≤ 3 → ⊥) → 0 ≡ constant part weight
  unfolding constant
  constant_none none = grind (arith, nat_tests)

  pub constant_no_class : (1 ≤ weight → weight ≤ 3 → ⊥) → 0 ≡ constant part weight
  unfolding constant
  constant_no_class none =
      let three : length (get_or constants line []) ≤ 3 = leb-true _ 3 (get_or_every (short 3) refl constants refl line) in
      cond_same known (sym (nth_none (get_or constants line []) weight 0 (λ some most. none some (le_trans most three)))) refl

  pub constant_numbered : 1 ≤ part.storey → part.storey ≤ part.storeys → part.storeys ≤ 3
      → unwrap_or (numbered (get_or constants line []) weight) 0 ≡ constant part weight
  unfolding constant
  constant_numbered some most few =
      rw (le-leb 1 part.storey some, le-leb part.storey part.storeys most, le-leb part.storeys 3 few)
      (numbered_nth (get_or constants line []) weight 0)

-- The test of table 4.1: every constant of a house is positive.
positive : ℕ → ℕ → ℕ → Bool
positive storeys storey weight =
    not (leb 1 storey && leb storey storeys && leb 1 weight) || ltb 0 (constant (record { storey = storey; storeys = storeys; area = 0 }) weight)

all_positive : every_below 4 (λ storeys. every_below 4 (λ storey. every_below 4 (λ weight. positive storeys storey weight))) ≡ true
unfolding every_below positive constant top_line nth
all_positive = refl

pub constant_positive : (part : HousePart) {weight : ℕ} → 1 ≤ part.storey → part.storey ≤ part.storeys → part.storeys ≤ 3 → 1 ≤ weight → weight ≤ 3
    → 0 < constant part weight
unfolding positive constant
constant_positive part {weight} some most few class last =
    let storey = part.storey in
    let storeys = part.storeys in
    ltb-true 0 (constant part weight)
    (implied (leb 1 storey && leb storey storeys && leb 1 weight)
    (at_every 4 _ (at_every 4 _ (at_every 4 _ all_positive storeys (omega arith)) storey (omega arith)) weight (omega arith))
    (rw (le-leb 1 storey some, le-leb storey storeys most, le-leb 1 weight class)))

-- A line of three numbers that never fall, of weight classes or of snow: from none, 0, to the third.
rising : List ℕ → Bool
rising line = every_below 4 (λ lower. every_below 4 (λ higher. not (leb lower higher) || leb (nth line lower 0) (nth line higher 0)))

line_rises : (line : List ℕ) → rising line ≡ true → {lower higher : ℕ} → lower ≤ higher → higher ≤ 3 → nth line lower 0 ≤ nth line higher 0
unfolding rising
line_rises line h {lower} {higher} rises last =
    leb-true (nth line lower 0) (nth line higher 0)
    (implied (leb lower higher) (at_every 4 _ (at_every 4 _ h lower (omega arith)) higher (omega arith)) (le-leb lower higher rises))

-- From one weight class to this one or a heavier, constants never fall.

all_rising : every rising constants ≡ true
unfolding every_below rising nth
all_rising = refl

none_rising : rising [] ≡ true
unfolding every_below rising nth
none_rising = refl

pub constant_rises : (part : HousePart) {lighter weight : ℕ} → lighter ≤ weight → weight ≤ 3 → constant part lighter ≤ constant part weight
unfolding constant
constant_rises part {lighter} {weight} heavier last =
    let at = line part weight in
    cond_most (known part weight)
    (λ e. rw e (line_rises (get_or constants at []) (get_or_every rising none_rising constants all_rising at) heavier last)) (λ e. zero-le)

-- What the addition for snow is; it never falls with deeper snow, and is at most 65.
pub addition_none : (snow : ℕ) → (1 ≤ snow → snow ≤ 3 → ⊥) → 0 ≡ snow_addition snow
unfolding snow_addition
addition_none snow none = sym (nth_none snow_additions snow 0 none)

pub addition_numbered : (snow : ℕ) → unwrap_or (numbered snow_additions snow) 0 ≡ snow_addition snow
unfolding snow_addition
addition_numbered snow = numbered_nth snow_additions snow 0

additions_rising : rising snow_additions ≡ true
unfolding every_below rising nth
additions_rising = refl

addition_rises : {less snow : ℕ} → less ≤ snow → snow ≤ 3 → snow_addition less ≤ snow_addition snow
unfolding snow_addition
addition_rises deeper last = line_rises snow_additions additions_rising deeper last

addition_most : (snow : ℕ) → snow_addition snow ≤ 65
unfolding snow_addition
addition_most snow = leb-true _ 65 (nth_every (small 65) refl snow_additions refl snow)

-- Very soft ground asks for more, and the factor is at least 10.
ground_least : (ground_class : ℕ) → 10 ≤ ground_factor ground_class
unfolding ground_factor
ground_least ground_class = cond_least (ltb ground_class 2) (λ e. lit≤ tt) (λ e. lit≤ tt)

pub ground_rises : {firmer ground_class : ℕ} → firmer ≤ ground_class → ground_factor firmer ≤ ground_factor ground_class
unfolding ground_factor
ground_rises {firmer} {ground_class} softer =
    cond_most (ltb firmer 2) (λ e. ground_least ground_class) (λ e. rw (le-ltb ground_class 2 (omega (arith, ltb-false firmer 2 e))) (le_refl 15))

pub ground_most : (ground_class : ℕ) → ground_factor ground_class ≤ 15
unfolding ground_factor
ground_most ground_class = cond_most (ltb ground_class 2) (λ e. lit≤ tt) (λ e. lit≤ tt)

-- The narrow factor is 100 or 113.
pub narrow_least : (narrow_above : Bool) → 100 ≤ narrow_factor narrow_above
unfolding narrow_factor
narrow_least narrow_above = cond_least narrow_above (λ e. lit≤ tt) (λ e. lit≤ tt)

pub narrow_most : (narrow_above : Bool) → narrow_factor narrow_above ≤ 113
unfolding narrow_factor
narrow_most narrow_above = cond_most narrow_above (λ e. lit≤ tt) (λ e. lit≤ tt)

-- No constant is above 207.
pub constant_most : (part : HousePart) (weight : ℕ) → constant part weight ≤ 207
unfolding constant
constant_most part weight =
    let at = line part weight in
    cond_most (known part weight)
    (λ e. leb-true _ 207 (nth_every (small 207) refl (get_or constants at []) (get_or_every (every (small 207)) refl constants refl at) weight)) (λ e. lit≤ tt)

-- The constant with the addition is at most 272.
pub per_area_most : (house : House) (part : HousePart) → per_area house part ≤ 272
unfolding per_area
per_area_most house part = omega (arith, constant_most part house.weight, addition_most house.snow)

-- The required strength of a part. It never falls with weight class, zone, ground or snow, nor with area or narrow factor.
module _ (house : House) (part : HousePart) where
  pub required_rises : (worse : House) (other : HousePart) {wider narrow : ℕ} → house.weight ≤ worse.weight → worse.weight ≤ 3
      → house.zone ≤ worse.zone → house.ground_class ≤ worse.ground_class → house.snow ≤ worse.snow → worse.snow ≤ 3
      → part.storey ≡ other.storey → part.storeys ≡ other.storeys → part.area ≤ other.area → wider ≤ narrow
      → required_strength house part wider ≤ required_strength worse other narrow
  unfolding required_strength per_area constant
  required_rises worse other heavier heaviest higher softer deeper deepest storey storeys larger narrower =
      let constants_rise : constant part house.weight ≤ constant other worse.weight = rw (← storey, ← storeys) (constant_rises part heavier heaviest) in
      mul-le-mul
      (mul-le-mul (mul-le-mul (mul-le-mul (add-le-add constants_rise (addition_rises deeper deepest)) larger) higher) (ground_rises softer)) narrower

  pub required_positive : {narrow : ℕ} → 1 ≤ part.storey → part.storey ≤ part.storeys → part.storeys ≤ 3 → 1 ≤ house.weight → house.weight ≤ 3
      → 0 < part.area → 0 < house.zone → 0 < narrow → 0 < required_strength house part narrow
  unfolding required_strength per_area
  required_positive some most few class last area zone narrow =
      let per_area : 0 < constant part house.weight + snow_addition house.snow = omega (arith, constant_positive part some most few class last) in
      mul-pos (mul-pos (mul-pos (mul-pos per_area area) zone) (le_trans (lit≤ tt) (ground_least house.ground_class))) narrow

  pub required_most : {narrow : ℕ} → part.area ≤ 50000 → house.zone ≤ 100 → narrow ≤ 113 → required_strength house part narrow ≤ most_required
  unfolding required_strength
  required_most area zone narrow =
      le_trans (mul-le-mul (mul-le-mul (mul-le-mul (mul-le-mul (per_area_most house part) area) zone) (ground_most house.ground_class)) narrow) (lit≤ tt)

-- Its factors from the left, in numbers of the code: each product is far below 2 ^ 64.
module _ (house : House) (part : HousePart) (sum area zone : ℕ) (known : sum ≡ per_area house part) (small : area ≤ 4_294_967_295) (low : zone ≤ 255) where
  pub with_zone_most : sum * area * zone ≤ 272 * 4_294_967_295 * 255
  with_zone_most =
      let most : sum ≤ 272 = rw known (per_area_most house part) in
      mul-le-mul (mul-le-mul most small) low

  module _ (ground : ℕ) (soft : ground ≡ ground_factor house.ground_class) where
    pub with_ground_most : sum * area * zone * ground ≤ 272 * 4_294_967_295 * 255 * 15
    with_ground_most =
        let most : ground ≤ 15 = rw soft (ground_most house.ground_class) in
        mul-le-mul with_zone_most most

    pub with_narrow_most : (narrow : ℕ) → narrow ≤ 255 → sum * area * zone * ground * narrow ≤ 272 * 4_294_967_295 * 255 * 15 * 255
    with_narrow_most narrow most = mul-le-mul with_ground_most most
