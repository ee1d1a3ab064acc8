-- The deterioration factor, a fraction of at most 1, never rises with more marks or when ten years have passed; after repair it is the lesser of
-- that and 9/10, and what is at most another stays so. Assumes nothing.
use Rattle.std.proofs.Common.{◌≡◌, refl, Bool, true, false, cond, ◌&&◌, ℕ, ◌+◌, ◌-◌, ◌*◌, ◌<◌, ◌≤◌, mul-le-mul_right, lt_of_not-le, arith, eqb, ltb, lit<, lit≤, bit_and, eqb-true, ltb-true, ltb-false, lt-ltb, le-ltb, ne_eqb}
use borrow.Author.Tests.{eqb-false}
use Rattle.method.specs.declared.deterioration.Fraction.{Fraction}
use Rattle.method.specs.declared.rows.Items.{Items}
use Rattle.method.specs.Deterioration.{item_points, points, counted_marks, fraction, ◌at_most◌, factor_of, deterioration_factor, most_after_repair, after_repair}
use Rattle.method.proofs.Points.{points_most, counted_rise}

-- A fraction from 7/10 to 1, of numbers up to 24.
pub record Bounded (f : Fraction) : Type 0 where
  pub lower_positive : 0 < f.lower
  pub never_below : 7 * f.lower ≤ 10 * f.upper
  pub at_most_one : f.upper ≤ f.lower
  pub lower_at_most : f.lower ≤ 24

-- A choice between two fractions.
cond_bounded : (t : Bool) {f g : Fraction} → (t ≡ true → Bounded f) → (t ≡ false → Bounded g) → Bounded (cond t f g)
cond_bounded true one other = one refl
cond_bounded false one other = other refl

factor_bounded : (present marked : ℕ) → present ≤ 24 → Bounded (factor_of present marked)
unfolding factor_of
factor_bounded present marked few =
    cond_bounded (eqb marked 0) (λ e. record { lower_positive = lit< tt; never_below = lit≤ tt; at_most_one = lit≤ tt; lower_at_most = lit≤ tt })
    (λ some. cond_bounded (ltb (10 * present) (7 * present + 10 * marked))
    (λ e. record { lower_positive = lit< tt; never_below = lit≤ tt; at_most_one = lit≤ tt; lower_at_most = lit≤ tt })
    (λ e. record {
      lower_positive = omega (arith, eqb-false marked 0 some, ltb-false (10 * present) (7 * present + 10 * marked) e);
      never_below = omega (arith, ltb-false (10 * present) (7 * present + 10 * marked) e);
      at_most_one = omega arith;
      lower_at_most = few;
    }))

-- With more marks the factor is no higher.
factor_falls : (present fewer marked : ℕ) → fewer ≤ marked → factor_of present marked at_most factor_of present fewer
unfolding factor_of
factor_falls present fewer marked more =
    go (eqb fewer 0) refl (eqb marked 0) refl (ltb (10 * present) (7 * present + 10 * fewer)) refl (ltb (10 * present) (7 * present + 10 * marked)) refl
  where
    go : (f : Bool) → eqb fewer 0 ≡ f → (m : Bool) → eqb marked 0 ≡ m → (f7 : Bool) → ltb (10 * present) (7 * present + 10 * fewer) ≡ f7
        → (m7 : Bool) → ltb (10 * present) (7 * present + 10 * marked) ≡ m7
        → cond m (fraction 1 1) (cond m7 (fraction 7 10) (fraction (present - marked) present))
        at_most cond f (fraction 1 1) (cond f7 (fraction 7 10) (fraction (present - fewer) present))
    go true ef true em f7 ef7 m7 em7 = lit≤ tt
    go true ef false em f7 ef7 true em7 = lit≤ tt
    go true ef false em f7 ef7 false em7 = omega arith
    go false ef true em f7 ef7 m7 em7 = absurd (eqb-false fewer 0 ef (omega (arith, eqb-true marked 0 em, more)))
    go false ef false em true ef7 true em7 = lit≤ tt
    go false ef false em true ef7 false em7 =
        omega (arith, ltb-true (10 * present) (7 * present + 10 * fewer) ef7, ltb-false (10 * present) (7 * present + 10 * marked) em7, more)
    go false ef false em false ef7 true em7 = omega (arith, ltb-false (10 * present) (7 * present + 10 * fewer) ef7)
    go false ef false em false ef7 false em7 = mul-le-mul_right present (omega arith)

pub deterioration_bounded : (items : Items) (age : ℕ) → Bounded (deterioration_factor items age)
unfolding deterioration_factor
deterioration_bounded items age =
    factor_bounded (points item_points items.present) (counted_marks items.marked age) (points_most items.present)

-- The deterioration factor of the same present set, with every mark of the other house, or more years.
pub deterioration_falls : (items worse : Items) {younger age : ℕ} → items.present ≡ worse.present → bit_and items.marked worse.marked ≡ items.marked
    → younger ≤ age → deterioration_factor worse age at_most deterioration_factor items younger
unfolding deterioration_factor
deterioration_falls items worse {younger} {age} same within older =
    rw same
    (factor_falls (points item_points worse.present) (counted_marks items.marked younger) (counted_marks worse.marked age)
    (counted_rise items.marked worse.marked within older))

-- After repair: 9/10 where the factor is above it, and else the factor.
pub repair_bounded : (f : Fraction) (repaired : ℕ) → Bounded f → Bounded (after_repair f repaired)
unfolding after_repair
repair_bounded f repaired bounded =
    cond_bounded (eqb repaired 1 && ltb (9 * f.lower) (10 * f.upper))
    (λ e. record { lower_positive = lit< tt; never_below = lit≤ tt; at_most_one = lit≤ tt; lower_at_most = lit≤ tt }) (λ e. bounded)

module _ (f : Fraction) where
  pub repair_keeps : f at_most most_after_repair → after_repair f 1 ≡ f
  unfolding after_repair
  repair_keeps low = rw (le-ltb (9 * f.lower) (10 * f.upper) (omega (arith, low)))

  pub repair_lowers : (f at_most most_after_repair → ⊥) → after_repair f 1 ≡ most_after_repair
  unfolding after_repair
  repair_lowers above = rw (lt-ltb (9 * f.lower) (10 * f.upper) (lt_of_not-le (λ low. above (omega (arith, low)))))

  pub not_repaired : (repaired : ℕ) → (repaired ≡ 1 → ⊥) → after_repair f repaired ≡ f
  unfolding after_repair
  not_repaired repaired other = rw (ne_eqb repaired 1 other)

  -- So it is at most 9/10, and repair never raises a factor.
  pub repair_most : (after_repair f 1 at_most most_after_repair) × ((repaired : ℕ) → after_repair f repaired at_most f)
  unfolding after_repair
  repair_most = (most (ltb (9 * f.lower) (10 * f.upper)) refl, λ repaired. less (eqb repaired 1) (ltb (9 * f.lower) (10 * f.upper)) refl)
    where
      most : (above : Bool) → ltb (9 * f.lower) (10 * f.upper) ≡ above → cond above most_after_repair f at_most most_after_repair
      most true e = lit≤ tt
      most false e = omega (arith, ltb-false (9 * f.lower) (10 * f.upper) e)

      less : (repaired above : Bool) → ltb (9 * f.lower) (10 * f.upper) ≡ above → cond (repaired && above) most_after_repair f at_most f
      less false above e = omega arith
      less true true e = omega (arith, ltb-true (9 * f.lower) (10 * f.upper) e)
      less true false e = omega arith

-- What is at most another stays so, where both are repaired or neither is.
pub repair_falls : (f g : Fraction) (repaired : ℕ) → g at_most f → after_repair g repaired at_most after_repair f repaired
unfolding after_repair
repair_falls f g repaired falls =
    go (eqb repaired 1) (ltb (9 * f.lower) (10 * f.upper)) refl (ltb (9 * g.lower) (10 * g.upper)) refl
  where
    -- Where g is above 9/10 and f is not, f has no lower number.
    none_between : 9 * g.lower < 10 * g.upper → 10 * f.upper ≤ 9 * f.lower → f.lower ≡ 0
    none_between above below =
        let more : (9 * g.lower + 1) * f.lower ≤ 10 * g.upper * f.lower = mul-le-mul_right f.lower (omega arith) in
        let less : 10 * f.upper * g.lower ≤ 9 * f.lower * g.lower = mul-le-mul_right g.lower below in
        omega (arith, more, less, falls)

    go : (both : Bool) (f-above : Bool) → ltb (9 * f.lower) (10 * f.upper) ≡ f-above
        → (g-above : Bool) → ltb (9 * g.lower) (10 * g.upper) ≡ g-above
        → cond (both && g-above) most_after_repair g at_most cond (both && f-above) most_after_repair f
    go false f-above ef g-above eg = falls
    go true true ef true eg = lit≤ tt
    go true true ef false eg = omega (arith, ltb-false (9 * g.lower) (10 * g.upper) eg)
    go true false ef true eg =
        omega (arith, none_between (ltb-true (9 * g.lower) (10 * g.upper) eg) (ltb-false (9 * f.lower) (10 * f.upper) ef))
    go true false ef false eg = falls
