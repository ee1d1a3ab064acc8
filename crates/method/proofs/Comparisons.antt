-- The score never rises, and the verdict's number never falls, as strength falls, more is required, or layout or deterioration get worse.
-- Assumes nothing.
use Rattle.std.proofs.Common.{◌≡◌, false, ℕ, zero, suc, ◌*◌, ◌/◌, ◌<◌, ◌≤◌, zero-le, max, le_refl, le_trans, le_of_eq, mul-le-mul, mul-le-mul_left, mul-le-mul_right, mul-pos, mul_assoc, mul_comm, mul_left_comm, le_of_mul-le-mul_right, le-div_iff_mul-le, div-mul-le_self, arith, leb, lit≤, leb-false}
use native.Mathlib.Nat.{div-zero, le-min, min-le_left, min-le_right}
use borrow.Author.Tests.{lt-leb}
use Rattle.method.specs.declared.deterioration.Fraction.{Fraction}
use Rattle.method.specs.declared.rows.Strengths.{Strengths}
use Rattle.method.specs.LayoutFactor.{NoStronger, band, layout_factor}
use Rattle.method.specs.Deterioration.{◌at_most◌}
use Rattle.method.specs.Score.{quotient, score, score_before_layout, verdict}
use Rattle.method.proofs.Branches.{cond_most, cond_least}
use Rattle.method.proofs.BandLaws.{band_falls, layout_falls}

-- One quotient is at most another, both rounded down, where it is so with both sides multiplied out. A quotient by 0 is 0.
pub quotient_le : (a b c : ℕ) {d : ℕ} → 0 < d → a * d ≤ c * b → a / b ≤ c / d
quotient_le a zero c hd crossed = rw (div-zero a) zero-le
quotient_le a (suc n) c {d} hd crossed =
    let b = suc n in
    let regrouped : a / b * d * b ≡ a / b * b * d = simp (mul_assoc, mul_comm, mul_left_comm) in
    let below : a / b * b * d ≤ a * d = mul-le-mul_right d (div-mul-le_self a b) in
    (le-div_iff_mul-le hd).1 (le_of_mul-le-mul_right (le_trans (le_of_eq regrouped) (le_trans below crossed)) (omega arith))

regroup : (a b c d : ℕ) → a * b * (c * d) ≡ a * c * (b * d)
regroup a b c d = simp (mul_assoc, mul_left_comm)

module _
    {all weaker : Strengths} {layout worse : ℕ} (f g : Fraction)
    (less : NoStronger all weaker) (lower : worse ≤ layout) (falls : g at_most f)
  where
    crossed : 1000 * weaker.held * worse * g.upper * (all.required * f.lower) ≤ 1000 * all.held * layout * f.upper * (weaker.required * g.lower)
    crossed =
        rw (
          regroup (1000 * weaker.held * worse) g.upper all.required f.lower,
          regroup (1000 * all.held * layout) f.upper weaker.required g.lower,
        )
        (mul-le-mul (mul-le-mul (mul-le-mul (mul-le-mul_left 1000 less.holds) lower) less.needs) falls)

    -- The full score, rounding down included.
    pub score_falls : 0 < all.required → 0 < f.lower → score weaker worse g ≤ score all layout f
    unfolding score quotient
    score_falls needs hf =
        let lesser = 1000 * weaker.held * worse * g.upper in
        let greater = 1000 * all.held * layout * f.upper in
        le-min
        (le_trans (min-le_left (lesser / (weaker.required * g.lower)) 999)
        (quotient_le lesser (weaker.required * g.lower) greater (mul-pos needs hf) crossed))
        (min-le_right (lesser / (weaker.required * g.lower)) 999)

-- The score before the layout factor.
pub score_before_falls : {all weaker : Strengths} (f g : Fraction) → NoStronger all weaker → g at_most f → 0 < all.required → 0 < f.lower
    → score_before_layout weaker g ≤ score_before_layout all f
score_before_falls f g less falls needs hf = score_falls f g less (le_refl _) falls needs hf

-- The full score of a storey and direction and its two ends, as they get no stronger, where the higher band is kept.
pub full_score_falls : {all weaker a a' b b' : Strengths} (floor : ℕ) (f g : Fraction)
    → NoStronger all weaker → NoStronger a a' → NoStronger b b' → g at_most f → max (band a') (band b') ≡ max (band a) (band b)
    → 0 < all.required → 0 < f.lower
    → score weaker (layout_factor (record { a = band a'; b = band b' }) floor) g ≤ score all (layout_factor (record { a = band a; b = band b }) floor) f
full_score_falls floor f g less a-less b-less falls kept needs hf =
    score_falls f g less (layout_falls _ _ floor (band_falls a-less) (band_falls b-less) kept) falls needs hf

-- The verdict's number is 1 to 4, and never falls when the least score falls.
pub verdict_least : (least : ℕ) → 1 ≤ verdict least
unfolding verdict
verdict_least least =
    cond_least (leb 150 least) (λ e. lit≤ tt)
    (λ e. cond_least (leb 100 least) (λ d. lit≤ tt) (λ d. cond_least (leb 70 least) (λ f. lit≤ tt) (λ f. lit≤ tt)))

pub verdict_most : (least : ℕ) → verdict least ≤ 4
unfolding verdict
verdict_most least =
    cond_most (leb 150 least) (λ e. lit≤ tt)
    (λ e. cond_most (leb 100 least) (λ d. lit≤ tt) (λ d. cond_most (leb 70 least) (λ f. lit≤ tt) (λ f. lit≤ tt)))

-- A limit that a score does not reach, a lower one does not.
under : {lower least : ℕ} → lower ≤ least → (limit : ℕ) → leb limit least ≡ false → leb limit lower ≡ false
under {lower} {least} falls limit e = lt-leb limit lower (omega (arith, leb-false limit least e, falls))

pub verdict_rises : {lower least : ℕ} → lower ≤ least → verdict least ≤ verdict lower
unfolding verdict
verdict_rises {lower} {least} falls =
    cond_most (leb 150 least) (λ e. verdict_least lower)
    (λ a. rw (under falls 150 a)
    (cond_most (leb 100 least) (λ e. cond_least (leb 100 lower) (λ d. lit≤ tt) (λ d. cond_least (leb 70 lower) (λ f. lit≤ tt) (λ f. lit≤ tt)))
    (λ b. rw (under falls 100 b)
    (cond_most (leb 70 least) (λ e. cond_least (leb 70 lower) (λ d. lit≤ tt) (λ d. lit≤ tt)) (λ c. rw (under falls 70 c) (le_refl 4))))))
