-- A score's whole hundredths, remainder and divisor. Assumes nothing.
use Rattle.std.proofs.Common.{◌≡◌, refl, ℕ, ◌+◌, ◌*◌, ◌<◌, ◌≤◌, min, mod-lt, div-add-mod', arith}
use Rattle.method.specs.declared.deterioration.Fraction.{Fraction}
use Rattle.method.specs.declared.rows.Strengths.{Strengths}
use Rattle.method.specs.Held.{most_held}
use Rattle.method.specs.Required.{most_required}
use Rattle.method.specs.Score.{dividend, divisor, quotient, limited, score, capped_quotient}

module _ (strengths : Strengths) (layout : ℕ) (f : Fraction) where
  -- Together they are the dividend, whatever the numbers.
  pub all_divided : let found = quotient strengths layout f in found.hundredths * found.divisor + found.remainder ≡ dividend strengths layout f
  unfolding quotient
  all_divided = div-add-mod' (dividend strengths layout f) (divisor strengths f)

  -- Where the divisor is not 0, the remainder is smaller.
  pub remainder_smaller : 0 < divisor strengths f → let found = quotient strengths layout f in found.remainder < found.divisor
  unfolding quotient
  remainder_smaller some = mod-lt (dividend strengths layout f) some

  pub divisor_is : (quotient strengths layout f).divisor ≡ divisor strengths f
  unfolding quotient
  divisor_is = refl

  -- The score is the whole hundredths, limited.
  pub score_limited : score strengths layout f ≡ limited (quotient strengths layout f)
  unfolding score
  score_limited = refl

  -- Of strengths up to 60,000 kN the quotient that the function answers is the quotient.
  pub capped_quotient_lem : strengths.held ≤ most_held → strengths.required ≤ most_required → capped_quotient strengths layout f ≡ quotient strengths layout f
  unfolding capped_quotient
  capped_quotient_lem holds needs =
      let held_all : min strengths.held most_held ≡ strengths.held = omega arith in
      let needed_all : min strengths.required most_required ≡ strengths.required = omega arith in
      rw (held_all, needed_all)
