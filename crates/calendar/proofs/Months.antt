-- Leap years, how many days a month has, and which dates there are. Assumes nothing.
use Rattle.std.proofs.Common.{◌≡◌, refl, sym, Bool, true, false, cond, ◌∷◌, ℕ, ◌+◌, ◌%◌, ◌<◌, ◌≤◌, arith, eqb, ltb, lit≤, get_or, eq-eqb, ne_eqb, eqb-true, lt-ltb, ltb-true, le-leb, leb-true}
use Rattle.std.proofs.lemmas.Bool.{and_parts}
use mathlib.Core.Bool.{and-false}
use native.Mathlib.Decide.{ℕ_discrete}
use lib.ListN.{get_or-eq_default}
use borrow.Author.Tests.{lt-leb}
use Rattle.calendar.specs.Days.{is_leap, month_lengths, days_in, is_date}

-- A leap year is a fourth year, and the one ten years after is not.
pub never_leap_after_ten : (year : ℕ) → is_leap year ≡ true → is_leap (year + 10) ≡ false
unfolding is_leap
never_leap_after_ten year leap =
    let fourth : year % 4 ≡ 0 = eqb-true (year % 4) 0 (and_parts (eqb (year % 4) 0) _ leap).0 in
    rw (ne_eqb ((year + 10) % 4) 0 (λ e. omega arith))

module _ (year month : ℕ) where
  -- There is no such month.
  pub days_none : 12 < month → 0 ≡ days_in year month
  unfolding days_in
  days_none above = rw (ne_eqb month 2 (λ e. omega arith)) (sym (get_or-eq_default (0 ∷ month_lengths) 0 above))

  -- February of a leap year.
  pub days_leap : month ≡ 2 → is_leap year ≡ true → 29 ≡ days_in year month
  unfolding days_in
  days_leap february leap = rw (eq-eqb month 2 february, leap)

  -- A month of another year, and a month that is not February.
  pub days_common : is_leap year ≡ false → get_or (0 ∷ month_lengths) month 0 ≡ days_in year month
  unfolding days_in
  days_common common = rw (common, and-false (eqb month 2))

  pub days_other : (month ≡ 2 → ⊥) → get_or (0 ∷ month_lengths) month 0 ≡ days_in year month
  unfolding days_in
  days_other other = rw (ne_eqb month 2 other)

-- February has 28 days or 29,
pub february_days : (year : ℕ) → (28 ≤ days_in year 2) × (days_in year 2 ≤ 29)
unfolding days_in
february_days year = go (is_leap year)
  where
    go : (leap : Bool) → (28 ≤ cond leap 29 28) × (cond leap 29 28 ≤ 29)
    go true = (lit≤ tt, lit≤ tt)
    go false = (lit≤ tt, lit≤ tt)

-- and 29 in leap years alone.
pub february_leap : (year : ℕ) → 29 ≤ days_in year 2 → is_leap year ≡ true
unfolding days_in
february_leap year = go (is_leap year)
  where
    go : (leap : Bool) → 29 ≤ cond leap 29 28 → leap ≡ true
    go true most = refl
    go false most = absurd (omega arith)

-- A day of a month in one year is a day of that month in every year, but for 29 February.
pub days_kept : (year other month day : ℕ) → day ≤ days_in year month → (month ≡ 2 → day ≡ 29 → ⊥) → day ≤ days_in other month
days_kept year other month day most common = go (ℕ_discrete month 2)
  where
    go : Dec (month ≡ 2) → day ≤ days_in other month
    go (yes february) = rw february (omega (arith, rw february at most, (february_days year).1, (february_days other).0, common february))
    go (no another) = rw (← days_other other month another) (rw (← days_other year month another) at most)

-- Dates, by the day of the month.
module _ (year month day : ℕ) where
  pub date_known : is_date year month day ≡ true → (0 < day) × (day ≤ days_in year month)
  unfolding is_date
  date_known h =
      let tests = and_parts (ltb 0 day) _ h in
      (ltb-true 0 day tests.0, leb-true day (days_in year month) tests.1)

  pub date_there : 0 < day → day ≤ days_in year month → is_date year month day ≡ true
  unfolding is_date
  date_there some most = rw (lt-ltb 0 day some) (le-leb day (days_in year month) most)

  pub date_missing : days_in year month < day → is_date year month day ≡ false
  unfolding is_date
  date_missing above = rw (lt-leb day (days_in year month) above, and-false (ltb 0 day))
