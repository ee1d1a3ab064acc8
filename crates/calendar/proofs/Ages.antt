-- Ten years after a day, and the age on a day. Assumes nothing.
use Rattle.std.proofs.Common.{◌≡◌, refl, ◌∙◌, Bool, true, false, cond, ℕ, ◌+◌, ◌<◌, ◌≤◌, arith, leb, lit<, lit≤, le-leb}
use native.Mathlib.Decide.{dec_le}
use borrow.Author.Tests.{lt-leb}
use Rattle.calendar.specs.Days.{days_in, is_date, is_day, year_of, month_of, day_of, numbered, ten_years_after, age_on}
use Rattle.calendar.proofs.Months.{never_leap_after_ten, days_common, february_leap, days_kept, date_known, date_there, date_missing}
use Rattle.calendar.proofs.Numbers.{numbered_day}

module _ (day : ℕ) where
  module _ (known : is_day day ≡ true) where
    -- A day that is not 29 February has the same date ten years after.
    pub same_date : (month_of day ≡ 2 → day_of day ≡ 29 → ⊥) → ten_years_after day ≡ day + 100_000
    unfolding is_day ten_years_after
    same_date common =
        let parts = date_known _ _ _ known in
        rw (date_there (year_of day + 10) (month_of day) (day_of day) parts.0 (days_kept _ _ _ _ parts.1 common)) (omega arith)

    -- 29 February does not: its year is a leap year, and the one ten years after is none.
    pub leap_day : month_of day ≡ 2 → day_of day ≡ 29 → ten_years_after day ≡ numbered (year_of day + 10) 3 1
    unfolding is_day ten_years_after
    leap_day february last =
        let leap = february_leap (year_of day) (rw (february, last) at (date_known _ _ _ known).1) in
        let short = days_common (year_of day + 10) 2 (never_leap_after_ten (year_of day) leap) in
        rw (february, last, date_missing (year_of day + 10) 2 29 (omega arith))

  -- Ten years after any number is a day: a date that there is, or 1 March, which every year has.
  pub ten_years_day : is_day (ten_years_after day) ≡ true
  unfolding ten_years_after is_date days_in
  ten_years_day = go (is_date year (month_of day) (day_of day)) refl
    where
      year : ℕ
      year = year_of day + 10

      go : (there : Bool) → is_date year (month_of day) (day_of day) ≡ there
          → is_day (cond there (numbered year (month_of day) (day_of day)) (numbered year 3 1)) ≡ true
      go true there = numbered_day year (month_of day) (day_of day) (omega arith) (omega arith) ∙ there
      go false there = numbered_day year 3 1 (lit< tt) (lit< tt)

module _ (completion day : ℕ) where
  -- The age is 2 from ten years after completion on, and 1 before.
  pub ten_or_more : ten_years_after completion ≤ day → age_on completion day ≡ 2
  unfolding age_on
  ten_or_more late = rw (le-leb (ten_years_after completion) day late)

  pub under_ten : day < ten_years_after completion → age_on completion day ≡ 1
  unfolding age_on
  under_ten early = rw (lt-leb (ten_years_after completion) day early)

  pub age_known : (1 ≤ age_on completion day) × (age_on completion day ≤ 2)
  unfolding age_on
  age_known = go (leb (ten_years_after completion) day)
    where
      go : (ten : Bool) → (1 ≤ cond ten 2 1) × (cond ten 2 1 ≤ 2)
      go true = (lit≤ tt, lit≤ tt)
      go false = (lit≤ tt, lit≤ tt)

pub later_no_younger : (completion earlier later : ℕ) → earlier ≤ later → age_on completion earlier ≤ age_on completion later
later_no_younger completion earlier later ordered = go (dec_le (ten_years_after completion) later)
  where
    go : Dec (ten_years_after completion ≤ later) → age_on completion earlier ≤ age_on completion later
    go (yes late) = omega (arith, ten_or_more completion later late, (age_known completion earlier).1)
    go (no early) = omega (arith, under_ten completion earlier (omega arith), (age_known completion later).0)
