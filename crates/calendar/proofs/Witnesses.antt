-- The page's theorems used at days that compute, one for each premise: with a further premise, a clause left out, a turned conclusion or another
-- number they would not fit here. Assumes nothing.
use Rattle.std.proofs.Common.{◌≡◌, refl, true, false, ◌<◌, ◌≤◌, arith, lit<, lit≤}
use Rattle.calendar.specs.Days.{is_leap, days_in, is_date, is_day, year_of, month_of, day_of, numbered, ten_years_after, age_on}
use Rattle.calendar.proofs.Theorems.{parts_numbered, numbered_parts, later_greater, never_leap_after_ten, same_date, leap_day, ten_years_day, ten_from, later_no_younger}

-- The largest parts of two digits,
parts_met : (year_of 20019999 ≡ 2001) × (month_of 20019999 ≡ 99) × (day_of 20019999 ≡ 99)
parts_met = parts_numbered 2001 99 99 (lit< tt) (lit< tt)

whole_met : numbered (year_of 20019999) (month_of 20019999) (day_of 20019999) ≡ 20019999
whole_met = numbered_parts 20019999

-- and three pairs of days that follow each other: of two years, of two months, and of one month.
later_met : (20001231 < 20010101) × (20010228 < 20010301) × (20010227 < 20010228)
later_met =
    ((later_greater 20001231 20010101).0 (lit< tt), (later_greater 20010228 20010301).1 refl (lit< tt), (later_greater 20010227 20010228).2 refl refl (lit< tt))

leap_met : is_leap 2010 ≡ false
unfolding is_leap
leap_met = never_leap_after_ten 2000 refl

-- Neither the 29th of another month nor another day of February is 29 February.
same_date_met : (ten_years_after 20000329 ≡ 20100329) × (ten_years_after 20000228 ≡ 20100228)
unfolding is_leap days_in is_date is_day
same_date_met = (same_date 20000329 refl (λ february last. omega arith), same_date 20000228 refl (λ february last. omega arith))

leap_day_met : ten_years_after 20000229 ≡ 20100301
unfolding is_leap days_in is_date is_day
leap_day_met = leap_day 20000229 refl refl refl

-- Ten years after 31 April, which is no day, and after the first number of nine digits, there are days.
ten_years_met : (is_day (ten_years_after 20010431) ≡ true) × (is_day (ten_years_after 100000000) ≡ true)
ten_years_met = (ten_years_day 20010431, ten_years_day 100000000)

-- A house completed on 29 February 2000: 28 February 2010 is the last day under ten, and 1 March the first of ten.
ages_met : (age_on 20000229 20100228 ≡ 1) × (age_on 20000229 20100301 ≡ 2)
unfolding is_leap days_in is_date ten_years_after
ages_met = ((ten_from 20000229 20100228).1 (lit< tt), (ten_from 20000229 20100301).0 (lit≤ tt))

older : 1 ≤ 2
unfolding is_leap days_in is_date ten_years_after age_on
older = later_no_younger 20000229 20100228 20100301 (lit≤ tt)
