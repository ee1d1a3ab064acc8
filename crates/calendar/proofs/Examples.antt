-- Dates worked through and days counted, by computation. Assumes nothing.
use Rattle.std.proofs.Common.{◌≡◌, refl}
use Rattle.calendar.specs.Days.{is_leap, days_in, is_date, is_day, ten_years_after, age_on}
use Rattle.calendar.specs.Worked.{worked, expected, days_of_months, days_of_years}

pub worked_out : worked ≡ expected
unfolding is_leap days_in is_date is_day ten_years_after age_on
worked_out = refl

pub days_counted : days_of_years 1900 300 ≡ 109_573
unfolding is_leap days_in days_of_months days_of_years
days_counted = refl
