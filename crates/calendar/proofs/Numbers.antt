-- A number of eight digits and its parts. Assumes nothing.
use Rattle.std.proofs.Common.{◌≡◌, ℕ, ◌<◌, arith}
use Rattle.calendar.specs.Days.{is_date, is_day, year_of, month_of, day_of, numbered}

pub numbered_parts : (number : ℕ) → numbered (year_of number) (month_of number) (day_of number) ≡ number
numbered_parts number = omega arith

module _ (year month day : ℕ) (m : month < 100) (d : day < 100) where
  pub year_numbered : year_of (numbered year month day) ≡ year
  year_numbered = omega arith

  pub month_numbered : month_of (numbered year month day) ≡ month
  month_numbered = omega arith

  pub day_numbered : day_of (numbered year month day) ≡ day
  day_numbered = omega arith

  -- It is a day where these are a date.
  pub numbered_day : is_day (numbered year month day) ≡ is_date year month day
  unfolding is_day
  numbered_day = rw (year_numbered, month_numbered, day_numbered)

-- The later of two dates, by year, then by month, then by day of the month.
module _ (earlier later : ℕ) where
  pub by_year : year_of earlier < year_of later → earlier < later
  by_year less = omega arith

  pub by_month : year_of earlier ≡ year_of later → month_of earlier < month_of later → earlier < later
  by_month same less = omega arith

  pub by_day : year_of earlier ≡ year_of later → month_of earlier ≡ month_of later → day_of earlier < day_of later → earlier < later
  by_day same-year same-month less = omega arith
