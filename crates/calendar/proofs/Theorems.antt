-- The calendar's theorems on one page, each stated in full and proved elsewhere: the last line of each names the law. What they speak of is
-- defined in specs/. Assumes nothing.
use Rattle.std.proofs.Common.{◌≡◌, true, false, ℕ, ◌+◌, ◌<◌, ◌≤◌}
use Rattle.calendar.specs.Days.{is_leap, is_day, year_of, month_of, day_of, numbered, ten_years_after, age_on}
use Rattle.calendar.specs.Worked.{worked, expected, days_of_years}
use Rattle.calendar.proofs.Months as months
use Rattle.calendar.proofs.Numbers as numbers
use Rattle.calendar.proofs.Ages as ages
use Rattle.calendar.proofs.Examples as examples

-- Days as numbers. Year, month and day of a number are those that it was made of, two digits for month and day,
pub parts_numbered : (year month day : ℕ) → month < 100 → day < 100
    → (year_of (numbered year month day) ≡ year) × (month_of (numbered year month day) ≡ month) × (day_of (numbered year month day) ≡ day)
parts_numbered year month day m d =
    (numbers.year_numbered year month day m d, numbers.month_numbered year month day m d, numbers.day_numbered year month day m d)

-- and every number is made of its year, month and day.
pub numbered_parts : (number : ℕ) → numbered (year_of number) (month_of number) (day_of number) ≡ number
numbered_parts = numbers.numbered_parts

-- Of two days the later has the greater number: the one in the later year, of one year the one in the later month, and of one month the one later in
-- it.
pub later_greater : (earlier later : ℕ)
    → (year_of earlier < year_of later → earlier < later)
    × (year_of earlier ≡ year_of later → month_of earlier < month_of later → earlier < later)
    × (year_of earlier ≡ year_of later → month_of earlier ≡ month_of later → day_of earlier < day_of later → earlier < later)
later_greater earlier later = (numbers.by_year earlier later, numbers.by_month earlier later, numbers.by_day earlier later)

-- Ten years. No year that comes ten years after a leap year is one, so 29 February never has the same date then.
pub never_leap_after_ten : (year : ℕ) → is_leap year ≡ true → is_leap (year + 10) ≡ false
never_leap_after_ten = months.never_leap_after_ten

-- "the same date ten years after": every day but 29 February has it,
pub same_date : (day : ℕ) → is_day day ≡ true → (month_of day ≡ 2 → day_of day ≡ 29 → ⊥) → ten_years_after day ≡ day + 100_000
same_date = ages.same_date

-- "for 29 February with no such day, on 1 March".
pub leap_day : (day : ℕ) → is_day day ≡ true → month_of day ≡ 2 → day_of day ≡ 29 → ten_years_after day ≡ numbered (year_of day + 10) 3 1
leap_day = ages.leap_day

-- What comes ten years after is a day, whatever the number.
pub ten_years_day : (number : ℕ) → is_day (ten_years_after number) ≡ true
ten_years_day = ages.ten_years_day

-- Age. It is 2 from the day ten years after completion on, and 1 before that day.
pub ten_from : (completion day : ℕ)
    → (ten_years_after completion ≤ day → age_on completion day ≡ 2) × (day < ten_years_after completion → age_on completion day ≡ 1)
ten_from completion day = (ages.ten_or_more completion day, ages.under_ten completion day)

-- On a later day a house is no younger.
pub later_no_younger : (completion earlier later : ℕ) → earlier ≤ later → age_on completion earlier ≤ age_on completion later
later_no_younger = ages.later_no_younger

-- Dates worked through: a number for each definition that another reading of the calendar would change.
pub worked_out : worked ≡ expected
worked_out = examples.worked_out

-- The days of all months from 1900 to 2199: 300 years of 365 days, and 73 leap days.
pub days_counted : days_of_years 1900 300 ≡ 109_573
days_counted = examples.days_counted
