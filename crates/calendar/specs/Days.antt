-- Days, and how much time has passed. Document 02, request 3: "days as eight digits, year month day, Gregorian".
use Rattle.std.specs.Prelude.{Bool, cond, not, ◌&&◌, ◌||◌, List, [], ◌∷◌, ℕ, ◌+◌, ◌*◌, ◌/◌, ◌%◌, get_or, eqb, leb, ltb}

-- A leap year: every fourth year is one, but of those that end a century only every fourth.
unfoldable pub is_leap : ℕ → Bool
is_leap year = eqb (year % 4) 0 && (not (eqb (year % 100) 0) || eqb (year % 400) 0)

-- The days of each month, in a year that is no leap year.
abbrev pub month_lengths : List ℕ
month_lengths =
    31  -- January
    ∷ 28  -- February
    ∷ 31  -- March
    ∷ 30  -- April
    ∷ 31  -- May
    ∷ 30  -- June
    ∷ 31  -- July
    ∷ 31  -- August
    ∷ 30  -- September
    ∷ 31  -- October
    ∷ 30  -- November
    ∷ 31  -- December
    ∷ []

-- The days of a month, which counts from 1, in a year; 0 where there is no such month.
unfoldable pub days_in : ℕ → ℕ → ℕ
days_in year month = cond (eqb month 2 && is_leap year) 29 (get_or (0 ∷ month_lengths) month 0)

-- Whether the calendar has a date: a year, a month and a day of the month.
unfoldable pub is_date : ℕ → ℕ → ℕ → Bool
is_date year month day = ltb 0 day && leb day (days_in year month)

-- The parts of a number of eight digits, and the number of such parts.
abbrev pub year_of : ℕ → ℕ
year_of number = number / 10_000

abbrev pub month_of : ℕ → ℕ
month_of number = number / 100 % 100

abbrev pub day_of : ℕ → ℕ
day_of number = number % 100

abbrev pub numbered : ℕ → ℕ → ℕ → ℕ
numbered year month day = 10_000 * year + 100 * month + day

-- Whether a number is a day. Of two days the later has the greater number (proofs/Theorems.antt, `later_greater`), so days are compared as numbers.
unfoldable pub is_day : ℕ → Bool
is_day number = is_date (year_of number) (month_of number) (day_of number)

-- "the same date ten years after completion; for 29 February with no such day, on 1 March".
unfoldable pub ten_years_after : ℕ → ℕ
ten_years_after day =
    let year = year_of day + 10 in
    cond (is_date year (month_of day) (day_of day)) (numbered year (month_of day) (day_of day)) (numbered year 3 1)

-- The age on a day of a house that was completed on another, as document 01 counts it: 1 under ten years, 2 ten or more. "A house is ten" on that
-- day, and from then on.
unfoldable pub age_on : ℕ → ℕ → ℕ
age_on completion day = cond (leb (ten_years_after completion) day) 2 1
