-- Dates worked through: each definition has a number that another reading of the calendar would change. Then the days of years counted.
use Rattle.std.specs.Prelude.{Bool, cond, List, [], ◌∷◌, map, ℕ, zero, suc, ◌+◌}
use Rattle.calendar.specs.Days.{is_leap, days_in, is_day, ten_years_after, age_on}

-- Whether a test holds, 1 or 0.
abbrev pub holds : Bool → ℕ
holds test = cond test 1 0

-- The ends of three centuries, a fourth year and another.
abbrev pub years : List ℕ
years = 1900 ∷ 2000 ∷ 2100 ∷ 2004 ∷ 2001 ∷ []

abbrev pub worked : List (List ℕ)
worked =
    map (λ year. holds (is_leap year)) years
    ∷ map (λ year. days_in year 2) years  -- February
    ∷ map (days_in 2001) (0 ∷ 1 ∷ 2 ∷ 3 ∷ 4 ∷ 5 ∷ 6 ∷ 7 ∷ 8 ∷ 9 ∷ 10 ∷ 11 ∷ 12 ∷ 13 ∷ [])
    ∷ map (λ number. holds (is_day number)) (19000229 ∷ 20000229 ∷ 21000229 ∷ 20010228 ∷ 20010231 ∷ [])  -- ends of February
    ∷ map (λ number. holds (is_day number)) (20010430 ∷ 20010431 ∷ 20010432 ∷ 20010100 ∷ [])  -- ends of other months
    ∷ map (λ number. holds (is_day number)) (20010001 ∷ 20010101 ∷ 20011201 ∷ 20011301 ∷ 19000101 ∷ 21991231 ∷ [])  -- ends of years
    ∷ map ten_years_after (20000228 ∷ 20000229 ∷ 20000301 ∷ 19960229 ∷ 19980401 ∷ [])
    ∷ map (age_on 20000229) (20100228 ∷ 20100301 ∷ [])
    ∷ map (age_on 19980401) (20080331 ∷ 20080401 ∷ [])
    ∷ map (age_on 21950101) (21991231 ∷ 22050101 ∷ [])
    ∷ []

abbrev pub expected : List (List ℕ)
expected =
    (0 ∷ 1 ∷ 0 ∷ 1 ∷ 0 ∷ [])
    ∷ (28 ∷ 29 ∷ 28 ∷ 29 ∷ 28 ∷ [])
    ∷ (0 ∷ 31 ∷ 28 ∷ 31 ∷ 30 ∷ 31 ∷ 30 ∷ 31 ∷ 31 ∷ 30 ∷ 31 ∷ 30 ∷ 31 ∷ 0 ∷ [])
    ∷ (0 ∷ 1 ∷ 0 ∷ 1 ∷ 0 ∷ [])
    ∷ (1 ∷ 0 ∷ 0 ∷ 0 ∷ [])
    ∷ (0 ∷ 1 ∷ 1 ∷ 0 ∷ 1 ∷ 1 ∷ [])
    ∷ (20100228 ∷ 20100301 ∷ 20100301 ∷ 20060301 ∷ 20080401 ∷ [])
    ∷ (1 ∷ 2 ∷ [])
    ∷ (1 ∷ 2 ∷ [])
    ∷ (1 ∷ 2 ∷ [])
    ∷ []

-- The days of a year's first months, and of so many years from one on.
unfoldable pub days_of_months : ℕ → ℕ → ℕ
days_of_months year zero = 0
days_of_months year (suc months) = days_of_months year months + days_in year (suc months)

unfoldable pub days_of_years : ℕ → ℕ → ℕ
days_of_years first zero = 0
days_of_years first (suc years) = days_of_years first years + days_of_months (first + years) 12
