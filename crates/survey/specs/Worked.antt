-- What the examples speak of: P1 with its dates changed, and the walls of the house of two storeys, a row each.
use Rattle.std.specs.Prelude.{List, [], ◌∷◌, ◌++◌, ℕ, take, set}
use Rattle.answer.specs.Told.{Told, counted, refusal}
use Rattle.answer.specs.Houses.{p1}

-- P1 with its age, its dates row (the numbers 88 to 95) or the end of its table changed,
abbrev pub dates_changed : List (List ℕ)
dates_changed =
    set p1 6 2  -- age 2
    ∷ take 88 p1  -- no dates row
    ∷ (p1 ++ (8 ∷ 19800401 ∷ 19801001 ∷ 20120401 ∷ 0 ∷ 0 ∷ 0 ∷ 0 ∷ []))  -- a second dates row
    ∷ set p1 91 21991232  -- a survey day after the last that a row may hold
    ∷ set p1 89 20010231  -- 31 February as start of work
    ∷ set (set p1 89 20010231) 95 1  -- and a number in an unused column
    ∷ set (set (set p1 89 20010101) 90 20001231) 91 20010229  -- completion before the start of work, and a survey day that is none
    ∷ set p1 90 19800331  -- completion before the start of work
    ∷ set p1 91 19800930  -- the survey before completion
    ∷ set (set p1 90 19800401) 91 19800401  -- all on one day
    ∷ []

-- and what each is told.
abbrev pub dates_told : List Told
dates_told =
    refusal 4 1 7
    ∷ refusal 3 12 1
    ∷ refusal 3 13 1
    ∷ refusal 4 12 4
    ∷ refusal 10 12 2
    ∷ refusal 4 12 8
    ∷ refusal 10 12 4
    ∷ refusal 11 12 3
    ∷ refusal 11 12 4
    ∷ counted 12
    ∷ []

abbrev pub ground_walls : List ℕ
ground_walls =
    4 ∷ 1 ∷ 1 ∷ 1 ∷ 50 ∷ 11000 ∷ 1 ∷ 1
    ∷ 4 ∷ 1 ∷ 1 ∷ 3 ∷ 50 ∷ 250 ∷ 1 ∷ 1
    ∷ 4 ∷ 1 ∷ 2 ∷ 2 ∷ 50 ∷ 12000 ∷ 1 ∷ 1
    ∷ []

abbrev pub upper_walls : List ℕ
upper_walls =
    4 ∷ 2 ∷ 1 ∷ 1 ∷ 50 ∷ 3500 ∷ 1 ∷ 1
    ∷ 4 ∷ 2 ∷ 1 ∷ 3 ∷ 50 ∷ 3500 ∷ 1 ∷ 1
    ∷ 4 ∷ 2 ∷ 2 ∷ 2 ∷ 50 ∷ 5000 ∷ 1 ∷ 1
    ∷ []

-- What is shown of storeys 0 to 3.
abbrev pub of_storeys : (ℕ → List ℕ) → List (List ℕ)
of_storeys walls = walls 0 ∷ walls 1 ∷ walls 2 ∷ walls 3 ∷ []
