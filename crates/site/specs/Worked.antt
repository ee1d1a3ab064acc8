-- What the examples speak of: P1 (document 01, "Houses worked through") on site, with two rows behind those in use.
use Rattle.std.specs.Prelude.{List, [], ◌∷◌, ◌++◌, ℕ, take, drop, map, set}
use Rattle.answer.specs.Told.{Told, counted, refusal}
use Rattle.answer.specs.Houses.{p1}
use Rattle.site.specs.Changes.{State, on, checking, started, add_told, delete_told, empty_row}
use Rattle.site.specs.Runs.{Change, add, delete}

-- Two rows of fives, which no row in use is.
abbrev pub behind : List ℕ
behind = 5 ∷ 5 ∷ 5 ∷ 5 ∷ 5 ∷ 5 ∷ 5 ∷ 5 ∷ 5 ∷ 5 ∷ 5 ∷ 5 ∷ 5 ∷ 5 ∷ 5 ∷ 5 ∷ []

-- P1 by six totals, with so many rows in use; and by its own.
abbrev pub p1_with : List ℕ → ℕ → State
p1_with held rows = on (p1 ++ behind) (record { held = held; rows = rows })

abbrev pub own_totals : List ℕ
own_totals = 9_200_000 ∷ 16_000_000 ∷ 0 ∷ 0 ∷ 0 ∷ 0 ∷ []

abbrev pub p1_site : State
p1_site = p1_with own_totals 12

-- P1 with no whole row behind, and with numbers in the places of storeys that it lacks.
abbrev pub p1_lacking : State
p1_lacking = on (p1 ++ 5 ∷ 5 ∷ []) (record { held = 9_200_000 ∷ 16_000_000 ∷ 7 ∷ 7 ∷ 7 ∷ 7 ∷ []; rows = 12 })

-- Totals that are no sums, and totals of which one is above the most.
abbrev pub nines : List ℕ
nines = 9 ∷ 9 ∷ 9 ∷ 9 ∷ 9 ∷ 9 ∷ []

abbrev pub over_the_most : List ℕ
over_the_most = 0 ∷ 60_000_000_001 ∷ 0 ∷ 0 ∷ 0 ∷ 0 ∷ []

-- A wall to add to a storey: in X, in the middle, 2.0 kN/m and 2 m long.
abbrev pub middle_wall : ℕ → List ℕ
middle_wall storey = 4 ∷ storey ∷ 1 ∷ 2 ∷ 20 ∷ 2000 ∷ 1 ∷ 1 ∷ []

-- P1's rows with that wall,
abbrev pub p1_wider : List ℕ
p1_wider = take 80 p1 ++ middle_wall 1 ++ (5 ∷ 8191 ∷ 8 ∷ 0 ∷ 0 ∷ 0 ∷ 0 ∷ 0 ∷ 8 ∷ 19800401 ∷ 19801001 ∷ 20120401 ∷ 0 ∷ 0 ∷ 0 ∷ 0 ∷ [])

-- and without its window, the wall in row 6.
abbrev pub p1_without_window : List ℕ
p1_without_window =
    take 40 p1
    ++ (4 ∷ 1 ∷ 1 ∷ 3 ∷ 20 ∷ 2000 ∷ 1 ∷ 1
    ∷ 4 ∷ 1 ∷ 2 ∷ 1 ∷ 20 ∷ 2000 ∷ 1 ∷ 1
    ∷ 4 ∷ 1 ∷ 2 ∷ 2 ∷ 20 ∷ 4000 ∷ 1 ∷ 1
    ∷ 4 ∷ 1 ∷ 2 ∷ 3 ∷ 20 ∷ 2000 ∷ 1 ∷ 1
    ∷ 5 ∷ 8191 ∷ 8 ∷ 0 ∷ 0 ∷ 0 ∷ 0 ∷ 0
    ∷ 8 ∷ 19800401 ∷ 19801001 ∷ 20120401 ∷ 0 ∷ 0 ∷ 0 ∷ 0
    ∷ [])

-- What is told of P1 on site: of its rows in use (all twelve of them, none, and more than are lent),
abbrev pub worked_checks : List Told
worked_checks = map (λ rows. checking (p1_with own_totals rows)) (12 ∷ 0 ∷ 15 ∷ [])

abbrev pub expected_checks : List Told
expected_checks = counted 12 ∷ refusal 1 0 0 ∷ refusal 1 0 0 ∷ []

-- of walls that are added (of storey 1, 0 and 2; of kind 5; of type 4; with no row left, where 4 comes before 9; by totals that would or would not lie above
-- the most, that of a storey which the house lacks among them; and with no row left and a total above, where 9 comes before 12),
abbrev pub worked_additions : List Told
worked_additions =
    map (add_told p1_site) (middle_wall 1 ∷ middle_wall 0 ∷ middle_wall 2 ∷ set (middle_wall 1) 0 5 ∷ set (middle_wall 1) 7 4 ∷ [])
    ++ map (add_told (on p1 (record { held = own_totals; rows = 12 }))) (middle_wall 1 ∷ middle_wall 0 ∷ [])
    ++ map (λ held. add_told (p1_with held 12) (middle_wall 1))
    ((59_996_000_000 ∷ 0 ∷ 9_223_372_036_854_775_808 ∷ 0 ∷ 0 ∷ 0 ∷ []) ∷ (59_996_000_001 ∷ 0 ∷ 0 ∷ 0 ∷ 0 ∷ 0 ∷ []) ∷ over_the_most ∷ [])
    ++ (add_told (on p1 (record { held = over_the_most; rows = 12 })) (middle_wall 1) ∷ [])

abbrev pub expected_additions : List Told
expected_additions =
    counted 13 ∷ refusal 4 5 2 ∷ refusal 4 11 2 ∷ refusal 4 11 1 ∷ refusal 4 11 8
    ∷ refusal 9 0 0 ∷ refusal 4 5 2
    ∷ counted 13 ∷ refusal 12 0 0 ∷ refusal 12 0 0
    ∷ refusal 9 0 0
    ∷ []

-- and of walls that are deleted (the window, an end, the parts row, no row and one that isn't in use; and by totals).
abbrev pub worked_deletions : List Told
worked_deletions =
    map (delete_told p1_site) (6 ∷ 4 ∷ 11 ∷ 0 ∷ 13 ∷ [])
    ++ map (λ held. delete_told (p1_with held 12) 5)
    ((3_999_999 ∷ 0 ∷ 0 ∷ 0 ∷ 0 ∷ 0 ∷ []) ∷ (4_000_000 ∷ 0 ∷ 0 ∷ 0 ∷ 0 ∷ 0 ∷ []) ∷ (60_000_000_001 ∷ 0 ∷ 0 ∷ 0 ∷ 0 ∷ 0 ∷ []) ∷ (4_000_000 ∷ 60_000_000_001 ∷ 0 ∷ 0 ∷ 0 ∷ 0 ∷ []) ∷ [])

abbrev pub expected_deletions : List Told
expected_deletions =
    counted 11 ∷ refusal 12 4 0 ∷ refusal 12 11 0 ∷ refusal 12 0 0 ∷ refusal 12 13 0
    ∷ refusal 12 0 0 ∷ counted 11 ∷ counted 11 ∷ refusal 12 0 0
    ∷ []

-- Changes one after the other: the wall is added, a wall of a storey that the house lacks is not, and the window is deleted.
abbrev pub worked_run : List Change
worked_run = add (middle_wall 1) ∷ add (middle_wall 2) ∷ delete 6 ∷ []

-- The states after them: with the wall, and with the window gone too.
abbrev pub site_wider : State
site_wider = on (p1_wider ++ drop 8 behind) (record { held = 13_200_000 ∷ 16_000_000 ∷ 0 ∷ 0 ∷ 0 ∷ 0 ∷ []; rows = 13 })

abbrev pub site_after : State
site_after =
    on (take 40 p1
    ++ (4 ∷ 1 ∷ 1 ∷ 3 ∷ 20 ∷ 2000 ∷ 1 ∷ 1
    ∷ 4 ∷ 1 ∷ 2 ∷ 1 ∷ 20 ∷ 2000 ∷ 1 ∷ 1
    ∷ 4 ∷ 1 ∷ 2 ∷ 2 ∷ 20 ∷ 4000 ∷ 1 ∷ 1
    ∷ 4 ∷ 1 ∷ 2 ∷ 3 ∷ 20 ∷ 2000 ∷ 1 ∷ 1
    ∷ 4 ∷ 1 ∷ 1 ∷ 2 ∷ 20 ∷ 2000 ∷ 1 ∷ 1
    ∷ 5 ∷ 8191 ∷ 8 ∷ 0 ∷ 0 ∷ 0 ∷ 0 ∷ 0
    ∷ 8 ∷ 19800401 ∷ 19801001 ∷ 20120401 ∷ 0 ∷ 0 ∷ 0 ∷ 0
    ∷ []) ++ empty_row ++ drop 8 behind)
    (record { held = 12_000_000 ∷ 16_000_000 ∷ 0 ∷ 0 ∷ 0 ∷ 0 ∷ []; rows = 12 })

-- A house of two storeys, of fifteen rows, on site after a start from totals that are no sums.
abbrev pub two_on_site : List ℕ → State
two_on_site table = started (on (table ++ behind) (record { held = nines; rows = 15 }))
