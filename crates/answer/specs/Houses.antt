-- The houses that the examples of every layer speak of.
use Rattle.std.specs.Prelude.{List, [], ◌∷◌, ◌++◌, ℕ}
use Rattle.answer.specs.Text.{bytes}

-- P1 of document 01, "Houses worked through": its sheet, line by line as the paper has it, but for age 0 and the dates row, which document 02, request 3,
-- asks for,
abbrev pub p1_sheet : List ℕ
p1_sheet =
    bytes "       1       1       2     100       1       1       0       0\n"
    ++ bytes "       2       1    4000    5000       1       0       0       0\n"
    ++ bytes "       3       1       1    1000    1000       1       1       0\n"
    ++ bytes "       3       1       2    1000    1000       1       1       0\n"
    ++ bytes "       4       1       1       1      20    2000       1       1\n"
    ++ bytes "       4       1       1       2       0    2000       0       2\n"
    ++ bytes "       4       1       1       3      20    2000       1       1\n"
    ++ bytes "       4       1       2       1      20    2000       1       1\n"
    ++ bytes "       4       1       2       2      20    4000       1       1\n"
    ++ bytes "       4       1       2       3      20    2000       1       1\n"
    ++ bytes "       5    8191       8       0       0       0       0       0\n"
    ++ bytes "       8198004011980100120120401       0       0       0       0\n"

-- and its table.
abbrev pub p1 : List ℕ
p1 =
    1 ∷ 1 ∷ 2 ∷ 100 ∷ 1 ∷ 1 ∷ 0 ∷ 0
    ∷ 2 ∷ 1 ∷ 4000 ∷ 5000 ∷ 1 ∷ 0 ∷ 0 ∷ 0
    ∷ 3 ∷ 1 ∷ 1 ∷ 1000 ∷ 1000 ∷ 1 ∷ 1 ∷ 0
    ∷ 3 ∷ 1 ∷ 2 ∷ 1000 ∷ 1000 ∷ 1 ∷ 1 ∷ 0
    ∷ 4 ∷ 1 ∷ 1 ∷ 1 ∷ 20 ∷ 2000 ∷ 1 ∷ 1
    ∷ 4 ∷ 1 ∷ 1 ∷ 2 ∷ 0 ∷ 2000 ∷ 0 ∷ 2
    ∷ 4 ∷ 1 ∷ 1 ∷ 3 ∷ 20 ∷ 2000 ∷ 1 ∷ 1
    ∷ 4 ∷ 1 ∷ 2 ∷ 1 ∷ 20 ∷ 2000 ∷ 1 ∷ 1
    ∷ 4 ∷ 1 ∷ 2 ∷ 2 ∷ 20 ∷ 4000 ∷ 1 ∷ 1
    ∷ 4 ∷ 1 ∷ 2 ∷ 3 ∷ 20 ∷ 2000 ∷ 1 ∷ 1
    ∷ 5 ∷ 8191 ∷ 8 ∷ 0 ∷ 0 ∷ 0 ∷ 0 ∷ 0
    ∷ 8 ∷ 19800401 ∷ 19801001 ∷ 20120401 ∷ 0 ∷ 0 ∷ 0 ∷ 0
    ∷ []

-- A house of two storeys, by the five numbers that may differ in demand 3. Its four scores differ from each other, and so do its storeys' areas
-- and the two ends of its ground storey in X: end b is smaller, and its part has one storey. It was completed on 1 April 1998, and so is ten on 1
-- April 2008.
abbrev pub two_storeys : ℕ → ℕ → ℕ → ℕ → ℕ → List ℕ
two_storeys weight zone ground_class survey_day marked =
    1 ∷ 2 ∷ weight ∷ zone ∷ ground_class ∷ 1 ∷ 0 ∷ 0
    ∷ 2 ∷ 1 ∷ 4000 ∷ 5000 ∷ 1 ∷ 0 ∷ 0 ∷ 0
    ∷ 2 ∷ 2 ∷ 3000 ∷ 5000 ∷ 1 ∷ 0 ∷ 0 ∷ 0
    ∷ 3 ∷ 1 ∷ 1 ∷ 1000 ∷ 800 ∷ 2 ∷ 1 ∷ 0
    ∷ 3 ∷ 1 ∷ 2 ∷ 1000 ∷ 1000 ∷ 2 ∷ 2 ∷ 0
    ∷ 3 ∷ 2 ∷ 1 ∷ 1000 ∷ 1000 ∷ 2 ∷ 2 ∷ 0
    ∷ 3 ∷ 2 ∷ 2 ∷ 1000 ∷ 1000 ∷ 2 ∷ 2 ∷ 0
    ∷ 4 ∷ 1 ∷ 1 ∷ 1 ∷ 50 ∷ 11000 ∷ 1 ∷ 1
    ∷ 4 ∷ 1 ∷ 1 ∷ 3 ∷ 50 ∷ 250 ∷ 1 ∷ 1
    ∷ 4 ∷ 1 ∷ 2 ∷ 2 ∷ 50 ∷ 12000 ∷ 1 ∷ 1
    ∷ 4 ∷ 2 ∷ 1 ∷ 1 ∷ 50 ∷ 3500 ∷ 1 ∷ 1
    ∷ 4 ∷ 2 ∷ 1 ∷ 3 ∷ 50 ∷ 3500 ∷ 1 ∷ 1
    ∷ 4 ∷ 2 ∷ 2 ∷ 2 ∷ 50 ∷ 5000 ∷ 1 ∷ 1
    ∷ 5 ∷ 8191 ∷ marked ∷ 0 ∷ 0 ∷ 0 ∷ 0 ∷ 0
    ∷ 8 ∷ 19970601 ∷ 19980401 ∷ survey_day ∷ 0 ∷ 0 ∷ 0 ∷ 0
    ∷ []
