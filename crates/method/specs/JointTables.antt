-- The factors that 000 prints for the joints of a wall's columns, as they are printed. Document 01, "Held strength", and document 02, requests 1 and
-- 2. Each is a line a joint, with the strengths over it and, in ② and ③, under each strength the three foundations. They are in hundredths, each with
-- three digits, so that it stands under its heading: 085 is the page's 0.85.
use Rattle.std.specs.Prelude.{List, [], ◌∷◌, ℕ}

-- No snow: 000's table 4.3. It is document 01's "table of reductions for column joints outside snow areas (its "reference 2")", where 000 prints it
-- once more, for houses of one and two storeys.

-- ① The top storey of two or three.
--   2.0   3.0   5.0   7.0 kN/m
abbrev pub top_storey_no_snow : List (List ℕ)
top_storey_no_snow =
    (100 ∷ 100 ∷ 100 ∷ 100 ∷ []) ∷  -- joint I
    (100 ∷ 080 ∷ 065 ∷ 050 ∷ []) ∷  -- joint II
    (070 ∷ 060 ∷ 045 ∷ 035 ∷ []) ∷  -- joint III
    (070 ∷ 035 ∷ 025 ∷ 020 ∷ []) ∷  -- joint IV
    []

-- ② The other storeys of two or three.
--    2.0                      3.0                      5.0                      7.0 kN/m
--    I     II    III          I     II    III          I     II    III          I     II    III foundation
abbrev pub other_storey_no_snow : List (List (List ℕ))
other_storey_no_snow =
    ((100 ∷ 100 ∷ 100 ∷ []) ∷ (100 ∷ 090 ∷ 080 ∷ []) ∷ (100 ∷ 085 ∷ 070 ∷ []) ∷ (100 ∷ 080 ∷ 060 ∷ []) ∷ []) ∷  -- joint I
    ((100 ∷ 100 ∷ 100 ∷ []) ∷ (100 ∷ 090 ∷ 080 ∷ []) ∷ (090 ∷ 080 ∷ 070 ∷ []) ∷ (080 ∷ 070 ∷ 060 ∷ []) ∷ []) ∷  -- joint II
    ((100 ∷ 100 ∷ 100 ∷ []) ∷ (080 ∷ 080 ∷ 080 ∷ []) ∷ (070 ∷ 070 ∷ 070 ∷ []) ∷ (060 ∷ 060 ∷ 060 ∷ []) ∷ []) ∷  -- joint III
    ((100 ∷ 100 ∷ 100 ∷ []) ∷ (080 ∷ 080 ∷ 080 ∷ []) ∷ (070 ∷ 070 ∷ 070 ∷ []) ∷ (060 ∷ 060 ∷ 060 ∷ []) ∷ []) ∷  -- joint IV
    []

-- ③ One storey.
--    2.0                      3.0                      5.0                      7.0 kN/m
--    I     II    III          I     II    III          I     II    III          I     II    III foundation
abbrev pub one_storey_no_snow : List (List (List ℕ))
one_storey_no_snow =
    ((100 ∷ 085 ∷ 070 ∷ []) ∷ (100 ∷ 085 ∷ 070 ∷ []) ∷ (100 ∷ 080 ∷ 070 ∷ []) ∷ (100 ∷ 080 ∷ 070 ∷ []) ∷ []) ∷  -- joint I
    ((100 ∷ 085 ∷ 070 ∷ []) ∷ (090 ∷ 075 ∷ 070 ∷ []) ∷ (085 ∷ 070 ∷ 065 ∷ []) ∷ (080 ∷ 070 ∷ 060 ∷ []) ∷ []) ∷  -- joint II
    ((070 ∷ 070 ∷ 070 ∷ []) ∷ (060 ∷ 060 ∷ 060 ∷ []) ∷ (050 ∷ 050 ∷ 050 ∷ []) ∷ (030 ∷ 030 ∷ 030 ∷ []) ∷ []) ∷  -- joint IV, and III
    []

-- Snow of 1 m, where it is cleared off: 000's table 4.4.

-- ① The top storey of two or three.
--   2.0   3.0   5.0   7.0 kN/m
abbrev pub top_storey_1m : List (List ℕ)
top_storey_1m =
    (100 ∷ 100 ∷ 100 ∷ 100 ∷ []) ∷  -- joint I
    (100 ∷ 090 ∷ 085 ∷ 075 ∷ []) ∷  -- joint II
    (100 ∷ 075 ∷ 065 ∷ 055 ∷ []) ∷  -- joint III
    (100 ∷ 075 ∷ 060 ∷ 050 ∷ []) ∷  -- joint IV
    []

-- ② The other storeys of two or three.
--    2.0                      3.0                      5.0                      7.0 kN/m
--    I     II    III          I     II    III          I     II    III          I     II    III foundation
abbrev pub other_storey_1m : List (List (List ℕ))
other_storey_1m =
    ((100 ∷ 100 ∷ 100 ∷ []) ∷ (100 ∷ 100 ∷ 100 ∷ []) ∷ (100 ∷ 090 ∷ 085 ∷ []) ∷ (100 ∷ 085 ∷ 075 ∷ []) ∷ []) ∷  -- joint I
    ((100 ∷ 100 ∷ 100 ∷ []) ∷ (100 ∷ 100 ∷ 100 ∷ []) ∷ (095 ∷ 090 ∷ 085 ∷ []) ∷ (095 ∷ 085 ∷ 075 ∷ []) ∷ []) ∷  -- joint II
    ((100 ∷ 100 ∷ 100 ∷ []) ∷ (100 ∷ 100 ∷ 100 ∷ []) ∷ (085 ∷ 085 ∷ 085 ∷ []) ∷ (075 ∷ 075 ∷ 075 ∷ []) ∷ []) ∷  -- joint III
    ((100 ∷ 100 ∷ 100 ∷ []) ∷ (100 ∷ 100 ∷ 100 ∷ []) ∷ (085 ∷ 085 ∷ 085 ∷ []) ∷ (075 ∷ 075 ∷ 075 ∷ []) ∷ []) ∷  -- joint IV
    []

-- ③ One storey.
--    2.0                      3.0                      5.0                      7.0 kN/m
--    I     II    III          I     II    III          I     II    III          I     II    III foundation
abbrev pub one_storey_1m : List (List (List ℕ))
one_storey_1m =
    ((100 ∷ 100 ∷ 100 ∷ []) ∷ (100 ∷ 085 ∷ 075 ∷ []) ∷ (100 ∷ 080 ∷ 070 ∷ []) ∷ (100 ∷ 080 ∷ 070 ∷ []) ∷ []) ∷  -- joint I
    ((100 ∷ 100 ∷ 100 ∷ []) ∷ (090 ∷ 080 ∷ 075 ∷ []) ∷ (085 ∷ 070 ∷ 065 ∷ []) ∷ (080 ∷ 070 ∷ 060 ∷ []) ∷ []) ∷  -- joint II
    ((100 ∷ 100 ∷ 100 ∷ []) ∷ (075 ∷ 075 ∷ 075 ∷ []) ∷ (065 ∷ 065 ∷ 065 ∷ []) ∷ (035 ∷ 035 ∷ 035 ∷ []) ∷ []) ∷  -- joint IV, and III
    []

-- Snow of 2 m, where it is not cleared off: 000's table 4.4.

-- ① The top storey of two or three.
--   2.0   3.0   5.0   7.0 kN/m
abbrev pub top_storey_2m : List (List ℕ)
top_storey_2m =
    (100 ∷ 100 ∷ 100 ∷ 100 ∷ []) ∷  -- joint I
    (100 ∷ 095 ∷ 085 ∷ 080 ∷ []) ∷  -- joint II
    (100 ∷ 085 ∷ 075 ∷ 070 ∷ []) ∷  -- joint III
    (100 ∷ 085 ∷ 075 ∷ 070 ∷ []) ∷  -- joint IV
    []

-- ② The other storeys of two or three.
--    2.0                      3.0                      5.0                      7.0 kN/m
--    I     II    III          I     II    III          I     II    III          I     II    III foundation
abbrev pub other_storey_2m : List (List (List ℕ))
other_storey_2m =
    ((100 ∷ 100 ∷ 100 ∷ []) ∷ (100 ∷ 100 ∷ 100 ∷ []) ∷ (100 ∷ 095 ∷ 095 ∷ []) ∷ (100 ∷ 095 ∷ 090 ∷ []) ∷ []) ∷  -- joint I
    ((100 ∷ 100 ∷ 100 ∷ []) ∷ (100 ∷ 100 ∷ 100 ∷ []) ∷ (100 ∷ 095 ∷ 095 ∷ []) ∷ (100 ∷ 095 ∷ 090 ∷ []) ∷ []) ∷  -- joint II
    ((100 ∷ 100 ∷ 100 ∷ []) ∷ (100 ∷ 100 ∷ 100 ∷ []) ∷ (095 ∷ 095 ∷ 095 ∷ []) ∷ (090 ∷ 090 ∷ 090 ∷ []) ∷ []) ∷  -- joint III
    ((100 ∷ 100 ∷ 100 ∷ []) ∷ (100 ∷ 100 ∷ 100 ∷ []) ∷ (095 ∷ 095 ∷ 095 ∷ []) ∷ (090 ∷ 090 ∷ 090 ∷ []) ∷ []) ∷  -- joint IV
    []

-- ③ One storey.
--    2.0                      3.0                      5.0                      7.0 kN/m
--    I     II    III          I     II    III          I     II    III          I     II    III foundation
abbrev pub one_storey_2m : List (List (List ℕ))
one_storey_2m =
    ((100 ∷ 100 ∷ 100 ∷ []) ∷ (100 ∷ 090 ∷ 085 ∷ []) ∷ (100 ∷ 085 ∷ 075 ∷ []) ∷ (100 ∷ 085 ∷ 075 ∷ []) ∷ []) ∷  -- joint I
    ((100 ∷ 100 ∷ 100 ∷ []) ∷ (095 ∷ 090 ∷ 085 ∷ []) ∷ (085 ∷ 080 ∷ 075 ∷ []) ∷ (080 ∷ 075 ∷ 070 ∷ []) ∷ []) ∷  -- joint II
    ((100 ∷ 100 ∷ 100 ∷ []) ∷ (085 ∷ 085 ∷ 085 ∷ []) ∷ (080 ∷ 080 ∷ 075 ∷ []) ∷ (050 ∷ 050 ∷ 050 ∷ []) ∷ []) ∷  -- joint IV, and III
    []

-- Snow of 2.5 m, where it is not cleared off: 000's table 4.4. Its ② is that of 2 m once more.

-- ① The top storey of two or three.
--   2.0   3.0   5.0   7.0 kN/m
abbrev pub top_storey_2m50 : List (List ℕ)
top_storey_2m50 =
    (100 ∷ 100 ∷ 100 ∷ 100 ∷ []) ∷  -- joint I
    (100 ∷ 095 ∷ 090 ∷ 085 ∷ []) ∷  -- joint II
    (100 ∷ 090 ∷ 080 ∷ 075 ∷ []) ∷  -- joint III
    (100 ∷ 090 ∷ 080 ∷ 075 ∷ []) ∷  -- joint IV
    []

-- ② The other storeys of two or three.
--    2.0                      3.0                      5.0                      7.0 kN/m
--    I     II    III          I     II    III          I     II    III          I     II    III foundation
abbrev pub other_storey_2m50 : List (List (List ℕ))
other_storey_2m50 =
    ((100 ∷ 100 ∷ 100 ∷ []) ∷ (100 ∷ 100 ∷ 100 ∷ []) ∷ (100 ∷ 095 ∷ 095 ∷ []) ∷ (100 ∷ 095 ∷ 090 ∷ []) ∷ []) ∷  -- joint I
    ((100 ∷ 100 ∷ 100 ∷ []) ∷ (100 ∷ 100 ∷ 100 ∷ []) ∷ (100 ∷ 095 ∷ 095 ∷ []) ∷ (100 ∷ 095 ∷ 090 ∷ []) ∷ []) ∷  -- joint II
    ((100 ∷ 100 ∷ 100 ∷ []) ∷ (100 ∷ 100 ∷ 100 ∷ []) ∷ (095 ∷ 095 ∷ 095 ∷ []) ∷ (090 ∷ 090 ∷ 090 ∷ []) ∷ []) ∷  -- joint III
    ((100 ∷ 100 ∷ 100 ∷ []) ∷ (100 ∷ 100 ∷ 100 ∷ []) ∷ (095 ∷ 095 ∷ 095 ∷ []) ∷ (090 ∷ 090 ∷ 090 ∷ []) ∷ []) ∷  -- joint IV
    []

-- ③ One storey.
--    2.0                      3.0                      5.0                      7.0 kN/m
--    I     II    III          I     II    III          I     II    III          I     II    III foundation
abbrev pub one_storey_2m50 : List (List (List ℕ))
one_storey_2m50 =
    ((100 ∷ 100 ∷ 100 ∷ []) ∷ (100 ∷ 100 ∷ 100 ∷ []) ∷ (100 ∷ 095 ∷ 095 ∷ []) ∷ (100 ∷ 090 ∷ 080 ∷ []) ∷ []) ∷  -- joint I
    ((100 ∷ 100 ∷ 100 ∷ []) ∷ (100 ∷ 100 ∷ 100 ∷ []) ∷ (100 ∷ 095 ∷ 095 ∷ []) ∷ (100 ∷ 075 ∷ 070 ∷ []) ∷ []) ∷  -- joint II
    ((100 ∷ 100 ∷ 100 ∷ []) ∷ (100 ∷ 100 ∷ 100 ∷ []) ∷ (090 ∷ 090 ∷ 090 ∷ []) ∷ (060 ∷ 060 ∷ 060 ∷ []) ∷ []) ∷  -- joint IV, and III
    []

-- The tables of a position by the house's snow, from 0: "0 none, 1 for 1 m cleared, 2 for 2 m, 3 for 2.5 m" (document 02, request 1).
abbrev pub top_storey : List (List (List ℕ))
top_storey = top_storey_no_snow ∷ top_storey_1m ∷ top_storey_2m ∷ top_storey_2m50 ∷ []

abbrev pub other_storey : List (List (List (List ℕ)))
other_storey = other_storey_no_snow ∷ other_storey_1m ∷ other_storey_2m ∷ other_storey_2m50 ∷ []

abbrev pub one_storey : List (List (List (List ℕ)))
one_storey = one_storey_no_snow ∷ one_storey_1m ∷ one_storey_2m ∷ one_storey_2m50 ∷ []

-- The columns of strength, from 0: 2.0, 3.0, 5.0 and 7.0 kN/m.
abbrev pub at2 : ℕ
at2 = 0

abbrev pub at3 : ℕ
at3 = 1

abbrev pub at5 : ℕ
at5 = 2

abbrev pub at7 : ℕ
at7 = 3
