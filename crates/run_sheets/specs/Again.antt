-- Reading a sheet and writing it again, with so many numbers and bytes lent: the refusal of reading; else 9, where the bytes are too
-- few; else the same sheet.
use Rattle.std.specs.Prelude.{ℕ, cond, List, ◌++◌, ltb, length, drop}
use Rattle.answer.specs.Told.{Told, counted, refusal, accepts, lent_space_short}
use Rattle.sheet.specs.Sheet.{reading}

unfoldable pub again : List ℕ → ℕ → ℕ → Told
again sheet numbers bytes =
    cond (accepts (reading sheet numbers))
    (cond (ltb bytes (length sheet)) (refusal lent_space_short 0 0) (counted (length sheet)))
    (reading sheet numbers)

-- The lent bytes afterwards.
unfoldable pub after_again : List ℕ → ℕ → List ℕ → List ℕ
after_again sheet numbers bytes =
    cond (accepts (again sheet numbers (length bytes))) (sheet ++ drop (length sheet) bytes) bytes
