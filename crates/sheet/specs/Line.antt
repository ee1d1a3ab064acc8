-- One line and one row. Document 01: "A sheet is lines of 65 bytes: eight fields of 8 characters, then byte 10 (decimal)", and a
-- table is "32-bit numbers, eight to a row".
use Rattle.std.specs.Prelude.{ℕ, List, [], ◌∷◌, ◌++◌, get_or}
use Rattle.answer.specs.Lists.{joined}
use Rattle.sheet.specs.Field.{printed}

-- A row of eight numbers printed. Of a number over 99,999,999 these are the last eight digits.
unfoldable pub line : List ℕ → List ℕ
line row = joined 8 (λ j. printed (get_or row j 0)) ++ (10 ∷ [])
