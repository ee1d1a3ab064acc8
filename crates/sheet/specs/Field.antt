-- One field. Document 01: "A field is a decimal number, right-justified, padded left with spaces, no sign, no leading zero; zero is
-- written 0, never blank." Characters are bytes: 32 is the space, 48 to 57 are the digits 0 to 9.
use Rattle.std.specs.Prelude.{ℕ, ◌+◌, ◌-◌, ◌*◌, ◌/◌, ◌%◌, Bool, true, false, cond, ◌&&◌, eqb, leb, ltb, Option, Some, None}
use mathlib.Core.List.{List, [], ◌∷◌, foldl}

-- What the characters of a field make so far: nothing where they are spaces alone; a number where one comes after the spaces; else they are no
-- field.
pub data Field : Type 0 where
  Blank : Field
  Number : ℕ → Field
  Misprint : Field

abbrev pub is_digit : ℕ → Bool
is_digit character = leb 48 character && leb character 57

-- What a digit counts.
unfoldable pub digit : ℕ → Option ℕ
digit character = cond (is_digit character) (Some (character - 48)) None

-- A number with one digit more after it; any other character there makes no field.
unfoldable pub digit_after : ℕ → ℕ → Field
digit_after n character = cond (is_digit character) (Number (10 * n + (character - 48))) Misprint

-- What the characters of a field make so far, with one character more. After spaces alone comes a space or the first digit; after a
-- number comes a digit, and nothing comes after a first 0.
unfoldable pub after : Field → ℕ → Field
after Blank character = cond (eqb character 32) Blank (digit_after 0 character)
after (Number n) character = cond (eqb n 0) Misprint (digit_after n character)
after Misprint character = Misprint

-- What the characters make, read from the left.
unfoldable pub field : List ℕ → Field
field characters = foldl after Blank characters

-- Whether characters are a field, by what they make; and the field's number.
unfoldable pub is_number : Field → Bool
is_number Blank = false
is_number (Number n) = true
is_number Misprint = false

unfoldable pub value : Field → ℕ
value Blank = 0
value (Number n) = n
value Misprint = 0

-- The number of characters that are a field, as the code has it.
unfoldable pub number_made : Field → Option ℕ
number_made Blank = None
number_made (Number n) = Some n
number_made Misprint = None

unfoldable pub number_in : List ℕ → Option ℕ
number_in characters = number_made (field characters)

-- The character at the place of the tens (weight 10), of the hundreds (weight 100) and so on: the number's digit there, or a space where the
-- number is smaller than the weight.
unfoldable pub digit_or_space : ℕ → ℕ → ℕ
digit_or_space weight n = cond (ltb n weight) 32 (48 + n / weight % 10)

-- A number's eight characters. (Of a number over 99,999,999 they are the last eight digits, and the writer refuses it.)
unfoldable pub printed : ℕ → List ℕ
printed n =
    digit_or_space 10_000_000 n ∷ digit_or_space 1_000_000 n ∷ digit_or_space 100_000 n ∷ digit_or_space 10_000 n
    ∷ digit_or_space 1_000 n ∷ digit_or_space 100 n ∷ digit_or_space 10 n ∷ (48 + n % 10) ∷ []
