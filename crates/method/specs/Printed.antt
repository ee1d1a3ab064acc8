-- How a printed table is read.
use Rattle.std.specs.Prelude.{List, ℕ, zero, suc, get_or, Option, None, slice_get}

-- The element of a list with a number from 1; `none` where there is no such element.
unfoldable pub nth : {A : Type 0} → List A → ℕ → A → A
nth list zero none = none
nth list (suc n) none = get_or list n none

-- The same, as an option.
unfoldable pub numbered : {A : Type 0} → List A → ℕ → Option A
numbered list zero = None
numbered list (suc n) = slice_get list n
