-- What an answer tells. Document 01, "What a refused sheet is told".
use Rattle.std.specs.Prelude.{ℕ, Bool, true, false, Result, Ok, Err, List, [], ◌∷◌}
use Rattle.answer.specs.declared.refusal.Reason.{Reason}
use Rattle.answer.specs.declared.refusal.Reason.TheVariants.{SheetLength, Misprint, RowOutOfOrder, OutOfRange, TooManyWalls, EndsExceedStorey, MarkOnAbsentPart, NoParts, LentSpaceShort, NoSuchDay, DatesOutOfOrder, NoSuchWall}
use Rattle.answer.specs.declared.refusal.Refusal.{Refusal}

-- What is told (the word is document 01's own): whether the answer is a count; a refusal's number (0 where it is a count), its row and column; and
-- the count.
pub record Told : Type 0 where
  pub is_count : Bool
  pub number : ℕ
  pub row : ℕ
  pub column : ℕ
  pub count : ℕ

abbrev pub counted : ℕ → Told
counted n = record { is_count = true; number = 0; row = 0; column = 0; count = n }

abbrev pub refusal : ℕ → ℕ → ℕ → Told
refusal number row column = record { is_count = false; number = number; row = row; column = column; count = 0 }

-- "For a refused sheet it prints one line alone: 0; refusal number; row; column; four 0s."
abbrev pub refusal_row : ℕ → ℕ → ℕ → List ℕ
refusal_row number row column = 0 ∷ number ∷ row ∷ column ∷ 0 ∷ 0 ∷ 0 ∷ 0 ∷ []

-- The numbers, by the trade's word for each.
abbrev pub sheet_length : ℕ
sheet_length = 1

abbrev pub misprint : ℕ
misprint = 2

abbrev pub row_out_of_order : ℕ
row_out_of_order = 3

abbrev pub out_of_range : ℕ
out_of_range = 4

abbrev pub too_many_walls : ℕ
too_many_walls = 5

abbrev pub ends_exceed_storey : ℕ
ends_exceed_storey = 6

abbrev pub mark_on_absent_part : ℕ
mark_on_absent_part = 7

abbrev pub no_parts : ℕ
no_parts = 8

abbrev pub lent_space_short : ℕ
lent_space_short = 9

-- And document 02's, request 3: "10 no such day", "11 a date before the one to its left".
abbrev pub no_such_day : ℕ
no_such_day = 10

abbrev pub dates_out_of_order : ℕ
dates_out_of_order = 11

-- And request 7: "12 no such wall to delete"; also where a total "would then lie outside" its limits.
abbrev pub no_such_wall : ℕ
no_such_wall = 12

-- The number of each case of the code's reasons.
abbrev pub number_of : Reason → ℕ
number_of SheetLength = sheet_length
number_of Misprint = misprint
number_of RowOutOfOrder = row_out_of_order
number_of OutOfRange = out_of_range
number_of TooManyWalls = too_many_walls
number_of EndsExceedStorey = ends_exceed_storey
number_of MarkOnAbsentPart = mark_on_absent_part
number_of NoParts = no_parts
number_of LentSpaceShort = lent_space_short
number_of NoSuchDay = no_such_day
number_of DatesOutOfOrder = dates_out_of_order
number_of NoSuchWall = no_such_wall

-- A refusal that has no place.
abbrev pub without_place : Reason → Refusal
without_place reason = record { reason = reason; row = 0; column = 0 }

-- The paper's number and values for each case of the code's answer.
abbrev pub told : Result ℕ Refusal → Told
told (Ok n) = counted n
told (Err r) = refusal (number_of r.reason) r.row r.column

-- An answer that is no refusal.
abbrev pub accepts : Told → Bool
accepts a = a.is_count
