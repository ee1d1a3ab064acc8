-- The limits, and refusal 1. Document 01: "nothing lent, a length that isn't a multiple of 65 bytes (table: of 8 numbers), or over 311 lines or
-- rows"; document 02, request 3: "the longest sheet gains a line".
use Rattle.std.specs.Prelude.{◌≡◌, cond, ℕ, ◌+◌, ◌*◌, ◌/◌, ◌%◌, ◌<◌, ◌≤◌, eqb, leb, Result, Ok, Err}
use Rattle.answer.specs.declared.refusal.Reason.TheVariants.{SheetLength}
use Rattle.answer.specs.declared.refusal.Refusal.{Refusal}
use Rattle.answer.specs.Told.{without_place}

-- The most walls of a house. "Walls, 0 to 300".
abbrev pub most_walls : ℕ
most_walls = 300

-- The most lines of a sheet, and the most rows of a table: the house's row, three rows of storeys, six rows of ends, the walls, the parts row, the
-- dates row. "A sheet has at most 311 lines", and with the dates row (document 02, request 3) one more.
abbrev pub most_rows : ℕ
most_rows = 1 + 3 + 6 + most_walls + 1 + 1

-- How many lines or rows of `unit` elements a length holds; 0 where refusal 1 is due.
unfoldable pub rows_in : ℕ → ℕ → ℕ
rows_in unit n = cond (eqb (n % unit) 0) (cond (leb (n / unit) most_rows) (n / unit) 0) 0

-- And as the code has it: that many, or refusal 1.
abbrev pub whole_rows : ℕ → ℕ → Result ℕ Refusal
whole_rows unit n = cond (eqb (rows_in unit n) 0) (Err (without_place SheetLength)) (Ok (rows_in unit n))

-- A length of so many rows, for which refusal 1 is not due.
pub record Whole (unit n rows : ℕ) : Type 0 where
  pub some : 0 < rows
  pub most : rows ≤ most_rows
  pub whole : unit * rows ≡ n
