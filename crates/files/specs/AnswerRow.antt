-- An answer as the programs that run files print it.
use Rattle.std.specs.Prelude.{ℕ, List, [], ◌∷◌}
use Rattle.answer.specs.Told.{Told}

-- Number, row, column, count.
abbrev pub answer_row : Told → List ℕ
answer_row answer = answer.number ∷ answer.row ∷ answer.column ∷ answer.count ∷ 0 ∷ 0 ∷ 0 ∷ 0 ∷ []
