-- A run of additions and deletions. Document 02, request 7: "After any run of additions and deletions from a checked house whose record starts with its
-- own sums and its count of rows, with nothing else written between, totals equal the sums over the walls present and scores equal a fresh scoring."
use Rattle.std.specs.Prelude.{◌≡◌, ℕ, ◌*◌, ◌≤◌, List, [], ◌∷◌, length, get_or}
use Rattle.answer.specs.Told.{Told}
use Rattle.survey.specs.Judgement.{judging}
use Rattle.diagnosis.specs.House.{InHouse, held}
use Rattle.diagnosis.specs.Answers.{ToldScoring, number_at}
use Rattle.site.specs.Changes.{State, rows_of, add_told, adding, after_adding, delete_told, deleting, after_deleting}

-- A change: a wall to add, by its eight numbers, or the row of a wall to delete.
pub data Change : Type 0 where
  add : List ℕ → Change
  delete : ℕ → Change

abbrev pub EightNumbers : Change → Type 0
EightNumbers (add wall) = length wall ≡ 8
EightNumbers (delete row) = Unit {0}

-- What is told of it, what is answered, and the state after it.
abbrev pub change_told : State → Change → Told
change_told s (add wall) = add_told s wall
change_told s (delete row) = delete_told s row

abbrev pub answer_of : State → Change → ToldScoring
answer_of s (add wall) = adding s wall
answer_of s (delete row) = deleting s row

abbrev pub after : State → Change → State
after s (add wall) = after_adding s wall
after s (delete row) = after_deleting s row

-- And after a run of changes, refused ones among them.
unfoldable pub after_run : State → List Change → State
after_run s [] = s
after_run s (change ∷ changes) = after_run (after s change) changes

abbrev pub AllEightNumbers : List Change → Type 0
AllEightNumbers [] = Unit {0}
AllEightNumbers (change ∷ changes) = EightNumbers change × AllEightNumbers changes

-- A record "with its own sums": its rows fit and are accepted, and each total of the house is the sum over its walls.
pub record Own (s : State) : Type 0 where
  pub six : length s.totals.held ≡ 6
  pub fits : 8 * s.totals.rows ≤ length s.table
  pub rows_accepted : (judging (rows_of s)).number ≡ 0
  pub sums : (storey direction : ℕ) → InHouse (rows_of s) storey direction → number_at s.totals.held storey direction ≡ held (rows_of s) storey direction

-- Two states that differ in rows beyond those in use alone: "rows beyond them aren't read".
pub record Alike (s t : State) : Type 0 where
  pub totals : s.totals ≡ t.totals
  pub long : length s.table ≡ length t.table
  pub rows : rows_of s ≡ rows_of t

-- "Each change moves the total of that wall's storey and direction .. alone": in that place two lists of totals have this to each other, and in every
-- other place the same.
pub record OneMoves (before after : List ℕ) (place : ℕ) (Moves : ℕ → ℕ → Type 0) : Type 0 where
  pub here : Moves (get_or before place 0) (get_or after place 0)
  pub elsewhere : (at : ℕ) → (at ≡ place → ⊥) → get_or after at 0 ≡ get_or before at 0
