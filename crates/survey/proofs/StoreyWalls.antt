-- A storey's walls: in an accepted table the first run of them is all of them. Assumes nothing.
use Rattle.std.proofs.Common.{◌≡◌, refl, sym, ap, subst, ◌∙◌, Bool, true, false, not, List, [], ◌++◌, append-nil, append_assoc, ℕ, zero, suc, ◌+◌, ◌-◌, ◌*◌, ◌/◌, ◌<◌, ◌≤◌, mul-suc, add-zero, add-suc, zero-add, le_refl, le_trans, arith, T, eqb→eq, length, get_or, take, drop, take-add, drop-drop, eq-eqb}
use native.Mathlib.Decide.{dec_lt}
use mir.Facts.{and_yes}
use borrow.Author.Tests.{not-true, not-false}
use Rattle.answer.specs.Length.{most_walls}
use Rattle.answer.proofs.Parts.{lent_part, part_size, part_element}
use Rattle.answer.proofs.Places.{before_first, at_first, first_most}
use Rattle.survey.specs.Table.{cell, is_wall, storeys, first_wall, parts_row}
use Rattle.survey.specs.Judgement.{judging}
use Rattle.survey.specs.Walls.{rows_from, rows_where, is_wall_of, storey_walls, run_start, run_length, storey_run}
use Rattle.survey.specs.Acceptance.{Accepted}
use Rattle.survey.proofs.Positions.{by_place_lem}
use Rattle.survey.proofs.RefusalNumbers.{judging_accepts, judging_refuses}
use Rattle.survey.proofs.Acceptance.{accepted, judge_refused, judge_accepted}

-- Rows as the code lends them, from a start to an end.
pub rows_lent : (table : List ℕ) (row count : ℕ) → take (8 * row + 8 * count - 8 * row) (drop (8 * row) table) ≡ rows_from table row count
unfolding rows_from
rows_lent table row count = lent_part (8 * row) (8 * count) table

-- A number of a part that is shown, by its place in the table.
pub rows_cell : (table : List ℕ) (row count i j : ℕ) → i < count → j < 8 → cell (rows_from table row count) i j ≡ cell table (row + i) j
unfolding rows_from
rows_cell table row count i j h l =
    let same : 8 * row + (8 * i + j) ≡ 8 * (row + i) + j = omega arith in
    part_element (8 * row) (8 * count) table (8 * i + j) (omega arith) ∙ ap (λ (k : ℕ). get_or table k 0) same

pub rows_length : (table : List ℕ) (row count : ℕ) → 8 * row + 8 * count ≤ length table → length (rows_from table row count) ≡ 8 * count
unfolding rows_from
rows_length table row count h = part_size (8 * row) (8 * count) table h

-- One row more.
rows_more : (table : List ℕ) (row n : ℕ) → rows_from table row n ++ rows_from table (row + n) 1 ≡ rows_from table row (suc n)
unfolding rows_from
rows_more table row n =
    let same : 8 * row + 8 * n ≡ 8 * (row + n) = omega arith in
    rw (mul-suc 8 n, take-add (8 * n) 8 (drop (8 * row) table), drop-drop (8 * n) (8 * row) table, same)

-- Rows of which none is taken, and rows that are all taken.
module _ (test : ℕ → Bool) (table : List ℕ) (row : ℕ) where
  where_none : (n : ℕ) → ((k : ℕ) → k < n → test (row + k) ≡ false) → rows_where test table (row + n) ≡ rows_where test table row
  unfolding rows_where
  where_none zero h = rw add-zero
  where_none (suc n) h = rw (add-suc, h n (omega arith), append-nil) (where_none n (λ k l. h k (omega arith)))

  where_all : (n : ℕ) → ((k : ℕ) → k < n → test (row + k) ≡ true) → rows_where test table (row + n) ≡ rows_where test table row ++ rows_from table row n
  unfolding rows_where rows_from
  where_all zero h = rw add-zero (sym (append-nil _))
  where_all (suc n) h =
      rw (add-suc, h n (omega arith), where_all n (λ k l. h k (omega arith)), append_assoc, rows_more table row n)

-- What is shown of a storey: so many rows from a row on, each of them a wall of that storey, and no other row is one.
pub record Shown (table : List ℕ) (storey : ℕ) : Type 0 where
  pub start : ℕ
  pub count : ℕ
  pub walls : storey_walls table storey ≡ rows_from table start count
  pub fits : 8 * start + 8 * count ≤ length table
  pub few : count ≤ most_walls
  pub each : (k : ℕ) → k < count → (first_wall table ≤ start + k) × (start + k < parts_row table) × (cell table (start + k) 1 ≡ storey)
  pub no_other : (row : ℕ) → row < length table / 8 → is_wall_of table storey row ≡ true → (start ≤ row) × (row < start + count)

module _ (table : List ℕ) (h : (judging table).number ≡ 0) where
  a : Accepted table
  a = accepted table h

  abbrev rows : ℕ
  rows = length table / 8

  -- Only rows between the ends and the parts are walls.
  pub wall_stands : (row : ℕ) → row < rows → cell table row 0 ≡ 4 → (first_wall table ≤ row) × (row < parts_row table)
  wall_stands row h =
      by_place_lem table (λ row. cell table row 0 ≡ 4 → (first_wall table ≤ row) × (row < parts_row table))
      (λ kind. absurd (omega (arith, kind, a.house_inside 0 (omega arith))))
      (λ row some most kind. absurd (omega (arith, kind, a.storey_inside row some most 0 (omega arith))))
      (λ row above before kind. absurd (omega (arith, kind, a.ends_inside row above before 0 (omega arith))))
      (λ row past before kind. (past, before))
      (λ kind. absurd (omega (arith, kind, a.parts_inside 0 (omega arith))))
      (λ kind. absurd (omega (arith, kind, a.dates_inside 0 (omega arith))))
      row (omega (arith, a.sizes))

  -- Storeys never fall, however far apart two walls are.
  pub rises : (row n : ℕ) → first_wall table ≤ row → row + n < parts_row table → cell table row 1 ≤ cell table (row + n) 1
  rises row zero past before = rw add-zero (le_refl _)
  rises row (suc n) past before =
      let next : row + suc n ≡ row + n + 1 = omega arith in
      rw next (le_trans (rises row n past (omega arith)) (a.sorted (row + n) (omega arith) (omega arith)))

  module _ (storey : ℕ) where
    abbrev taken : ℕ → Bool
    taken = is_wall_of table storey

    -- What a row that is a wall of the storey is, and which row is one.
    taken_is : (row : ℕ) → row < rows → taken row ≡ true → (first_wall table ≤ row) × (row < parts_row table) × (cell table row 1 ≡ storey)
    unfolding is_wall_of
    taken_is row h e =
        let both = and_yes (is_wall table row) _ (subst T (sym e) tt) in
        let stands = wall_stands row h (eqb→eq (cell table row 0) 4 both.0) in
        (stands.0, stands.1, eqb→eq (cell table row 1) storey both.1)

    pub is_taken : (row : ℕ) → first_wall table ≤ row → row < parts_row table → cell table row 1 ≡ storey → taken row ≡ true
    unfolding is_wall_of
    is_taken row past before e =
        let inside = a.wall_inside row past before 0 (omega arith) in
        rw (eq-eqb (cell table row 0) 4 (omega (arith, inside)), e) (eq-eqb storey storey refl)

    abbrev start : ℕ
    start = run_start table storey

    abbrev count : ℕ
    count = run_length table storey start

    in_run : (k : ℕ) → k < count → taken (start + k) ≡ true
    unfolding run_length
    in_run k h = not-false (taken (start + k)) (before_first (λ i. not (taken (start + i))) (rows - start) k h)

    before_run : (k : ℕ) → k < start → taken k ≡ false
    unfolding run_start
    before_run k h = before_first taken rows k h

    start_most : start ≤ rows
    unfolding run_start
    start_most = first_most taken rows

    count_most : start + count ≤ rows
    unfolding run_length
    count_most = omega (arith, start_most, first_most (λ i. not (taken (start + i))) (rows - start))

    at_run : start < rows → taken start ≡ true
    unfolding run_start
    at_run h = at_first taken rows h

    past_run : start + count < rows → taken (start + count) ≡ false
    unfolding run_length
    past_run h = not-true (taken (start + count)) (at_first (λ i. not (taken (start + i))) (rows - start) (omega arith))

    -- After the run no wall of the storey comes: the storeys between would be the same.
    after_run : (k : ℕ) → start + count + k < rows → taken (start + count + k) ≡ false
    after_run k h = go (taken (start + count + k)) refl
      where
        go : (b : Bool) → taken (start + count + k) ≡ b → b ≡ false
        go false e = refl
        go true e =
            let head = taken_is start (omega arith) (at_run (omega arith)) in
            let tail = taken_is (start + count + k) h e in
            let below = rises start count head.0 (omega arith) in
            let above = rises (start + count) k (omega arith) tail.1 in
            let same : cell table (start + count) 1 ≡ storey = omega (arith, head.2, tail.2, below, above) in
            sym (is_taken (start + count) (omega arith) (omega arith) same) ∙ past_run (omega arith)

    -- The walls of the storey are the run.
    before : rows_where taken table start ≡ []
    unfolding rows_where
    before = ap (rows_where taken table) (sym (zero-add start)) ∙ where_none taken table 0 start (λ k l. rw zero-add (before_run k l))

    where_run : rows_where taken table rows ≡ rows_from table start count
    where_run =
        let rest = rows - (start + count) in
        let all : rows ≡ start + count + rest = omega (arith, count_most) in
        ap (rows_where taken table) all
        ∙ where_none taken table (start + count) rest (λ k l. after_run k (omega (arith, count_most)))
        ∙ where_all taken table start count in_run
        ∙ ap (λ (l : List ℕ). l ++ rows_from table start count) before

    -- The first run of a storey's walls is all of them.
    pub run_is_walls : storey_run table storey ≡ storey_walls table storey
    unfolding storey_run storey_walls
    run_is_walls = rw (judging_accepts table h) (sym where_run)

    run_few : count ≤ most_walls
    run_few = go (dec_lt 0 count)
      where
        go : Dec (0 < count) → count ≤ most_walls
        go (yes l) =
            let head = taken_is (start + 0) (omega (arith, count_most)) (in_run 0 l) in
            let last = taken_is (start + (count - 1)) (omega (arith, count_most)) (in_run (count - 1) (omega arith)) in
            omega (arith, head.0, last.1, a.few)
        go (no l) = omega arith

    no_other_row : (row : ℕ) → row < rows → taken row ≡ true → (start ≤ row) × (row < start + count)
    no_other_row row inside e = go (dec_lt row start) (dec_lt row (start + count))
      where
        true_false : true ≡ false → ⊥
        true_false e = subst T e tt

        go : Dec (row < start) → Dec (row < start + count) → (start ≤ row) × (row < start + count)
        go (yes l) _ = absurd (true_false (sym e ∙ before_run row l))
        go (no l) (yes m) = (omega arith, m)
        go (no l) (no m) =
            let same : start + count + (row - (start + count)) ≡ row = omega arith in
            absurd (true_false (sym e ∙ rw same at (after_run (row - (start + count)) (omega arith))))

    pub shown : Shown table storey
    unfolding storey_run
    shown = record {
      start = start;
      count = count;
      walls = sym run_is_walls;
      fits = omega (arith, count_most);
      few = run_few;
      each = λ k l. taken_is (start + k) (omega (arith, count_most)) (in_run k l);
      no_other = no_other_row;
    }

    -- A house that lacks the storey shows nothing of it.
    pub walls_lacking : (1 ≤ storey → storey ≤ storeys table → ⊥) → storey_walls table storey ≡ []
    unfolding rows_from
    walls_lacking none = shown.walls ∙ go shown.start shown.count shown.each
      where
        go : (row n : ℕ) → ((k : ℕ) → k < n → (first_wall table ≤ row + k) × (row + k < parts_row table) × (cell table (row + k) 1 ≡ storey))
            → rows_from table row n ≡ []
        go row zero each = refl
        go row (suc n) each =
            let first = each 0 (omega arith) in
            let inside = a.wall_inside (row + 0) first.0 first.1 1 (omega arith) in
            absurd (none (omega (arith, inside, first.2)) (omega (arith, inside, first.2)))

-- Nothing is shown of a table that is refused.
pub walls_refused : (table : List ℕ) (storey : ℕ) → ((judging table).number ≡ 0 → ⊥) → storey_walls table storey ≡ []
unfolding storey_walls
walls_refused table storey h = rw (judging_refuses table h)

-- The part that the run takes lies in the table.
pub run_start_most : (table : List ℕ) (storey : ℕ) → run_start table storey ≤ length table / 8
unfolding run_start
run_start_most table storey = first_most (is_wall_of table storey) (length table / 8)

pub run_length_most : (table : List ℕ) (storey start : ℕ) → run_length table storey start ≤ length table / 8 - start
unfolding run_length
run_length_most table storey start = first_most (λ k. not (is_wall_of table storey (start + k))) (length table / 8 - start)

-- For the code that shows a run, and a storey's walls.
pub ruleset run_lent = (run_start_most, run_length_most, rows_lent)

pub ruleset walls_shown = (walls_refused, run_is_walls, judge_refused, judge_accepted)
