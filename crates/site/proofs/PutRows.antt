-- Rows with one row put in: where they stand, and when they are accepted. Assumes nothing.
use Rattle.std.proofs.Common.{◌≡◌, sym, subst, ◌∙◌, not, List, ℕ, ◌+◌, ◌-◌, ◌*◌, ◌<◌, ◌≤◌, arith, length, eq-eqb, ne_eqb}
use native.Mathlib.Decide.{dec_lt}
use Rattle.answer.specs.Length.{most_walls}
use Rattle.answer.proofs.Places.{first_is}
use Rattle.survey.specs.Table.{cell, storeys, ends_storey, is_wall, first_wall, wall_rows, parts_row, dates_row, rows_due}
use Rattle.survey.specs.declared.ranges.Range.{Range}
use Rattle.survey.specs.Ranges.{house_columns, storey_columns, ends_columns, wall_columns, parts_columns, dates_columns}
use Rattle.survey.specs.Acceptance.{Inside, Accepted}
use Rattle.diagnosis.specs.Rows.{house_of}

-- A row of one table is a row of another.
abbrev pub Same : List ℕ → ℕ → List ℕ → ℕ → Type 0
Same X row Y other = (column : ℕ) → column < 8 → cell Y other column ≡ cell X row column

-- A table whose rows that are no walls are those of an accepted table, and whose walls lie in their ranges and rise, is accepted.
module _ (X Y : List ℕ) (x : Accepted X) (front : (row : ℕ) → row < first_wall X → Same X row Y row) where
  known : (1 ≤ storeys X) × (storeys X ≤ 3)
  known = x.house_inside 1 (omega arith)

  pub storeys_kept : storeys Y ≡ storeys X
  storeys_kept = front 0 (omega arith) 1 (omega arith)

  carried : (ranges : List Range) (row other : ℕ) → Same X row Y other → Inside ranges X row → Inside ranges Y other
  carried ranges row other same inside column small = rw (same column small) (inside column small)

  pub wall_carried : (row other : ℕ) → Same X row Y other → Inside (wall_columns X row) X row → Inside (wall_columns Y other) Y other
  wall_carried row other same inside =
      let ranges : wall_columns X row ≡ wall_columns Y other = rw (storeys_kept, same 7 (omega arith)) in
      subst (λ (r : List Range). Inside r Y other) ranges (carried (wall_columns X row) row other same inside)

  pub framed : Same X (parts_row X) Y (parts_row Y) → Same X (dates_row X) Y (dates_row Y) → 8 * rows_due Y ≡ length Y → wall_rows Y ≤ most_walls
      → ((row : ℕ) → first_wall Y ≤ row → row < parts_row Y → Inside (wall_columns Y row) Y row)
      → ((row : ℕ) → first_wall Y ≤ row → row + 1 < parts_row Y → cell Y row 1 ≤ cell Y (row + 1) 1)
      → Accepted Y
  framed parts dates whole few walls rising =
      let house : house_columns X ≡ house_columns Y = rw (front 0 (omega arith) 3 (omega arith)) in
      let ends : (row : ℕ) → ends_columns X row ≡ ends_columns Y row = λ row. rw storeys_kept in record {
        sizes = record { some = omega arith; most = omega (arith, few, known, storeys_kept); whole = whole };
        house_inside = subst (λ (r : List Range). Inside r Y 0) house (carried (house_columns X) 0 0 (front 0 (omega arith)) x.house_inside);
        storey_inside = λ row some most.
            let most' : row ≤ storeys X = rw storeys_kept at most in
            carried (storey_columns row) row row (front row (omega arith)) (x.storey_inside row some most');
        ends_inside = λ row above before.
            let before' : row < first_wall X = rw storeys_kept at before in
            subst (λ (r : List Range). Inside r Y row) (ends row)
            (carried (ends_columns X row) row row (front row before') (x.ends_inside row (rw storeys_kept at above) before'));
        wall_inside = walls;
        parts_inside = carried parts_columns (parts_row X) (parts_row Y) parts x.parts_inside;
        dates_inside = carried dates_columns (dates_row X) (dates_row Y) dates x.dates_inside;
        ends_fit = λ row above before.
            let before' : row < first_wall X = rw storeys_kept at before in
            let above' : storeys X < row = rw storeys_kept at above in
            rw (storeys_kept, front row before' 3 (omega arith), front row before' 4 (omega arith), front (ends_storey X row) (omega arith) 2 (omega arith))
            (x.ends_fit row above' before');
        sorted = rising;
        few = few;
        marks_present = rw (parts 2 (omega arith), parts 1 (omega arith)) x.marks_present;
        some_present = rw (parts 1 (omega arith)) x.some_present;
        days = rw (dates 1 (omega arith), dates 2 (omega arith), dates 3 (omega arith)) x.days;
        in_order = rw (dates 1 (omega arith), dates 2 (omega arith), dates 3 (omega arith)) x.in_order;
      }

-- So many walls stand after the ends where so many rows are of kind 4 and the next is not.
walls_counted : (table : List ℕ) (n : ℕ) → n < length table → ((k : ℕ) → k < n → cell table (first_wall table + k) 0 ≡ 4)
    → (cell table (first_wall table + n) 0 ≡ 4 → ⊥) → wall_rows table ≡ n
unfolding wall_rows
walls_counted table n inside walls next =
    first_is (λ k. not (is_wall table (first_wall table + k))) (length table) n inside
    (λ k l. rw (eq-eqb (cell table (first_wall table + k) 0) 4 (walls k l)))
    (rw (ne_eqb (cell table (first_wall table + n) 0) 4 next))

-- B is A with one row put in, and A is B with that row taken out.
pub record Put (A B : List ℕ) (at : ℕ) : Type 0 where
  pub inside : 8 * at ≤ length A
  pub long : length B ≡ length A + 8
  pub before : (row : ℕ) → row < at → Same A row B row
  pub after : (row : ℕ) → at ≤ row → Same A row B (row + 1)

-- One house row, and the same house, with a wall more or less.
pub same_house : {A B : List ℕ} {at : ℕ} → Put A B at → 0 < at → house_of B ≡ house_of A
same_house p past =
    let same = p.before 0 past in
    rw (same 1 (omega arith), same 2 (omega arith), same 3 (omega arith), same 4 (omega arith), same 5 (omega arith), same 7 (omega arith))

-- What is so of both, where the row is one of B's walls.
pub record Stands (A B : List ℕ) (at : ℕ) : Type 0 where
  pub storeys_same : storeys B ≡ storeys A
  pub walls_more : wall_rows B ≡ wall_rows A + 1
  pub past : first_wall A ≤ at
  pub most : at ≤ parts_row A

module _ {A B : List ℕ} {at : ℕ} (p : Put A B at) where
  -- A wall put into an accepted table.
  module _ (a : Accepted A) (past : first_wall A ≤ at) (most : at ≤ parts_row A) (wall : cell B at 0 ≡ 4) where
    kept : storeys B ≡ storeys A
    kept = p.before 0 (omega arith) 1 (omega arith)

    wall_kinds : (k : ℕ) → k < wall_rows A + 1 → cell B (first_wall A + k) 0 ≡ 4
    wall_kinds k few = go (dec_lt (first_wall A + k) at) (dec_lt at (first_wall A + k))
      where
        kind : (row : ℕ) → first_wall A ≤ row → row < parts_row A → cell A row 0 ≡ 4
        kind row late early = omega (arith, a.wall_inside row late early 0 (omega arith))

        go : Dec (first_wall A + k < at) → Dec (at < first_wall A + k) → cell B (first_wall A + k) 0 ≡ 4
        go (yes l) _ = p.before (first_wall A + k) l 0 (omega arith) ∙ kind (first_wall A + k) (omega arith) (omega arith)
        go (no l) (yes m) =
            let next : first_wall A + k - 1 + 1 ≡ first_wall A + k = omega arith in
            (rw next at (p.after (first_wall A + k - 1) (omega arith) 0 (omega arith))) ∙ kind (first_wall A + k - 1) (omega arith) (omega arith)
        go (no l) (no m) =
            let here : first_wall A + k ≡ at = omega arith in
            rw here wall

    pub stands_put : Stands A B at
    stands_put = record {
      storeys_same = kept;
      walls_more = walls_counted B (wall_rows A + 1) (omega (arith, a.sizes, p.long)) (rw kept wall_kinds) (rw kept after_walls);
      past = past;
      most = most;
    }
      where
        after_walls : cell B (first_wall A + (wall_rows A + 1)) 0 ≡ 4 → ⊥
        after_walls e =
            let next : first_wall A + (wall_rows A + 1) ≡ parts_row A + 1 = omega arith in
            omega (arith, a.parts_inside 0 (omega arith), p.after (parts_row A) most 0 (omega arith), rw next at e)

    -- Within a wall row's ranges, in the order of the storeys, and fewer walls than the limit: the table is accepted.
    pub put_accepted : Inside (wall_columns B at) B at → wall_rows A < most_walls
        → (first_wall A < at → cell A (at - 1) 1 ≤ cell B at 1) → (at < parts_row A → cell B at 1 ≤ cell A at 1) → Accepted B
    put_accepted ranged few above below =
        framed A B a front
        (λ column small. rw parts (p.after (parts_row A) most column small))
        (λ column small. rw dates (p.after (dates_row A) (omega arith) column small))
        (omega (arith, a.sizes, p.long, s)) (omega (arith, s)) walls rising
      where
        s : Stands A B at
        s = stands_put

        parts : parts_row B ≡ parts_row A + 1
        parts = omega (arith, s)

        dates : dates_row B ≡ dates_row A + 1
        dates = omega (arith, s)

        front : (row : ℕ) → row < first_wall A → Same A row B row
        front row l = p.before row (omega arith)

        walls : (row : ℕ) → first_wall B ≤ row → row < parts_row B → Inside (wall_columns B row) B row
        walls row late early = go (dec_lt row at) (dec_lt at row)
          where
            go : Dec (row < at) → Dec (at < row) → Inside (wall_columns B row) B row
            go (yes l) _ = wall_carried A B a front row row (p.before row l) (a.wall_inside row (omega (arith, s)) (omega (arith, s)))
            go (no l) (yes m) =
                let next : row - 1 + 1 ≡ row = omega arith in
                subst (λ (r : ℕ). Inside (wall_columns B r) B r) next
                (wall_carried A B a front (row - 1) (row - 1 + 1) (p.after (row - 1) (omega arith))
                (a.wall_inside (row - 1) (omega (arith, s)) (omega (arith, s))))
            go (no l) (no m) =
                let here : at ≡ row = omega arith in
                subst (λ (r : ℕ). Inside (wall_columns B r) B r) here ranged

        rising : (row : ℕ) → first_wall B ≤ row → row + 1 < parts_row B → cell B row 1 ≤ cell B (row + 1) 1
        rising row late early = go (dec_lt (row + 1) at) (dec_lt row at) (dec_lt at row)
          where
            go : Dec (row + 1 < at) → Dec (row < at) → Dec (at < row) → cell B row 1 ≤ cell B (row + 1) 1
            go (yes l) _ _ =
                rw (p.before row (omega arith) 1 (omega arith), p.before (row + 1) l 1 (omega arith)) (a.sorted row (omega (arith, s)) (omega (arith, s)))
            go (no l) (yes m) _ =
                let here : row + 1 ≡ at = omega arith in
                let last : at - 1 ≡ row = omega arith in
                rw (here, p.before row m 1 (omega arith)) (rw last at (above (omega (arith, s))))
            go (no l) (no m) (yes n) =
                let next : row - 1 + 1 ≡ row = omega arith in
                let one = rw next at (p.after (row - 1) (omega arith) 1 (omega arith)) in
                let two = p.after row (omega arith) 1 (omega arith) in
                let three = rw next at (a.sorted (row - 1) (omega (arith, s)) (omega (arith, s))) in
                omega (arith, one, two, three)
            go (no l) (no m) (no n) =
                let here : row ≡ at = omega arith in
                rw (here, p.after at (omega arith) 1 (omega arith)) (below (omega (arith, s)))

  -- A wall taken out of an accepted table.
  module _ (b : Accepted B) (past : first_wall B ≤ at) (before_parts : at < parts_row B) where
    sized : (1 ≤ storeys B) × (storeys B ≤ 3)
    sized = b.house_inside 1 (omega arith)

    same_storeys : storeys A ≡ storeys B
    same_storeys = sym (p.before 0 (omega arith) 1 (omega arith))

    kinds_left : (k : ℕ) → k < wall_rows B - 1 → cell A (first_wall B + k) 0 ≡ 4
    kinds_left k few = go (dec_lt (first_wall B + k) at)
      where
        kind : (row : ℕ) → first_wall B ≤ row → row < parts_row B → cell B row 0 ≡ 4
        kind row late early = omega (arith, b.wall_inside row late early 0 (omega arith))

        go : Dec (first_wall B + k < at) → cell A (first_wall B + k) 0 ≡ 4
        go (yes l) = sym (p.before (first_wall B + k) l 0 (omega arith)) ∙ kind (first_wall B + k) (omega arith) (omega arith)
        go (no l) = sym (p.after (first_wall B + k) (omega arith) 0 (omega arith)) ∙ kind (first_wall B + k + 1) (omega arith) (omega arith)

    pub stands_taken : Stands A B at
    stands_taken = record {
      storeys_same = sym same_storeys;
      walls_more = omega (arith, fewer);
      past = omega (arith, same_storeys);
      most = omega (arith, same_storeys, fewer);
    }
      where
        after_walls : cell A (first_wall B + (wall_rows B - 1)) 0 ≡ 4 → ⊥
        after_walls e =
            let next : first_wall B + (wall_rows B - 1) + 1 ≡ parts_row B = omega arith in
            omega (arith, b.parts_inside 0 (omega arith), rw next at (p.after (first_wall B + (wall_rows B - 1)) (omega arith) 0 (omega arith)), e)

        fewer : wall_rows A ≡ wall_rows B - 1
        fewer = walls_counted A (wall_rows B - 1) (omega (arith, b.sizes, p.long)) (rw same_storeys kinds_left) (rw same_storeys after_walls)

    pub taken_accepted : Accepted A
    taken_accepted =
        framed B A b front
        (λ column small. sym (rw parts at (p.after (parts_row A) (omega (arith, s)) column small)))
        (λ column small. sym (rw dates at (p.after (dates_row A) (omega (arith, s)) column small)))
        (omega (arith, b.sizes, p.long, s)) (omega (arith, s, b.few)) walls rising
      where
        s : Stands A B at
        s = stands_taken

        parts : parts_row A + 1 ≡ parts_row B
        parts = omega (arith, s)

        dates : dates_row A + 1 ≡ dates_row B
        dates = omega (arith, s)

        front : (row : ℕ) → row < first_wall B → Same B row A row
        front row l column small = sym (p.before row (omega arith) column small)

        walls : (row : ℕ) → first_wall A ≤ row → row < parts_row A → Inside (wall_columns A row) A row
        walls row late early = go (dec_lt row at)
          where
            go : Dec (row < at) → Inside (wall_columns A row) A row
            go (yes l) =
                wall_carried B A b front row row (λ column small. sym (p.before row l column small)) (b.wall_inside row (omega (arith, s)) (omega (arith, s)))
            go (no l) =
                wall_carried B A b front (row + 1) row (λ column small. sym (p.after row (omega arith) column small))
                (b.wall_inside (row + 1) (omega (arith, s)) (omega (arith, s)))

        rising : (row : ℕ) → first_wall A ≤ row → row + 1 < parts_row A → cell A row 1 ≤ cell A (row + 1) 1
        rising row late early = go (dec_lt (row + 1) at) (dec_lt row at)
          where
            go : Dec (row + 1 < at) → Dec (row < at) → cell A row 1 ≤ cell A (row + 1) 1
            go (yes l) _ =
                rw (← p.before row (omega arith) 1 (omega arith), ← p.before (row + 1) l 1 (omega arith)) (b.sorted row (omega (arith, s)) (omega (arith, s)))
            go (no l) (yes m) =
                let here : row + 1 ≡ at = omega arith in
                let one = b.sorted row (omega (arith, s)) (omega (arith, s)) in
                let two = b.sorted (row + 1) (omega (arith, s)) (omega (arith, s)) in
                omega (arith, one, two, p.before row m 1 (omega arith), p.after (row + 1) (omega arith) 1 (omega arith))
            go (no l) (no m) =
                rw (← p.after row (omega arith) 1 (omega arith), ← p.after (row + 1) (omega arith) 1 (omega arith)) (b.sorted (row + 1) (omega (arith, s)) (omega (arith, s)))
