-- Two tables of equal length whose rows are of the same kinds and storeys: where their walls and parts stand, and which walls a storey has.
-- Assumes nothing.
use Rattle.std.proofs.Common.{◌≡◌, refl, sym, ap₂, subst, ◌∙◌, Bool, true, false, cond, List, [], ◌++◌, ℕ, zero, suc, ◌+◌, ◌*◌, ◌/◌, ◌<◌, ◌≤◌, le_refl, arith, T, eqb→eq, length, ext_get_or}
use mir.Facts.{and_yes}
use Rattle.answer.proofs.Places.{first_same}
use Rattle.answer.proofs.Parts.{part_element}
use Rattle.survey.specs.Table.{cell, is_wall, first_wall, wall_rows, parts_row}
use Rattle.survey.specs.Judgement.{judging}
use Rattle.survey.specs.Walls.{rows_from, rows_where, is_wall_of, storey_walls}
use Rattle.survey.proofs.RefusalNumbers.{judging_accepts}
use Rattle.survey.proofs.StoreyWalls.{rows_length}

module _
    (A B : List ℕ) (long : length A ≡ length B)
    (kinds : (row : ℕ) → cell A row 0 ≡ cell B row 0) (numbers : (row : ℕ) → cell A row 1 ≡ cell B row 1)
  where
    -- They have equally many walls, and the parts in the same row.
    pub wall_rows_alike : wall_rows A ≡ wall_rows B
    unfolding wall_rows
    wall_rows_alike = rw (numbers 0, long) (first_same _ _ (length B) (λ k. rw (kinds (first_wall B + k))))

    pub parts_row_alike : parts_row A ≡ parts_row B
    parts_row_alike = rw (numbers 0, wall_rows_alike)

    -- The same rows are walls of a storey, and each of them is of kind 4.
    wall_of_alike : (storey row : ℕ) → is_wall_of A storey row ≡ is_wall_of B storey row
    unfolding is_wall_of
    wall_of_alike storey row = rw (kinds row, numbers row)

    wall_of_kind : (storey row : ℕ) → is_wall_of A storey row ≡ true → cell A row 0 ≡ 4
    unfolding is_wall_of
    wall_of_kind storey row e = eqb→eq (cell A row 0) 4 (and_yes (is_wall A row) _ (subst T (sym e) tt)).0

    module _
        (A_accepted : (judging A).number ≡ 0) (B_accepted : (judging B).number ≡ 0)
        (same : (row column : ℕ) → cell A row 0 ≡ 4 → column < 8 → cell A row column ≡ cell B row column)
      where
        -- A wall's row is the same in both.
        row_alike : (row : ℕ) → row < length A / 8 → cell A row 0 ≡ 4 → rows_from A row 1 ≡ rows_from B row 1
        unfolding rows_from
        row_alike row inside wall =
            let whole = rows_length A row 1 (omega arith) in
            ext_get_or 0 (rows_from A row 1) (rows_from B row 1) (whole ∙ sym (rows_length B row 1 (omega arith)))
            (λ i l.
            let small : i < 8 * 1 = omega (arith, whole) in
            part_element (8 * row) (8 * 1) A i small ∙ same row i wall (omega arith) ∙ sym (part_element (8 * row) (8 * 1) B i small))

        -- What one row adds to the walls of a storey, and all rows.
        one_alike : (storey row : ℕ) → row < length A / 8
            → cond (is_wall_of A storey row) (rows_from A row 1) [] ≡ cond (is_wall_of B storey row) (rows_from B row 1) []
        one_alike storey row inside = rw (← wall_of_alike storey row) (go (is_wall_of A storey row) refl)
          where
            go : (b : Bool) → is_wall_of A storey row ≡ b → cond b (rows_from A row 1) [] ≡ cond b (rows_from B row 1) []
            go true e = row_alike row inside (wall_of_kind storey row e)
            go false e = refl

        where_alike : (storey n : ℕ) → n ≤ length A / 8 → rows_where (is_wall_of A storey) A n ≡ rows_where (is_wall_of B storey) B n
        unfolding rows_where
        where_alike storey zero inside = refl
        where_alike storey (suc n) inside =
            ap₂ {B = List ℕ} (λ (a b : List ℕ). a ++ b) (where_alike storey n (omega arith)) (one_alike storey n (omega arith))

        -- A storey has the same walls in both.
        pub walls_alike : (storey : ℕ) → storey_walls A storey ≡ storey_walls B storey
        unfolding storey_walls
        walls_alike storey =
            rw (judging_accepts A A_accepted, judging_accepts B B_accepted, ← long)
            (where_alike storey (length A / 8) (le_refl (length A / 8)))
