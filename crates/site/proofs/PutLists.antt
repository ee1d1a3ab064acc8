-- A row put in and taken out, as lists. Assumes nothing.
use Rattle.std.proofs.Common.{◌≡◌, refl, sym, ap, ◌∙◌, List, ◌++◌, ℕ, ◌+◌, ◌-◌, ◌*◌, ◌<◌, ◌≤◌, append_assoc, arith, length, get_or, take, drop, length-append}
use Rattle.std.proofs.lemmas.List.{get_or-take, get_or-drop, get_or-append_right, length-take, length-drop, drop-drop, take-append-drop}
use Rattle.std.proofs.Math.Seq.{take-append_seam, drop-append_seam}
use lib.ListN.{get_or-append}
use Rattle.survey.specs.Table.{cell}
use Rattle.site.specs.Rows.{with_row, without_row}
use Rattle.site.proofs.PutRows.{Put}

module _ (rows : List ℕ) (row : ℕ) (numbers : List ℕ) (fits : 8 * row ≤ length rows) (eight : length numbers ≡ 8) where
  front_long : length (take (8 * row) rows) ≡ 8 * row
  front_long = omega (arith, length-take (8 * row) rows)

  pub with_long : length (with_row rows row numbers) ≡ length rows + 8
  unfolding with_row
  with_long = simp (length-append, length-take, length-drop) (omega arith)

  -- The row that was put in,
  pub with_numbers : (column : ℕ) → column < 8 → cell (with_row rows row numbers) row column ≡ cell numbers 0 column
  unfolding with_row
  with_numbers column small =
      let place : 8 * row + column - 8 * row ≡ 8 * 0 + column = omega arith in
      rw (append_assoc, get_or-append_right (take (8 * row) rows) (numbers ++ drop (8 * row) rows) (8 * row) (8 * row + column) 0 front_long (omega arith), place)
      (get_or-append numbers (drop (8 * row) rows) 0 (8 * 0 + column) (omega arith))

  -- and all others.
  pub with_put : Put rows (with_row rows row numbers) row
  unfolding with_row
  with_put = record {
    inside = fits;
    long = with_long;
    before = λ k l column small.
        rw (append_assoc, get_or-append (take (8 * row) rows) (numbers ++ drop (8 * row) rows) 0 (8 * k + column) (omega (arith, front_long)))
        (get_or-take (8 * row) rows (8 * k + column) 0 (omega arith));
    after = λ k l column small.
        let place : 8 * row + (8 * (k + 1) + column - 8 * row - 8) ≡ 8 * k + column = omega arith in
        rw (
          append_assoc,
          get_or-append_right (take (8 * row) rows) (numbers ++ drop (8 * row) rows) (8 * row) (8 * (k + 1) + column) 0 front_long (omega arith),
          get_or-append_right numbers (drop (8 * row) rows) 8 (8 * (k + 1) + column - 8 * row) 0 eight (omega arith),
          get_or-drop,
          place,
        )
        refl;
  }

  -- Put in and taken out again, all is as it was.
  pub put_back : without_row (with_row rows row numbers) row ≡ rows
  unfolding with_row without_row
  put_back =
      let front = take (8 * row) rows in
      let rest = drop (8 * row) rows in
      let first : take (8 * row) (front ++ (numbers ++ rest)) ≡ front =
      ap (λ (n : ℕ). take n (front ++ (numbers ++ rest))) (sym front_long) ∙ take-append_seam front (numbers ++ rest) in
      let behind : drop (8 * row) (front ++ (numbers ++ rest)) ≡ numbers ++ rest =
      ap (λ (n : ℕ). drop n (front ++ (numbers ++ rest))) (sym front_long) ∙ drop-append_seam front (numbers ++ rest) in
      let last : drop 8 (numbers ++ rest) ≡ rest = ap (λ (n : ℕ). drop n (numbers ++ rest)) (sym eight) ∙ drop-append_seam numbers rest in
      rw (append_assoc, first, ← drop-drop 8 (8 * row) (front ++ (numbers ++ rest)), behind, last) (take-append-drop (8 * row) rows)

module _ (rows : List ℕ) (row : ℕ) (fits : 8 * row + 8 ≤ length rows) where
  first_long : length (take (8 * row) rows) ≡ 8 * row
  first_long = omega (arith, length-take (8 * row) rows)

  pub without_long : length (without_row rows row) + 8 ≡ length rows
  unfolding without_row
  without_long = simp (length-append, length-take, length-drop) (omega arith)

  pub without_put : Put (without_row rows row) rows row
  unfolding without_row
  without_put = record {
    inside = omega (arith, without_long);
    long = sym without_long;
    before = λ k l column small.
        sym (get_or-append (take (8 * row) rows) (drop (8 * row + 8) rows) 0 (8 * k + column) (omega (arith, first_long))
        ∙ get_or-take (8 * row) rows (8 * k + column) 0 (omega arith));
    after = λ k l column small.
        let place : 8 * row + 8 + (8 * k + column - 8 * row) ≡ 8 * (k + 1) + column = omega arith in
        sym (get_or-append_right (take (8 * row) rows) (drop (8 * row + 8) rows) (8 * row) (8 * k + column) 0 first_long (omega arith)
        ∙ get_or-drop (8 * row + 8) rows (8 * k + column - 8 * row) 0 ∙ ap (λ (i : ℕ). get_or rows i 0) place);
  }
