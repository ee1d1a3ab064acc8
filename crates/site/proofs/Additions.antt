-- The tests of an addition, one after the other, and what holds where it passes them all. Assumes nothing.
use Rattle.std.proofs.Common.{◌≡◌, refl, sym, ap, ◌∙◌, Bool, true, false, cond, List, ℕ, ◌+◌, ◌/◌, ◌<◌, ◌≤◌, arith, length, ltb, leb, lt-ltb, le-ltb, ltb-false}
use Rattle.std.proofs.lemmas.Bool.{le-leb, lt-leb}
use borrow.Author.Tests.{leb-false}
use native.Mathlib.Decide.{dec_lt, dec_le}
use Rattle.answer.specs.Told.{Told, accepts, counted, refusal, out_of_range, too_many_walls, lent_space_short, no_such_wall}
use Rattle.answer.specs.Length.{most_walls}
use Rattle.survey.specs.Table.{cell, storeys, wall_rows}
use Rattle.survey.specs.Ranges.{wall_ranges}
use Rattle.survey.specs.Judgement.{new_wall_column}
use Rattle.survey.specs.Acceptance.{Inside}
use Rattle.survey.proofs.FaultlessRows.{leftmost_inside}
use Rattle.site.specs.Totals.{total_added, some_above}
use Rattle.site.specs.Changes.{row_taken, addition}
use Rattle.site.specs.Internal.{InStoreys}
use Rattle.site.proofs.Checking.{refused_counts}

module _ (rows held wall : List ℕ) (lent : ℕ) where
  abbrev column : ℕ
  column = new_wall_column (storeys rows) wall

  abbrev row : ℕ
  row = row_taken rows wall + 1

  pub told_range : (found : ℕ) → found ≡ column → found < 8 → refusal out_of_range row (found + 1) ≡ addition rows held lent wall
  unfolding addition
  told_range found is inside = rw (is, lt-ltb column 8 (omega (arith, is)))

  pub told_walls : 8 ≤ column → most_walls ≤ wall_rows rows → refusal too_many_walls row 1 ≡ addition rows held lent wall
  unfolding addition
  told_walls ranged many = rw (le-ltb column 8 ranged, le-leb _ _ many)

  pub told_room : 8 ≤ column → wall_rows rows < most_walls → lent < length rows + 8 → refusal lent_space_short 0 0 ≡ addition rows held lent wall
  unfolding addition
  told_room ranged few short = rw (le-ltb column 8 ranged, lt-leb _ _ few, lt-ltb _ _ short)

  pub told_totals : 8 ≤ column → wall_rows rows < most_walls → length rows + 8 ≤ lent → some_above (storeys rows) (total_added rows held wall) ≡ true
      → refusal no_such_wall 0 0 ≡ addition rows held lent wall
  unfolding addition
  told_totals ranged few room above = rw (le-ltb column 8 ranged, lt-leb _ _ few, le-ltb _ _ room, above)

  -- What holds where it passes.
  pub record Passes : Type 0 where
    pub ranged : 8 ≤ column
    pub few : wall_rows rows < most_walls
    pub room : length rows + 8 ≤ lent
    pub within : some_above (storeys rows) (total_added rows held wall) ≡ false

  pub passes_told : Passes → addition rows held lent wall ≡ counted (length rows / 8 + 1)
  unfolding addition
  passes_told p = rw (le-ltb column 8 p.ranged, lt-leb _ _ p.few, le-ltb _ _ p.room, p.within)

  pub told_passes : accepts (addition rows held lent wall) ≡ true → Passes
  unfolding addition
  told_passes e = go (ltb column 8) refl (leb most_walls (wall_rows rows)) refl (ltb lent (length rows + 8)) refl (some_above (storeys rows) (total_added rows held wall)) refl e
    where
      go : (a : Bool) → ltb column 8 ≡ a → (b : Bool) → leb most_walls (wall_rows rows) ≡ b → (c : Bool) → ltb lent (length rows + 8) ≡ c
          → (d : Bool) → some_above (storeys rows) (total_added rows held wall) ≡ d
          → accepts (cond a (refusal out_of_range row (column + 1)) (cond b (refusal too_many_walls row 1)
          (cond c (refusal lent_space_short 0 0) (cond d (refusal no_such_wall 0 0) (counted (length rows / 8 + 1)))))) ≡ true
          → Passes
      go true ea b eb c ec d ed e = absurd (refused_counts out_of_range row (column + 1) e)
      go false ea true eb c ec d ed e = absurd (refused_counts too_many_walls row 1 e)
      go false ea false eb true ec d ed e = absurd (refused_counts lent_space_short 0 0 e)
      go false ea false eb false ec true ed e = absurd (refused_counts no_such_wall 0 0 e)
      go false ea false eb false ec false ed e =
          record { ranged = ltb-false _ _ ea; few = leb-false _ _ eb; room = ltb-false _ _ ec; within = ed }

  -- Which of the tests a number comes from: the rest of the cases have another.
  pub record Numbers : Type 0 where
    pub walls : (addition rows held lent wall).number ≡ too_many_walls → most_walls ≤ wall_rows rows
    pub space : (addition rows held lent wall).number ≡ lent_space_short → lent < length rows + 8
    pub totals : (addition rows held lent wall).number ≡ no_such_wall
        → (8 ≤ column) × (wall_rows rows < most_walls) × (length rows + 8 ≤ lent) × (some_above (storeys rows) (total_added rows held wall) ≡ true)

  numbers : Numbers
  numbers =
      go (dec_lt column 8) (dec_le most_walls (wall_rows rows)) (dec_lt lent (length rows + 8)) (some_above (storeys rows) (total_added rows held wall)) refl
    where
      other : {A : Type 0} (n m : ℕ) → (addition rows held lent wall).number ≡ n → (n ≡ m → ⊥) → (addition rows held lent wall).number ≡ m → A
      other n m e differs z = absurd (differs (sym e ∙ z))

      go : Dec (column < 8) → Dec (most_walls ≤ wall_rows rows) → Dec (lent < length rows + 8)
          → (b : Bool) → some_above (storeys rows) (total_added rows held wall) ≡ b → Numbers
      go (yes l) _ _ b f =
          let four = ap (λ (t : Told). t.number) (sym (told_range column refl l)) in
          record { walls = other 4 5 four (λ z. omega arith); space = other 4 9 four (λ z. omega arith); totals = other 4 12 four (λ z. omega arith) }
      go (no l) (yes many) _ b f =
          let five = ap (λ (t : Told). t.number) (sym (told_walls (omega arith) many)) in
          record { walls = λ z. many; space = other 5 9 five (λ z. omega arith); totals = other 5 12 five (λ z. omega arith) }
      go (no l) (no few) (yes short) b f =
          let nine = ap (λ (t : Told). t.number) (sym (told_room (omega arith) (omega arith) short)) in
          record { walls = other 9 5 nine (λ z. omega arith); space = λ z. short; totals = other 9 12 nine (λ z. omega arith) }
      go (no l) (no few) (no room) true f =
          let twelve = ap (λ (t : Told). t.number) (sym (told_totals (omega arith) (omega arith) (omega arith) f)) in
          record { walls = other 12 5 twelve (λ z. omega arith); space = other 12 9 twelve (λ z. omega arith); totals = λ z. (omega arith, omega arith, omega arith, f) }
      go (no l) (no few) (no room) false f =
          let none = ap (λ (t : Told). t.number) (passes_told (record { ranged = omega arith; few = omega arith; room = omega arith; within = f })) in
          record { walls = other 0 5 none (λ z. omega arith); space = other 0 9 none (λ z. omega arith); totals = other 0 12 none (λ z. omega arith) }

  pub five_told : (addition rows held lent wall).number ≡ too_many_walls → most_walls ≤ wall_rows rows
  five_told e = numbers.walls e

  pub nine_told : (addition rows held lent wall).number ≡ lent_space_short → lent < length rows + 8
  nine_told e = numbers.space e

  pub twelve_told : (addition rows held lent wall).number ≡ no_such_wall
      → (8 ≤ column) × (wall_rows rows < most_walls) × (length rows + 8 ≤ lent) × (some_above (storeys rows) (total_added rows held wall) ≡ true)
  twelve_told e = numbers.totals e

  -- A wall whose numbers lie in their ranges stands in a storey of the house.
  pub wall_inside : 8 ≤ column → Inside (wall_ranges (storeys rows) (cell wall 0 7)) wall 0
  unfolding new_wall_column
  wall_inside ranged = leftmost_inside (wall_ranges (storeys rows) (cell wall 0 7)) wall 0 ranged

  pub in_storeys : 8 ≤ column → InStoreys wall (storeys rows)
  in_storeys ranged =
      let inside = wall_inside ranged in
      let storey = inside 1 (omega arith) in
      let direction = inside 2 (omega arith) in
      record { some_storey = storey.0; last_storey = storey.1; some_direction = direction.0; last_direction = direction.1 }
