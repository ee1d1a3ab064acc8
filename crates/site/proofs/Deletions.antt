-- The tests of a deletion, one after the other, and what holds where it passes them all. Assumes nothing.
use Rattle.std.proofs.Common.{◌≡◌, refl, sym, ap, Bool, true, false, cond, not, ◌&&◌, ◌||◌, T, subst, Option, Some, None, List, ℕ, ◌-◌, ◌/◌, ◌<◌, ◌≤◌, arith, length, ltb, lt-ltb, le-ltb, ltb-false, eq-eqb, eqb→eq, ltb→lt}
use mir.Facts.{and_yes}
use Rattle.answer.specs.Told.{Told, accepts, counted, refusal, no_such_wall}
use Rattle.survey.specs.Table.{cell, storeys, is_wall}
use Rattle.diagnosis.specs.Rows.{house_of}
use Rattle.diagnosis.specs.House.{row_share}
use Rattle.site.specs.Totals.{wall_total, total_taken, some_above, would_fall_below}
use Rattle.site.specs.Changes.{deletion}
use Rattle.site.specs.Internal.{wall_row}
use Rattle.site.proofs.Checking.{refused_counts}

module _ (rows held : List ℕ) (row : ℕ) where
  abbrev stands : Bool
  stands = ltb 0 row && is_wall rows (row - 1)

  -- The wall that the code finds, if it does.
  pub record Wall (at : ℕ) : Type 0 where
    pub some : 0 < row
    pub at_is : at ≡ row - 1
    pub kind : cell rows (row - 1) 0 ≡ 4
    pub test : stands ≡ true

  wall_of_test : stands ≡ true → Wall (row - 1)
  wall_of_test e =
      let both = and_yes (ltb 0 row) (is_wall rows (row - 1)) (subst T (sym e) tt) in
      record { some = ltb→lt 0 row both.0; at_is = refl; kind = eqb→eq (cell rows (row - 1) 0) 4 both.1; test = e }

  pub wall_here : 0 < row → cell rows (row - 1) 0 ≡ 4 → Wall (row - 1)
  wall_here some kind =
      record { some = some; at_is = refl; kind = kind; test = rw (lt-ltb 0 row some, eq-eqb (cell rows (row - 1) 0) 4 kind) refl }

  pub found_wall : {at : ℕ} → Some at ≡ wall_row rows row → Wall at
  found_wall {at} e = go stands refl e
    where
      go : (b : Bool) → stands ≡ b → ◌≡◌ {A = Option ℕ} (Some at) (cond b (Some (row - 1)) None) → Wall at
      go true f e =
          let same : at ≡ row - 1 = grind arith in
          rw same (wall_of_test f)
      go false f e = absurd (grind arith)

  pub no_wall : None ≡ wall_row rows row → refusal no_such_wall row 0 ≡ deletion rows held row
  unfolding deletion
  no_wall e = go stands refl e
    where
      go : (b : Bool) → stands ≡ b → ◌≡◌ {A = Option ℕ} None (cond b (Some (row - 1)) None)
          → refusal no_such_wall row 0
          ≡ cond (not b) (refusal no_such_wall row 0)
          (cond (would_fall_below rows held (row - 1) || some_above (storeys rows) (total_taken rows held (row - 1))) (refusal no_such_wall 0 0)
          (counted (length rows / 8 - 1)))
      go true f e = absurd (grind arith)
      go false f e = refl

  abbrev enough : Type 0
  enough = row_share (house_of rows) rows (row - 1) ≤ wall_total held rows (row - 1)

  pub told_below : stands ≡ true → wall_total held rows (row - 1) < row_share (house_of rows) rows (row - 1)
      → refusal no_such_wall 0 0 ≡ deletion rows held row
  unfolding deletion
  told_below wall below = rw (wall, lt-ltb (wall_total held rows (row - 1)) (row_share (house_of rows) rows (row - 1)) below)

  pub told_above : stands ≡ true → enough → some_above (storeys rows) (total_taken rows held (row - 1)) ≡ true
      → refusal no_such_wall 0 0 ≡ deletion rows held row
  unfolding deletion
  told_above wall some above = rw (wall, le-ltb (wall_total held rows (row - 1)) (row_share (house_of rows) rows (row - 1)) some, above)

  -- What holds where it passes.
  pub record Passes : Type 0 where
    pub wall : Wall (row - 1)
    pub enough_held : enough
    pub within : some_above (storeys rows) (total_taken rows held (row - 1)) ≡ false

  pub passes_told : Passes → deletion rows held row ≡ counted (length rows / 8 - 1)
  unfolding deletion
  passes_told p =
      rw (p.wall.test, le-ltb (wall_total held rows (row - 1)) (row_share (house_of rows) rows (row - 1)) p.enough_held, p.within)

  pub told_passes : accepts (deletion rows held row) ≡ true → Passes
  unfolding deletion
  told_passes e = go stands refl (would_fall_below rows held (row - 1)) refl (some_above (storeys rows) (total_taken rows held (row - 1))) refl e
    where
      go : (a : Bool) → stands ≡ a → (b : Bool) → would_fall_below rows held (row - 1) ≡ b
          → (c : Bool) → some_above (storeys rows) (total_taken rows held (row - 1)) ≡ c
          → accepts (cond (not a) (refusal no_such_wall row 0) (cond (b || c) (refusal no_such_wall 0 0) (counted (length rows / 8 - 1)))) ≡ true
          → Passes
      go false ea b eb c ec e = absurd (refused_counts no_such_wall row 0 e)
      go true ea true eb c ec e = absurd (refused_counts no_such_wall 0 0 e)
      go true ea false eb true ec e = absurd (refused_counts no_such_wall 0 0 e)
      go true ea false eb false ec e =
          record { wall = wall_of_test ea; enough_held = ltb-false (wall_total held rows (row - 1)) (row_share (house_of rows) rows (row - 1)) eb; within = ec }

  -- Where a wall's total is never too small, nor another above, 12 is told at the row that is no wall.
  pub twelve_told : (Wall (row - 1) → enough × (some_above (storeys rows) (total_taken rows held (row - 1)) ≡ false))
      → (deletion rows held row).number ≡ no_such_wall → deletion rows held row ≡ refusal no_such_wall row 0
  twelve_told fine e = go stands refl
    where
      go : (b : Bool) → stands ≡ b → deletion rows held row ≡ refusal no_such_wall row 0
      go false f = sym (no_wall (rw f refl))
      go true f =
          let wall = wall_of_test f in
          let none = ap (λ (t : Told). t.number) (passes_told (record { wall = wall; enough_held = (fine wall).0; within = (fine wall).1 })) in
          absurd (omega (arith, none, e))
