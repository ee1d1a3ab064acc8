-- The joint factor: which printed entry it takes, and that it never exceeds 100. Assumes nothing.
use Rattle.std.proofs.Common.{◌≡◌, refl, sym, ap, ◌∙◌, Option, None, Some, Bool, true, false, ◌&&◌, List, [], ◌∷◌, ℕ, zero, suc, ◌-◌, ◌*◌, ◌<◌, ◌≤◌, zero-le, lit≤, le-leb, ne_eqb, le_trans, le_of_suc-le-suc, mul-le-mul_right, div-lt_iff_lt-mul, arith, length, get_or, unwrap_or, eqb, ltb, leb-true, eqb-true, ltb-true, ltb-false}
use lib.ListN.{get_or-eq_default}
use borrow.Author.Tests.{eqb-false}
use Rattle.std.proofs.lemmas.Bool.{and_parts}
use Rattle.method.specs.declared.rows.House.{House}
use Rattle.method.specs.declared.rows.Wall.{Wall}
use Rattle.method.specs.Printed.{nth, numbered}
use Rattle.method.specs.JointTables.{top_storey, other_storey, one_storey, at2, at3, at5, at7}
use Rattle.method.specs.Held.{position, foundation_used, shared_row, top_entry, entry_in, entry, entries, interpolated, row_factor, joint_factor}
use Rattle.method.proofs.Branches.{cond_most, cond_least, cond_same, cond_every}
use Rattle.method.proofs.Tables.{nth_none, numbered_nth, numbered_empty, every, get_or_every, nth_every, small, short, full}

-- A test that every printed entry passes, of all snows and positions.
abbrev every_top : (ℕ → Bool) → Bool
every_top passes = every (every (every passes)) top_storey

abbrev every_in : List (List (List (List ℕ))) → (ℕ → Bool) → Bool
every_in tables passes = every (every (every (every passes))) tables

abbrev every_entry : (ℕ → Bool) → Bool
every_entry passes = every_top passes && (every_in other_storey passes && every_in one_storey passes)

-- Then the entry that is taken passes, and so does the 0 where none is printed.
module _ (passes : ℕ → Bool) (default : passes 0 ≡ true) (snow position foundation joint column : ℕ) where
  top_every : every_top passes ≡ true → passes (top_entry snow joint column) ≡ true
  unfolding top_entry
  top_every h =
      let table = get_or top_storey snow [] in
      get_or_every passes default (nth table joint [])
      (nth_every (every passes) refl table (get_or_every (every (every passes)) refl top_storey h snow) joint) column

  in_every : (tables : List (List (List (List ℕ)))) → every_in tables passes ≡ true → (line : ℕ) → passes (entry_in tables snow foundation line column) ≡ true
  unfolding entry_in
  in_every tables h line =
      let table = get_or tables snow [] in
      let row = nth table line [] in
      nth_every passes default (get_or row column [])
      (get_or_every (every passes) refl row
      (nth_every (every (every passes)) refl table (get_or_every (every (every (every passes))) refl tables h snow) line) column) foundation

  pub entry_every : every_entry passes ≡ true → passes (entry snow position foundation joint column) ≡ true
  unfolding entry
  entry_every all =
      let apart = and_parts (every_top passes) (every_in other_storey passes && every_in one_storey passes) all in
      let others = and_parts (every_in other_storey passes) (every_in one_storey passes) apart.1 in
      cond_every passes (eqb position 1) (top_every apart.0)
      (cond_every passes (eqb position 2) (in_every other_storey others.0 joint) (in_every one_storey others.1 (shared_row joint)))

-- No printed entry is above 100: one test over tables 4.3 and 4.4.
all_small : every_entry (small 100) ≡ true
all_small = refl

pub entry_most : (snow position foundation joint column : ℕ) → entry snow position foundation joint column ≤ 100
entry_most snow position foundation joint column = leb-true _ 100 (entry_every (small 100) refl snow position foundation joint column all_small)

-- The table of one storey has three lines.
pub shared_some : (joint : ℕ) → 1 ≤ joint → 1 ≤ shared_row joint
unfolding shared_row
shared_some joint some = cond_least (eqb joint 4) (λ e. lit≤ tt) (λ e. some)

pub shared_most : (joint : ℕ) → joint ≤ 4 → shared_row joint ≤ 3
unfolding shared_row
shared_most joint most = cond_most (eqb joint 4) (λ e. lit≤ tt) (λ e. omega (arith, most, eqb-false joint 4 e))

-- Where there is no printed entry, in any column.
module _ (snow position foundation joint : ℕ) where
  no_line : {A : Type 0} (tables : List (List (List A))) (most line : ℕ) → every (short most) tables ≡ true → (1 ≤ line → line ≤ most → ⊥)
      → nth (get_or tables snow []) line [] ≡ []
  no_line tables most line h none =
      let lines = leb-true _ most (get_or_every (short most) (le-leb 0 most zero-le) tables h snow) in
      nth_none (get_or tables snow []) line [] (λ some last. none some (le_trans last lines))

  no_foundation : (tables : List (List (List (List ℕ)))) → every (every (every (short 3))) tables ≡ true → (line : ℕ)
      → (1 ≤ foundation → foundation ≤ 3 → ⊥) → (column : ℕ) → 0 ≡ entry_in tables snow foundation line column
  unfolding entry_in
  no_foundation tables h line none column =
      let table = get_or tables snow [] in
      let row = nth table line [] in
      let cell = get_or row column [] in
      let Short_row = nth_every (every (short 3)) refl table (get_or_every (every (every (short 3))) refl tables h snow) line in
      let three : length cell ≤ 3 = leb-true _ 3 (get_or_every (short 3) refl row Short_row column) in
      sym (nth_none cell foundation 0 (λ some most. none some (le_trans most three)))

  pub entry_no_snow : 4 ≤ snow → (column : ℕ) → 0 ≡ entry snow position foundation joint column
  unfolding entry top_entry entry_in nth
  entry_no_snow beyond column =
      rw (
        get_or-eq_default top_storey [] beyond,
        get_or-eq_default other_storey [] beyond,
        get_or-eq_default one_storey [] beyond,
        nth_none {A = List ℕ} [] joint [] (λ some most. omega arith),
        nth_none {A = List (List ℕ)} [] joint [] (λ some most. omega arith),
        nth_none {A = List (List ℕ)} [] (shared_row joint) [] (λ some most. omega arith),
        nth_none {A = ℕ} [] foundation 0 (λ some most. omega arith),
      )
      (cond_same (eqb position 1) refl (cond_same (eqb position 2) refl refl))

  pub entry_no_joint : (1 ≤ joint → joint ≤ 4 → ⊥) → (column : ℕ) → 0 ≡ entry snow position foundation joint column
  unfolding entry top_entry entry_in shared_row nth
  entry_no_joint none column =
      rw (
        no_line top_storey 4 joint refl none,
        no_line other_storey 4 joint refl none,
        ne_eqb joint 4 (λ e. none (omega arith) (omega arith)),
        no_line one_storey 3 joint refl (λ some most. none some (omega arith)),
        nth_none {A = ℕ} [] foundation 0 (λ some most. omega arith),
      )
      (cond_same (eqb position 1) refl (cond_same (eqb position 2) refl refl))

  pub entry_no_foundation : (position ≡ 1 → ⊥) → (1 ≤ foundation → foundation ≤ 3 → ⊥) → (column : ℕ) → 0 ≡ entry snow position foundation joint column
  unfolding entry
  entry_no_foundation below none column =
      rw (ne_eqb position 1 below)
      (cond_same (eqb position 2) (no_foundation other_storey refl joint none column) (no_foundation one_storey refl (shared_row joint) none column))

-- The code's row where there is none.
abbrev none_printed : List ℕ
none_printed = 0 ∷ 0 ∷ 0 ∷ 0 ∷ []

-- A line of the top storey's table is its entries.
line_is : (line : List ℕ) → full 4 line ≡ true → line ≡ entries (λ column. get_or line column 0)
line_is [] four = cc
line_is (a ∷ []) four = cc
line_is (a ∷ b ∷ []) four = cc
line_is (a ∷ b ∷ c ∷ []) four = cc
line_is (a ∷ b ∷ c ∷ d ∷ []) four = refl
line_is (a ∷ b ∷ c ∷ d ∷ e ∷ line) four = absurd (omega (arith, eqb-true (length (a ∷ b ∷ c ∷ d ∷ e ∷ line)) 4 four))

lines_are : (table : List (List ℕ)) → every (full 4) table ≡ true → (line : ℕ)
    → unwrap_or (numbered table line) none_printed ≡ entries (λ column. get_or (nth table line []) column 0)
unfolding numbered nth
lines_are table four zero = refl
lines_are [] four (suc n) = refl
lines_are (line ∷ table) four (suc zero) = line_is line (and_parts (full 4 line) (every (full 4) table) four).0
lines_are (line ∷ table) four (suc (suc n)) = lines_are table (and_parts (full 4 line) (every (full 4) table) four).1 (suc n)

module _ (snow position foundation joint : ℕ) where
  pub row_top : 1 ≡ position → (table : List (List ℕ)) → table ≡ get_or top_storey snow []
      → unwrap_or (numbered table joint) none_printed ≡ entries (entry snow position foundation joint)
  unfolding entry top_entry
  row_top top table known =
      rw (← top, known) (lines_are (get_or top_storey snow []) (get_or_every (every (full 4)) refl top_storey refl snow) joint)

  pub row_no_top : 1 ≡ position → [] ≡ get_or top_storey snow [] → none_printed ≡ entries (entry snow position foundation joint)
  row_no_top top none = ap (λ (o : Option (List ℕ)). unwrap_or o none_printed) (numbered_empty joint) ∙ row_top top [] none

  pub row_other : 2 ≡ position → entries (entry_in other_storey snow foundation joint) ≡ entries (entry snow position foundation joint)
  unfolding entry
  row_other other = rw (← other)

  pub row_one : 3 ≡ position → entries (entry_in one_storey snow foundation (shared_row joint)) ≡ entries (entry snow position foundation joint)
  unfolding entry
  row_one one = rw (← one)

-- Of the tables that go by foundations too.
module _ (tables : List (List (List (List ℕ)))) (snow foundation line : ℕ) where
  module _ (table : List (List (List ℕ))) (known : table ≡ get_or tables snow []) where
    pub row_printed : (printed : List (List ℕ)) → Some printed ≡ numbered table line
        → entries (λ column. nth (get_or printed column []) foundation 0) ≡ entries (entry_in tables snow foundation line)
    unfolding entry_in
    row_printed printed found =
        let same : printed ≡ nth table line [] = ap (λ (o : Option (List (List ℕ))). unwrap_or o []) found ∙ numbered_nth table line [] in
        rw (← known, same)

    pub row_none : None ≡ numbered table line → none_printed ≡ entries (entry_in tables snow foundation line)
    unfolding entry_in
    row_none none =
        let same : [] ≡ nth table line [] = ap (λ (o : Option (List (List ℕ))). unwrap_or o []) none ∙ numbered_nth table line [] in
        rw (← known, ← same, nth_none {A = ℕ} [] foundation 0 (λ some most. omega arith))

-- The factor by a row's four entries is that by the row.
pub row_factor_by : (held : List ℕ) (row : ℕ → ℕ) (strength : ℕ) → held ≡ entries row → row_factor (λ column. get_or held column 0) strength ≡ row_factor row strength
unfolding row_factor
row_factor_by held row strength same = ap (λ (list : List ℕ). row_factor (λ column. get_or list column 0) strength) same

-- Between entries of at most 100 the factor is at most 100.
pub interpolated_most : (from to left right strength : ℕ) → left ≤ 100 → right ≤ 100 → from ≤ strength → strength < to
    → interpolated from to left right strength ≤ 100
unfolding interpolated
interpolated_most from to left right strength l r above below =
    let one : left * (to - strength) ≤ 100 * (to - strength) = mul-le-mul_right (to - strength) l in
    let other : right * (strength - from) ≤ 100 * (strength - from) = mul-le-mul_right (strength - from) r in
    le_of_suc-le-suc ((div-lt_iff_lt-mul {k = 2 * (to - from)} (omega arith)).1 (omega arith))

-- The factor by a row whose entries are at most 100.
module _ (row : ℕ → ℕ) (most : (column : ℕ) → row column ≤ 100) (strength : ℕ) where
  stretch_most : (from to left right : ℕ) → ltb strength from ≡ false → ltb strength to ≡ true
      → interpolated from to (row left) (row right) strength ≤ 100
  stretch_most from to left right above below =
      interpolated_most from to (row left) (row right) strength (most left) (most right) (ltb-false strength from above) (ltb-true strength to below)

  row_most : row_factor row strength ≤ 100
  unfolding row_factor
  row_most =
      cond_most (ltb strength 20) (λ e. most at2)
      (λ above_20. cond_most (ltb strength 30) (stretch_most 20 30 at2 at3 above_20)
      (λ above_30. cond_most (ltb strength 50) (stretch_most 30 50 at3 at5 above_30)
      (λ above_50. cond_most (ltb strength 70) (stretch_most 50 70 at5 at7 above_50) (λ above_70. most at7))))

-- Once over every snow, position, foundation and joint, and so for every storey.
pub row_factor_most : (snow position foundation joint strength : ℕ) → row_factor (entry snow position foundation joint) strength ≤ 100
row_factor_most snow position foundation joint strength =
    row_most (entry snow position foundation joint) (entry_most snow position foundation joint) strength

pub joint_most : (house : House) (storey : ℕ) (wall : Wall) → joint_factor house storey wall ≤ 100
unfolding joint_factor
joint_most house storey wall =
    row_factor_most house.snow (position house storey) (foundation_used house storey) wall.joint wall.strength
