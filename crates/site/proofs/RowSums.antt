-- What a storey holds in a direction as a sum over all rows, and that sum with one row put in. Assumes nothing.
use Rattle.std.proofs.Common.{◌≡◌, refl, sym, ap, Bool, true, false, cond, List, ℕ, zero, suc, ◌+◌, ◌-◌, ◌/◌, ◌<◌, ◌≤◌, add-zero, add-suc, le_refl, add-one, arith, length, eqb}
use Rattle.survey.specs.Table.{cell, rows_due}
use Rattle.survey.specs.Judgement.{judging}
use Rattle.survey.specs.Walls.{rows_from, is_wall_of}
use Rattle.survey.specs.Acceptance.{Accepted}
use Rattle.survey.proofs.Acceptance.{accepted}
use Rattle.survey.proofs.StoreyWalls.{Shown, shown, is_taken, rows_cell, rows_length}
use Rattle.method.specs.Held.{held_strength}
use Rattle.method.proofs.Shares.{held_none, held_more}
use Rattle.diagnosis.specs.Rows.{house_of}
use Rattle.diagnosis.specs.House.{share, in_direction, held}
use Rattle.site.proofs.PutRows.{Same, Put, Stands, same_house}

-- The sum over the places 0 to n − 1.
unfoldable pub sum_to : (ℕ → ℕ) → ℕ → ℕ
sum_to f zero = 0
sum_to f (suc n) = sum_to f n + f n

sum_more : (f : ℕ → ℕ) (n : ℕ) → sum_to f (suc n) ≡ sum_to f n + f n
unfolding sum_to
sum_more f n = refl

sum_same : (f g : ℕ → ℕ) (n : ℕ) → ((k : ℕ) → k < n → g k ≡ f k) → sum_to g n ≡ sum_to f n
unfolding sum_to
sum_same f g zero same = refl
sum_same f g (suc n) same = rw (sum_same f g n (λ k l. same k (omega arith)), same n (omega arith))

sum_none : (f : ℕ → ℕ) (n : ℕ) → ((k : ℕ) → k < n → f k ≡ 0) → sum_to f n ≡ 0
unfolding sum_to
sum_none f zero nothing = refl
sum_none f (suc n) nothing = omega (arith, sum_none f n (λ k l. nothing k (omega arith)), nothing n (omega arith))

sum_split : (f : ℕ → ℕ) (m n : ℕ) → sum_to f (m + n) ≡ sum_to f m + sum_to (λ k. f (m + k)) n
unfolding sum_to
sum_split f m zero = rw (add-zero m) (sym (add-zero _))
sum_split f m (suc n) = rw add-suc (omega (arith, sum_split f m n))

-- One element put in.
sum_put : (f g : ℕ → ℕ) (at n : ℕ) → at ≤ n → ((k : ℕ) → k < at → g k ≡ f k) → ((k : ℕ) → at ≤ k → g (k + 1) ≡ f k)
    → sum_to g (n + 1) ≡ sum_to f n + g at
sum_put f g at n most before after =
    let all : n ≡ at + (n - at) = omega arith in
    let more : n + 1 ≡ suc at + (n - at) = omega arith in
    omega (
      arith,
      ap (sum_to g) more,
      sum_split g (suc at) (n - at),
      sum_more g at,
      sum_same f g at before,
      ap (sum_to f) all,
      sum_split f at (n - at),
      sum_same (λ k. f (at + k)) (λ k. g (suc at + k)) (n - at) (λ k l. next k),
    )
  where
    next : (k : ℕ) → g (suc at + k) ≡ f (at + k)
    next k =
        let place : at + k + 1 ≡ suc at + k = omega arith in
        rw place at (after (at + k) (omega arith))

-- What a row counts towards a storey and direction.
unfoldable pub counted : List ℕ → ℕ → ℕ → ℕ → ℕ
counted table storey direction row =
    cond (is_wall_of table storey row) (cond (eqb (cell table row 2) direction) (share (house_of table) storey table row) 0) 0

module _ (table : List ℕ) (h : (judging table).number ≡ 0) (storey direction : ℕ) where
  a : Accepted table
  a = accepted table h

  s : Shown table storey
  s = shown table h storey

  abbrev W : List ℕ
  W = rows_from table s.start s.count

  abbrev one_counts : ℕ → ℕ
  one_counts row = cond (eqb (cell table row 2) direction) (share (house_of table) storey table row) 0

  -- The walls of the storey, by their rows in the table.
  in_table : (k j : ℕ) → k < s.count → j < 8 → cell W k j ≡ cell table (s.start + k) j
  in_table k j l small = rows_cell table s.start s.count k j l small

  shown_counts : (k : ℕ) → k < s.count → cond (in_direction W direction k) (share (house_of table) storey W k) 0 ≡ one_counts (s.start + k)
  unfolding in_direction
  shown_counts k l =
      rw (in_table k 2 l (omega arith), in_table k 4 l (omega arith), in_table k 5 l (omega arith), in_table k 6 l (omega arith), in_table k 7 l (omega arith)) refl

  run_sum : (n : ℕ) → n ≤ s.count
      → held_strength (in_direction W direction) (share (house_of table) storey W) n ≡ sum_to (λ k. one_counts (s.start + k)) n
  unfolding sum_to
  run_sum zero few = held_none (in_direction W direction) (share (house_of table) storey W)
  run_sum (suc n) few =
      rw (← add-one n, held_more (in_direction W direction) (share (house_of table) storey W) n, run_sum n (omega arith), shown_counts n (omega arith)) refl

  -- A wall of the storey counts, and no other row.
  row_counts : (k : ℕ) → k < s.count → counted table storey direction (s.start + k) ≡ one_counts (s.start + k)
  unfolding counted
  row_counts k l =
      let each = s.each k l in
      rw (is_taken table h storey (s.start + k) each.0 each.1 each.2) refl

  row_none : (row : ℕ) → row < rows_due table → ((s.start ≤ row) × (row < s.start + s.count) → ⊥) → counted table storey direction row ≡ 0
  unfolding counted
  row_none row inside out = go (is_wall_of table storey row) refl
    where
      go : (b : Bool) → is_wall_of table storey row ≡ b → cond b (one_counts row) 0 ≡ 0
      go true e = absurd (out (s.no_other row (omega (arith, a.sizes)) e))
      go false e = refl

  pub held_rows : held table storey direction ≡ sum_to (counted table storey direction) (rows_due table)
  unfolding held
  held_rows =
      let count : length W / 8 ≡ s.count = omega (arith, rows_length table s.start s.count s.fits) in
      let rest = rows_due table - (s.start + s.count) in
      let size = a.sizes in
      let fits = s.fits in
      let all : rows_due table ≡ s.start + s.count + rest = omega arith in
      let f = counted table storey direction in
      rw (
        s.walls,
        count,
        run_sum s.count (le_refl _),
        all,
        sum_split f (s.start + s.count) rest,
        sum_split f s.start s.count,
        sum_none f s.start (λ k l. row_none k (omega arith) (λ e. omega arith)),
        sum_none (λ k. f (s.start + s.count + k)) rest (λ k l. row_none _ (omega arith) (λ e. omega arith)),
        sum_same (λ k. one_counts (s.start + k)) (λ k. f (s.start + k)) s.count row_counts,
      )
      (omega arith)

-- With one row put in.
module _ {A B : List ℕ} {at : ℕ} (p : Put A B at) (s : Stands A B at) (A_accepted : (judging A).number ≡ 0) (B_accepted : (judging B).number ≡ 0) (storey direction : ℕ) where
  counts_same : (row other : ℕ) → Same A row B other → counted B storey direction other ≡ counted A storey direction row
  unfolding counted is_wall_of
  counts_same row other same =
      let house : house_of B ≡ house_of A = same_house p (omega (arith, s.past)) in
      rw (house, same 0 (omega arith), same 1 (omega arith), same 2 (omega arith), same 4 (omega arith), same 5 (omega arith), same 6 (omega arith), same 7 (omega arith)) refl

  pub held_put : held B storey direction ≡ held A storey direction + counted B storey direction at
  held_put =
      let size = s.walls_more in
      let same = s.storeys_same in
      let most = s.most in
      let more : rows_due B ≡ rows_due A + 1 = omega arith in
      rw (held_rows A A_accepted storey direction, held_rows B B_accepted storey direction, more)
      (sum_put (counted A storey direction) (counted B storey direction) at (rows_due A) (omega arith)
      (λ k l. counts_same k k (p.before k l)) (λ k l. counts_same k (k + 1) (p.after k l)))
