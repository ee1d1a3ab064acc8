-- What a storey's walls hold, wall by wall: with one wall more, and at most. Assumes nothing.
use Rattle.std.proofs.Common.{◌≡◌, ap, Bool, List, ℕ, ◌+◌, ◌*◌, ◌/◌, ◌<◌, ◌≤◌, zero-add, le_refl, le_trans, mul-le-mul_right, arith, length, ◌∙◌, lit≤, lit<}
use Rattle.answer.specs.Length.{most_walls}
use Rattle.answer.specs.Lists.{part}
use Rattle.answer.proofs.Lists.{part_at}
use Rattle.survey.specs.Table.{cell}
use Rattle.survey.specs.Judgement.{judging}
use Rattle.survey.specs.Walls.{storey_walls}
use Rattle.survey.specs.Acceptance.{Accepted}
use Rattle.survey.proofs.Acceptance.{accepted}
use Rattle.survey.proofs.StoreyWalls.{Shown, shown, rows_cell, rows_length}
use Rattle.method.specs.declared.rows.House.{House}
use Rattle.method.specs.declared.rows.Wall.{Wall}
use Rattle.method.specs.Held.{wall_share, held_strength, most_held}
use Rattle.method.proofs.Shares.{most_share, share_most, held_none, held_more, held_most}
use Rattle.diagnosis.specs.declared.held.HeldSums.{HeldSums}
use Rattle.diagnosis.specs.Rows.{house_of, end_a, end_b, wall_of}
use Rattle.diagnosis.specs.House.{share, row_share, in_direction, solid_at_end, held, end_held}
use Rattle.diagnosis.specs.Internal.{sums_over, Addable, with_wall, held_sums, no_sums}

module _ (walls : List ℕ) (row : ℕ) where
  pub wall_cell : (column : ℕ) → column < 8 → cell (part 8 row walls) 0 column ≡ cell walls row column
  wall_cell column inside = rw zero-add (part_at 8 row walls column inside)

  wall_direction_lem : (direction : ℕ) → in_direction (part 8 row walls) direction 0 ≡ in_direction walls direction row
  unfolding in_direction
  wall_direction_lem direction = rw (wall_cell 2 (lit< tt))

  wall_solid : (direction end : ℕ) → solid_at_end (part 8 row walls) direction end 0 ≡ solid_at_end walls direction end row
  unfolding solid_at_end in_direction
  wall_solid direction end = rw (wall_cell 2 (lit< tt), wall_cell 3 (lit< tt), wall_cell 7 (lit< tt))

  pub wall_same : wall_of (part 8 row walls) 0 ≡ wall_of walls row
  wall_same = rw (wall_cell 4 (lit< tt), wall_cell 5 (lit< tt), wall_cell 6 (lit< tt), wall_cell 7 (lit< tt))

  -- What it counts in the storey that it names.
  pub share_same : (house : House) → row_share house (part 8 row walls) 0 ≡ row_share house walls row
  share_same house = rw (wall_cell 1 (lit< tt), wall_same)

-- The walls are no more than a house may have, and none is longer than a wall may be.
pub record WallsFit (walls : List ℕ) : Type 0 where
  pub few : length walls / 8 ≤ most_walls
  pub short : (row : ℕ) → row < length walls / 8 → (wall_of walls row).length ≤ 20000

module _ (house : House) (storey : ℕ) (walls : List ℕ) where
  abbrev counts : ℕ → ℕ
  counts = share house storey walls

  abbrev sum : (ℕ → Bool) → ℕ → ℕ
  sum takes n = held_strength takes counts n

  module _ (direction : ℕ) where
    abbrev along : ℕ → Bool
    along = in_direction walls direction

    abbrev solid_at : ℕ → ℕ → Bool
    solid_at = solid_at_end walls direction

    -- The sums that the loop keeps: over no wall yet; and with one wall more, which is lent by its row.
    pub no_walls : no_sums ≡ sums_over house storey walls direction 0
    no_walls = rw (held_none along counts, held_none (solid_at end_a) counts, held_none (solid_at end_b) counts)

    pub wall_more : (row : ℕ) {wall : List ℕ} {sums : HeldSums} {counted : ℕ} → wall ≡ part 8 row walls → sums ≡ sums_over house storey walls direction row
        → counted ≡ counts row → with_wall wall direction counted sums ≡ sums_over house storey walls direction (row + 1)
    wall_more row is so_far count =
        rw (
          is,
          so_far,
          count,
          wall_direction_lem walls row direction,
          wall_solid walls row direction end_a,
          wall_solid walls row direction end_b,
          held_more along counts row,
          held_more (solid_at end_a) counts row,
          held_more (solid_at end_b) counts row,
        )

  -- What a wall counts, by its row.
  pub wall_counts : (row : ℕ) {wall : List ℕ} {found : Wall} {counted : ℕ} → wall ≡ part 8 row walls → found ≡ wall_of wall 0
      → counted ≡ wall_share house storey found → counted ≡ counts row
  wall_counts row is found counts = counts ∙ rw (found, is, wall_same walls row)

  -- Walls that fit hold no more than `method` computes with.
  module _ (fit : WallsFit walls) where
    share_small : (row : ℕ) → row < length walls / 8 → counts row ≤ most_share
    share_small row inside = share_most house storey (wall_of walls row) (fit.short row inside)

    pub sum_most : (takes : ℕ → Bool) (n : ℕ) → n ≤ length walls / 8 → sum takes n ≤ most_held
    sum_most takes n few =
        let each : sum takes n ≤ n * most_share = held_most takes counts n (λ k l. share_small k (omega arith)) in
        let within : n ≤ most_walls = omega (arith, fit.few) in
        le_trans each (le_trans (mul-le-mul_right most_share within) (lit≤ tt))

    -- What adding a wall asks for.
    pub wall_ready : (direction row : ℕ) {sums : HeldSums} {counted : ℕ} → row < length walls / 8 → sums ≡ sums_over house storey walls direction row
        → counted ≡ counts row → Addable sums counted
    wall_ready direction row inside e count =
        let most : (takes : ℕ → Bool) → sum takes row ≤ most_held = λ takes. sum_most takes row (omega arith) in
        record { all_most = rw e (most _); a_most = rw e (most _); b_most = rw e (most _); counted_most = rw count (le_trans (share_small row inside) (lit≤ tt)) }

-- An accepted table's walls of a storey fit, so it holds no more than that.
module _ (table : List ℕ) (h : (judging table).number ≡ 0) (storey : ℕ) where
  a : Accepted table
  a = accepted table h

  s : Shown table storey
  s = shown table h storey

  walls_count : length (storey_walls table storey) / 8 ≡ s.count
  walls_count = omega (arith, ap length s.walls, rows_length table s.start s.count s.fits)

  pub walls_fit : WallsFit (storey_walls table storey)
  walls_fit = record {
    few = omega (arith, walls_count, s.few);
    short = λ row l.
        let inside : row < s.count = omega (arith, walls_count) in
        rw (s.walls, rows_cell table s.start s.count row 5 inside (omega arith))
        (a.wall_inside (s.start + row) (s.each row inside).0 (s.each row inside).1 5 (omega arith)).1;
  }

  pub storey_held_most : (direction : ℕ) → held table storey direction ≤ most_held
  unfolding held
  storey_held_most direction = sum_most (house_of table) storey (storey_walls table storey) walls_fit _ _ (le_refl _)

-- The sums over all walls of a storey are what it holds.
pub sums_whole : (table : List ℕ) (storey direction : ℕ) {house : House} → house ≡ house_of table
    → sums_over house storey (storey_walls table storey) direction (length (storey_walls table storey) / 8) ≡ held_sums table storey direction
unfolding held end_held
sums_whole table storey direction house = rw house
