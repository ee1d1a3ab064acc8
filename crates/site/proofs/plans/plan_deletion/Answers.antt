-- `plan_deletion` meets its contract. Assumes nothing.
use Rattle.std.proofs.Common.{◌≡◌, ◌∙◌, sym, ap, false, Option, None, SomeIff, List, [], ℕ, ◌+◌, ◌-◌, ◌*◌, ◌/◌, ◌<◌, ◌≤◌, length, get_or, arith}
use native.Mathlib.Decide.{dec_le}
use Rattle.answer.specs.Told.{accepts, refusal, no_such_wall}
use Rattle.answer.specs.Lists.{part}
use Rattle.answer.proofs.Parts.{part_cut}
use Rattle.survey.specs.Table.{cell, storeys}
use Rattle.survey.specs.Judgement.{judging}
use Rattle.survey.specs.Acceptance.{Accepted}
use Rattle.survey.proofs.Positions.{beyond}
use Rattle.survey.proofs.Acceptance.{accepted}
use Rattle.survey.proofs.StoreyWalls.{wall_stands}
use Rattle.diagnosis.specs.declared.accepted.AcceptedTable.{AcceptedTable}
use Rattle.diagnosis.specs.Rows.{house_of}
use Rattle.diagnosis.specs.House.{row_share}
use Rattle.diagnosis.specs.Answers.{score_at}
use Rattle.diagnosis.proofs.Sums.{wall_cell, share_same}
use Rattle.site.specs.Totals.{wall_total, with_total, total_taken, some_above}
use Rattle.site.specs.Changes.{deletion}
use Rattle.site.specs.Internal.{InStoreys, moved}
use Rattle.site.proofs.SixTotals.{three_storeys, set_is, set_refused}
use Rattle.site.proofs.Deletions.{Wall, Passes, found_wall, no_wall, told_below, told_above, passes_told}
use Rattle.site.proofs.plans.plan_deletion.Goals as goal
use Rattle.site.proofs.plans.plan_deletion.Goals.{After-all-1}

pub returns-in_default-clause-refused : goal.returns-in_default-clause-refused
returns-in_default-clause-refused c = no_wall c.args.rows.now.table.now c.args.held c.args.row (sym c.in_default.is ∙ c.wall_row.ensures)

-- The wall that is found in rows that are accepted: it is one of the rows, and stands in a storey of the house.
module _ (rows : AcceptedTable) (held : List ℕ) (row at : ℕ) (wall : Wall rows.table.now held row at) where
  abbrev table : List ℕ
  table = rows.table.now

  accepts_table : (judging table).number ≡ 0
  accepts_table = rows.of_house.stands.accepted

  a : Accepted table
  a = accepted table accepts_table

  kind : cell table at 0 ≡ 4
  kind = ap (λ (k : ℕ). cell table k 0) wall.at_is ∙ wall.kind

  inside : at < length table / 8
  inside = go (dec_le (length table) (8 * at + 0))
    where
      go : Dec (length table ≤ 8 * at + 0) → at < length table / 8
      go (yes past) = absurd (omega (arith, kind, beyond table at 0 past))
      go (no l) = omega (arith, a.sizes)

  stand : InStoreys (part 8 at table) rows.house.storeys
  stand =
      let place = wall_stands table accepts_table at inside kind in
      let ranges = a.wall_inside at place.0 place.1 in
      let storey = ranges 1 (omega arith) in
      let direction = ranges 2 (omega arith) in
      let first = wall_cell table at 1 (omega arith) in
      let second = wall_cell table at 2 (omega arith) in
      record {
        some_storey = omega (arith, storey, first);
        last_storey = omega (arith, storey, first, rows.of_house.storeys_same);
        some_direction = omega (arith, direction, second);
        last_direction = omega (arith, direction, second);
      }

  -- The difference that is worked out.
  abbrev difference : ℕ
  difference = wall_total held (part 8 at table) 0 - row_share (house_of table) (part 8 at table) 0

  same_total : wall_total held (part 8 at table) 0 ≡ wall_total held table at
  same_total = rw (wall_cell table at 1 (omega arith), wall_cell table at 2 (omega arith))

  taken_is : with_total held (part 8 at table) 0 difference ≡ total_taken table held at
  unfolding total_taken
  taken_is = rw (same_total, share_same table at (house_of table), wall_cell table at 1 (omega arith), wall_cell table at 2 (omega arith))

  worked : {chunk : List ℕ} {place share : ℕ} → chunk ≡ part 8 at table → place ≡ score_at (cell chunk 0 1) (cell chunk 0 2)
      → share ≡ row_share (house_of table) chunk 0 → (found : Option ℕ)
      → SomeIff found (share ≤ get_or held place 0) (get_or held place 0 - share)
      → SomeIff found (row_share (house_of table) (part 8 at table) 0 ≤ wall_total held (part 8 at table) 0) difference
  worked is place share found iff = rw (place, share, is) at iff

  -- What is told where there is none, or another total of the house is above the most.
  refused_is : (found : Option ℕ) → SomeIff found (row_share (house_of table) (part 8 at table) 0 ≤ wall_total held (part 8 at table) 0) difference
      → None ≡ moved held (part 8 at table) rows.house.storeys found → refusal no_such_wall 0 0 ≡ deletion table held row
  refused_is found iff e = go (dec_le (row_share (house_of table) table at) (wall_total held table at))
    where
      share_is : row_share (house_of table) (part 8 at table) 0 ≡ row_share (house_of table) table at
      share_is = share_same table at (house_of table)

      go : Dec (row_share (house_of table) table at ≤ wall_total held table at) → refusal no_such_wall 0 0 ≡ deletion table held row
      go (yes some) =
          let above = set_refused held (part 8 at table) rows.house.storeys _ difference found iff e (omega (arith, some, share_is, same_total)) in
          told_above table held row wall.test (rw (← wall.at_is) some)
          (ap (λ (k : ℕ). some_above (storeys table) (total_taken table held k)) (sym wall.at_is)
          ∙ ap (λ (l : List ℕ). some_above (storeys table) l) (sym taken_is)
          ∙ ap (λ (n : ℕ). some_above n (with_total held (part 8 at table) 0 difference)) (sym rows.of_house.storeys_same) ∙ above)
      go (no below) = told_below table held row wall.test (rw (← wall.at_is) (omega arith))

  -- What holds where there is one and none is.
  passes_is : (row_share (house_of table) (part 8 at table) 0 ≤ wall_total held (part 8 at table) 0)
      → some_above rows.house.storeys (with_total held (part 8 at table) 0 difference) ≡ false → Passes table held row
  passes_is some within = record {
    wall = rw (← wall.at_is) wall;
    enough_held =
        rw (← wall.at_is) (omega (arith, some, share_same table at (house_of table), same_total));
    within =
        ap (λ (k : ℕ). some_above (storeys table) (total_taken table held k)) (sym wall.at_is)
        ∙ ap (λ (l : List ℕ). some_above (storeys table) l) (sym taken_is)
        ∙ ap (λ (n : ℕ). some_above n (with_total held (part 8 at table) 0 difference)) (sym rows.of_house.storeys_same) ∙ within;
  }

-- In the code: the wall, and its eight numbers.
module _ (c : After-all-1) where
  abbrev rows : AcceptedTable
  rows = c.args.rows.now

  found : Wall (rows.table.now) c.args.held c.args.row c.in-Some.at
  found = found_wall rows.table.now c.args.held c.args.row (sym c.in-Some.is ∙ c.wall_row.ensures)

  is_part : get_or c.as_chunks.result.0.now c.in-Some.at [] ≡ part 8 c.in-Some.at rows.table.now
  is_part = part_cut 8 _ _ _ c.as_chunks.ensures.front (inside rows c.args.held c.args.row c.in-Some.at found)

  stand_here : InStoreys (get_or c.as_chunks.result.0.now c.in-Some.at []) rows.house.storeys
  stand_here = rw is_part (stand rows c.args.held c.args.row c.in-Some.at found)

  place_small : {place : ℕ} → place ≡ score_at (cell (get_or c.as_chunks.result.0.now c.in-Some.at []) 0 1) (cell (get_or c.as_chunks.result.0.now c.in-Some.at []) 0 2)
      → place < 6
  place_small is = omega (arith, is, stand_here, rows.of_house.storeys_same, rows.of_house.stands.few)

pub bounds-all-at : goal.bounds-all-at
bounds-all-at c = omega (arith, c.as_chunks.ensures.front_len, inside (rows c) c.args.held c.args.row c.in-Some.at (found c))

pub place_of-requires : goal.place_of-requires
place_of-requires c = three_storeys c.args.rows.now.of_house (stand_here c)

pub offset_bounds-held-place_of : goal.offset_bounds-held-place_of
offset_bounds-held-place_of c = omega (arith, place_small (goal.at.offset_bounds-held-place_of c).After-all-1 c.place_of.ensures)

pub bounds-held-place_of : goal.bounds-held-place_of
bounds-held-place_of c = place_small (goal.at.bounds-held-place_of c).After-all-1 c.place_of.ensures

pub moved-requires-clause-wall : goal.moved-requires-clause-wall
moved-requires-clause-wall c = stand_here (goal.at.moved-requires-clause-wall c).After-all-1

pub returns-in-Some-moved-clause-planned : goal.returns-in-Some-moved-clause-planned
returns-in-Some-moved-clause-planned c =
    let here = (goal.at.returns-in-Some-moved-clause-planned c).After-all-1 in
    let wall = found here in
    let iff = worked (rows here) c.args.held c.args.row c.in-Some.at wall (is_part here) c.place_of.ensures c.share.ensures c.checked_sub-total.result c.checked_sub-total.ensures in
    let done = set_is c.args.held (part 8 c.in-Some.at (rows here).table.now) (rows here).house.storeys _ _ c.checked_sub-total.result iff
    (sym c.in-Some-moved.is ∙ c.moved.ensures ∙ ap (λ (w : List ℕ). moved c.args.held w (rows here).house.storeys c.checked_sub-total.result) (is_part here)) in (
      ap accepts (passes_told _ _ _ (passes_is (rows here) c.args.held c.args.row c.in-Some.at wall done.2 done.1)),
      wall.at_is,
      done.0 ∙ taken_is (rows here) c.args.held c.args.row c.in-Some.at wall ∙ ap (total_taken (rows here).table.now c.args.held) wall.at_is,
    )

pub returns-in-None-clause-refused : goal.returns-in-None-clause-refused
returns-in-None-clause-refused c =
    let here = (goal.at.returns-in-None-clause-refused c).After-all-1 in
    let wall = found here in
    let iff = worked (rows here) c.args.held c.args.row c.in-Some.at wall (is_part here) c.place_of.ensures c.share.ensures c.checked_sub-total.result c.checked_sub-total.ensures in
    rw c.without_place.ensures
    (refused_is (rows here) c.args.held c.args.row c.in-Some.at wall c.checked_sub-total.result iff
    (sym c.in-None.is ∙ c.moved.ensures ∙ ap (λ (w : List ℕ). moved c.args.held w (rows here).house.storeys c.checked_sub-total.result) (is_part here)))
