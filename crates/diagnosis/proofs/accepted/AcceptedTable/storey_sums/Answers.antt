-- `AcceptedTable::storey_sums` meets its contract. Assumes nothing.
use Rattle.std.proofs.Common.{◌≡◌, ◌∙◌, ap, ◌<◌, ◌/◌, length, [], get_or, arith, rules}
use Rattle.answer.specs.Lists.{part}
use Rattle.answer.proofs.Parts.{part_cut}
use Rattle.survey.specs.Walls.{storey_walls}
use Rattle.diagnosis.specs.declared.held.BothDirections.{BothDirections}
use Rattle.diagnosis.specs.House.{share}
use Rattle.diagnosis.specs.Internal.{no_sums}
use Rattle.diagnosis.proofs.Sums.{no_walls, wall_counts, wall_more, wall_ready, walls_fit, sums_whole}
use Rattle.diagnosis.proofs.accepted.AcceptedTable.storey_sums.Goals as goal
use Rattle.diagnosis.proofs.accepted.AcceptedTable.storey_sums.Goals.{After-wall_share-counted}

pub loop-wall-init : goal.loop-wall-init
loop-wall-init c =
    let none : ◌≡◌ {A = BothDirections} c.default-sums.result (record { x = no_sums; y = no_sums }) = search rules in
    rw none (record { x = no_walls _ _ _ _; y = no_walls _ _ _ _ })

-- The wall of this turn is one of the storey's, by its row; and what it counts.
inside : (c : After-wall_share-counted) → c.loop-wall.wall-index < length (storey_walls c.args.self.now.table.now c.args.storey) / 8
inside c = omega (arith, ap length c.walls.ensures, c.as_chunks.ensures.front_len)

is_row : (c : After-wall_share-counted)
    → get_or c.as_chunks.result.0.now c.loop-wall.wall-index [] ≡ part 8 c.loop-wall.wall-index (storey_walls c.args.self.now.table.now c.args.storey)
is_row c = part_cut 8 _ _ _ (rw c.walls.ensures at c.as_chunks.ensures.front) (inside c)

counted : (c : After-wall_share-counted)
    → c.wall_share-counted.result ≡ share c.args.self.now.house c.args.storey (storey_walls c.args.self.now.table.now c.args.storey) c.loop-wall.wall-index
counted c = wall_counts _ _ _ _ (is_row c) c.wall_of.ensures c.wall_share-counted.ensures

pub with_wall-sums-requires : goal.with_wall-sums-requires
with_wall-sums-requires c =
    let here = (goal.at.with_wall-sums-requires c).After-wall_share-counted in
    wall_ready _ _ _ (walls_fit _ c.args.self.now.of_house.stands.accepted _) 1 _ (inside here) c.loop-wall.invariant.x (counted here)

pub with_wall-sums-requires-in-loop-wall : goal.with_wall-sums-requires-in-loop-wall
with_wall-sums-requires-in-loop-wall c =
    let here = (goal.at.with_wall-sums-requires-in-loop-wall c).After-wall_share-counted in
    wall_ready _ _ _ (walls_fit _ c.args.self.now.of_house.stands.accepted _) 2 _ (inside here) c.loop-wall.invariant.y (counted here)

pub loop-wall-preserved : goal.loop-wall-preserved
loop-wall-preserved c =
    let here = (goal.at.loop-wall-preserved c).After-wall_share-counted in
    let inv = c.loop-wall.invariant in
    record {
      x = c.with_wall-sums.ensures ∙ wall_more _ _ _ 1 _ (is_row here) inv.x (counted here);
      y = c.with_wall-sums-in-loop-wall.ensures ∙ wall_more _ _ _ 2 _ (is_row here) inv.y (counted here);
    }

pub returns : goal.returns
returns c =
    let inv = c.loop-wall.invariant in
    let house = c.args.self.now.of_house.row in
    let all : c.loop-wall.wall-index ≡ length (storey_walls c.args.self.now.table.now c.args.storey) / 8 =
    omega (arith, ap length c.walls.ensures, c.as_chunks.ensures.front_len) in
    record { x = rw all at inv.x ∙ sums_whole _ _ 1 house; y = rw all at inv.y ∙ sums_whole _ _ 2 house }
