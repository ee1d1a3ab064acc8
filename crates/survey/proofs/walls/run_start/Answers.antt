-- `survey::walls::run_start` meets its contract. Assumes nothing.
use Rattle.std.proofs.Common.{◌/◌, ◌∙◌, refl, length, arith, rules, tests}
use Rattle.std.proofs.lemmas.Iterator.{YieldsList-from_range}
use Rattle.std.proofs.lemmas.Iterator.Search.{position_from_yields_List}
use Rattle.survey.specs.Walls.{run_start, is_wall_of}
use Rattle.survey.proofs.FirstInRange.{position_first, place_or_count}
use Rattle.survey.proofs.StoreyWalls.{run_start_most}
use Rattle.survey.proofs.walls.run_start.Goals as goal

pub returns : goal.returns
unfolding run_start
returns c =
    let rows = length c.args.table.now / 8 in
    let test = is_wall_of c.args.table.now c.args.storey in
    let found = position_from_yields_List test _ _ c.position.result c.position.ensures.ran (YieldsList-from_range 0 rows rows refl (omega arith)) (λ x b q k. search (rules, tests)) ∙ position_first test rows in
    rw (c.unwrap_or.ensures, found) (place_or_count rows _ (run_start_most _ _))
