-- `survey::new_walls::leftmost` meets its contract. Assumes nothing.
use Rattle.std.proofs.Common.{◌∙◌, refl, rules, tests}
use Rattle.std.proofs.lemmas.Iterator.{YieldsList-from_range}
use Rattle.std.proofs.lemmas.Iterator.Search.{position_from_yields_List}
use Rattle.survey.specs.Ranges.{lows, highs}
use Rattle.survey.specs.Judgement.{leftmost, outside}
use Rattle.survey.proofs.FirstInRange.{position_first}
use Rattle.survey.proofs.new_walls.leftmost.Goals as goal

pub returns : goal.returns
unfolding leftmost
returns c =
    let test = outside (lows c.args.ranges.now) (highs c.args.ranges.now) c.args.wall.now 0 in
    position_from_yields_List test _ _ c.position.result c.position.ensures.ran (YieldsList-from_range 0 8 8 refl refl) (λ x b q k. search (rules, tests)) ∙ position_first test 8
