-- `survey::walls::run_length` meets its contract. Assumes nothing.
use Rattle.std.proofs.Common.{Bool, not, ℕ, ◌+◌, ◌-◌, ◌/◌, ◌∙◌, refl, length, rules, tests}
use Rattle.std.proofs.lemmas.Iterator.{YieldsList-from_range}
use Rattle.std.proofs.lemmas.Iterator.Search.{position_from_yields_List}
use Rattle.answer.proofs.Places.{first_most}
use Rattle.survey.specs.Walls.{run_length, is_wall_of}
use Rattle.survey.proofs.FirstInRange.{position_from, place_or_count}
use Rattle.survey.proofs.walls.run_length.Goals as goal

pub returns : goal.returns
unfolding run_length
returns c =
    let start = c.args.start in
    let rows = length c.args.table.now / 8 in
    let test : ℕ → Bool = λ row. not (is_wall_of c.args.table.now c.args.storey row) in
    let found = position_from_yields_List test _ _ c.position.result c.position.ensures.ran (YieldsList-from_range start rows (rows - start) refl refl) (λ x b q k. search (rules, tests)) ∙ position_from test start (rows - start) in
    rw (c.unwrap_or.ensures, found) (place_or_count (rows - start) _ (first_most (λ k. test (start + k)) (rows - start)))
