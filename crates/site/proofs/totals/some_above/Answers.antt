-- `some_above` is what its definition says. Assumes nothing.
use Rattle.std.proofs.Common.{◌∙◌, refl, sym, rules, tests, ltb}
use Rattle.std.proofs.lemmas.List.{take_all}
use Rattle.std.proofs.lemmas.List.Folds.{list_any_more}
use Rattle.method.specs.Held.{most_held}
use Rattle.site.specs.Totals.{some_above}
use Rattle.site.proofs.totals.some_above.Goals as goal

pub loop-total-init : goal.loop-total-init
loop-total-init c = refl

pub loop-total-preserved : goal.loop-total-preserved
loop-total-preserved c =
    list_any_more (ltb most_held) _ _ 0 c.loop-total-test.true ∙ rw c.loop-total.invariant (search (rules, tests))

pub returns : goal.returns
unfolding some_above
returns c = sym c.loop-total.invariant ∙ rw (take_all _ _ c.loop-total-test.false) refl
