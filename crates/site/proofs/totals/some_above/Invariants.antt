-- As far as `some_above` has come no total is above 60,000 kN.
use Rattle.std.proofs.Common.{◌≡◌, false, ltb, take}
use Rattle.std.specs.List.{list_any}
use Rattle.method.specs.Held.{most_held}
use Rattle.site.proofs.totals.some_above.Given as goal

abbrev pub invariant-loop-total : goal.invariant-loop-total
invariant-loop-total l = list_any (ltb most_held) (take l.total-index l.total-items) ≡ false
