-- `band` is what its definition says. Assumes nothing.
use Rattle.std.proofs.Common.{refl}
use Rattle.method.specs.LayoutFactor.{band}
use Rattle.method.proofs.BandLaws.{reached_added}
use Rattle.method.proofs.layout.band.Goals as goal

pub returns : goal.returns
unfolding band
returns c =
    rw (
      reached_added _ _ c.from.ensures c.reached.ensures,
      reached_added _ _ c.from-2.ensures c.reached-2.ensures,
      reached_added _ _ c.from-3.ensures c.reached-3.ensures,
      reached_added _ _ c.from-4.ensures c.reached-4.ensures,
    )
    refl
