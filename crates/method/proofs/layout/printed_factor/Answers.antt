-- `printed_factor` is what its definition says. Assumes nothing.
use Rattle.std.proofs.Common.{inl, inr}
use Rattle.method.proofs.BandLaws.{layout_numbered, layout_no_band, layout_no_other}
use Rattle.method.proofs.layout.printed_factor.Goals as goal

pub returns-then-ends-ge5 : goal.returns-then-ends-ge5
returns-then-ends-ge5 c = elim c.then-ends-ge5.either [ inl beyond ↦ layout_no_band _ _ beyond | inr other ↦ layout_no_other _ _ other.1 ]

pub returns : goal.returns
returns c = rw (c.numbered.ensures) (layout_numbered _ _)
