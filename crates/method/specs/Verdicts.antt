-- The verdicts of 000's table 4.9, by number.
use Rattle.std.specs.Prelude.{ℕ}
use Rattle.method.specs.declared.verdicts.Verdict.{Verdict}
use Rattle.method.specs.declared.verdicts.Verdict.TheVariants.{DoesNotCollapse, ApparentlyDoesNotCollapse, MayCollapse, LikelyToCollapse}

-- The number of a verdict of the manual's table 4.9.
abbrev pub verdict_number : Verdict → ℕ
verdict_number DoesNotCollapse = 1
verdict_number ApparentlyDoesNotCollapse = 2
verdict_number MayCollapse = 3
verdict_number LikelyToCollapse = 4
