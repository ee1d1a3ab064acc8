-- `print` meets its contract: eight stores fill the eight characters. Assumes nothing.
use Rattle.std.proofs.Common.{[], ◌∷◌, ◌+◌, ◌%◌}
use Rattle.sheet.specs.Field.{printed}
use Rattle.answer.proofs.Lists.{filled}
use Rattle.sheet.proofs.field.print.Goals as goal

pub returns : goal.returns
unfolding printed
returns c =
    cc (filled c.args.characters.now
    (c.digit_or_space.result ∷ c.digit_or_space-2.result ∷ c.digit_or_space-3.result ∷ c.digit_or_space-4.result
    ∷ c.digit_or_space-5.result ∷ c.digit_or_space-6.result ∷ c.digit_or_space-7.result ∷ (48 + c.args.n % 10) ∷ [])
    c.requires)
