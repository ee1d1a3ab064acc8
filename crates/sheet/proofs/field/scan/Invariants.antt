-- The loop of `scan`: the number is what the characters so far make.
use Rattle.std.proofs.Common.{◌≡◌, take}
use Rattle.sheet.specs.Field.{field}
use Rattle.sheet.proofs.Fields.{made}
use Rattle.sheet.proofs.field.scan.Given as goal

abbrev pub invariant-loop-character : goal.invariant-loop-character
invariant-loop-character l = made l.number ≡ field (take l.character-index l.characters)
