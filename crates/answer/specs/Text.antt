-- The bytes of a text, so that a line can stand in a statement as the paper prints it.
use Rattle.std.specs.Prelude.{List, [] as none, ◌∷◌ as ◌before◌, ℕ}
use Prim.Native.Char.{code}
use Prim.Native.String.{String, [], ◌∷◌}

abbrev pub bytes : String → List ℕ
bytes [] = none
bytes (character ∷ text) = code character before bytes text
