-- Lists that are joined, parts of a list, and storage that is written from its front. Sheets, tables and reports are described by them.
use Rattle.std.specs.Prelude.{ℕ, zero, suc, ◌*◌, List, [], ◌++◌, length, take, drop}

-- f 0, f 1, .. f (n − 1), joined.
unfoldable pub joined : ℕ → (ℕ → List ℕ) → List ℕ
joined zero f = []
joined (suc n) f = joined n f ++ f n

-- The part number i, from 0, where a list is cut into parts of `size` elements.
unfoldable pub part : ℕ → ℕ → List ℕ → List ℕ
part size i list = take size (drop (size * i) list)

-- Lent storage with x written at its front: what comes later stays.
unfoldable pub over : List ℕ → List ℕ → List ℕ
over lent x = x ++ drop (length x) lent
