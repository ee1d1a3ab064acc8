-- `first_too_large` meets its contract: the library's search is the definition's. Assumes nothing.
use Rattle.std.proofs.Common.{◌≡◌, ◌∙◌, refl, ap, List, [], ◌∷◌, ℕ, suc, length, cond, not, Bool, true, false, ◌+◌, one-add, Some, None, ltb, rules, tests}
use Rattle.std.specs.List.{position_or_len}
use Rattle.std.proofs.lemmas.Iterator.{YieldsList-from_slice}
use Rattle.std.proofs.lemmas.Iterator.Search.{position_from_yields_List}
use Rattle.answer.specs.First.{first}
use Rattle.sheet.specs.Sheet.{too_large, large_place}
use Rattle.sheet.proofs.writer.first_too_large.Goals as goal

large_found : (table : List ℕ) → position_or_len (ltb 99_999_999) table ≡ first (too_large table) (length table)
unfolding first too_large
large_found [] = refl
large_found (n ∷ table) = rw (large_found table) (go (ltb 99_999_999 n))
  where
    go : (b : Bool) → cond (not b) (1 + first (too_large table) (length table)) 0 ≡ cond b 0 (suc (first (too_large table) (length table)))
    go true = refl
    go false = one-add (first (too_large table) (length table))

pub returns : goal.returns
unfolding large_place
returns c =
    let table = c.args.table.now in
    position_from_yields_List (ltb 99_999_999) _ _ c.position.result c.position.ensures.ran (YieldsList-from_slice table cc) (λ x b q k. search (rules, tests))
    ∙ ap (λ (at : ℕ). cond (ltb at (length table)) (Some at) None) (large_found table)
