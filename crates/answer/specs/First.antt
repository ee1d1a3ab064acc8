-- The first place at which a test holds: "from the top, leftmost first" of document 01, over places that count from 0.
use Rattle.std.specs.Prelude.{ℕ, zero, suc, Bool, cond}

-- The least of the places 0 to n − 1 at which the test holds; n where it holds at none.
unfoldable pub first : (ℕ → Bool) → ℕ → ℕ
first test zero = zero
first test (suc n) = cond (test 0) 0 (suc (first (λ i. test (suc i)) n))
