-- Choices by a test: what holds of each of the two holds of the one that is taken. Assumes nothing.
use Rattle.std.proofs.Common.{◌≡◌, refl, Bool, true, false, cond, ℕ, ◌≤◌}

-- A choice between two numbers, each within the bound where it is taken.
pub cond_most : (t : Bool) {a b most : ℕ} → (t ≡ true → a ≤ most) → (t ≡ false → b ≤ most) → cond t a b ≤ most
cond_most true one other = one refl
cond_most false one other = other refl

pub cond_least : (t : Bool) {a b least : ℕ} → (t ≡ true → least ≤ a) → (t ≡ false → least ≤ b) → least ≤ cond t a b
cond_least true one other = one refl
cond_least false one other = other refl

-- A choice between two numbers that are one.
pub cond_same : (t : Bool) {a b c : ℕ} → a ≡ b → a ≡ c → a ≡ cond t b c
cond_same true one other = one
cond_same false one other = other

-- A choice between two numbers that both pass a test.
pub cond_every : (passes : ℕ → Bool) (t : Bool) {a b : ℕ} → passes a ≡ true → passes b ≡ true → passes (cond t a b) ≡ true
cond_every passes true one other = one
cond_every passes false one other = other
