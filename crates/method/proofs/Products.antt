-- Products that fit a width, by bounds of their factors. Assumes nothing.
use Rattle.std.proofs.Common.{ℕ, ◌*◌, ◌^◌, ◌≤◌, mul-le-mul, lt_of_le_of_lt, T, ltb, ltb→lt}
use mir.Syntax.{Width}
use mir.Val.{bits, Fits}

-- The bounds are named, so that they can be computed with.
pub times_fits : {w : Width} {a b : ℕ} (m n : ℕ) → a ≤ m → b ≤ n → T (ltb (m * n) (2 ^ bits w)) → Fits w (a * b)
times_fits {w} m n ha hb small = record { fits = lt_of_le_of_lt (mul-le-mul ha hb) (ltb→lt (m * n) (2 ^ bits w) small) }
