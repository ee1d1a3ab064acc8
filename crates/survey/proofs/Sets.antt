-- Sets of items, digit by digit. Assumes nothing.
use Rattle.std.proofs.Common.{◌≡◌, ◌∙◌, sym, true, ℕ, ◌+◌, ◌*◌, ◌/◌, ◌%◌, ◌≤◌, min, arith, bit_and, eqb-true, eq-eqb}
use native.Mathlib.Nat.{min-le_left, min-le_right}
use lib.Bits.{and_step}
use Rattle.survey.specs.Judgement.{within}

-- A set within another: so is its first item, and so are the rest.
pub within_step : (set other : ℕ) → within set other ≡ true → (set % 2 ≤ other % 2) × (within (set / 2) (other / 2) ≡ true)
unfolding within
within_step set other h =
    let halves = bit_and (set / 2) (other / 2) in
    let digit = min (set % 2) (other % 2) in
    let whole : halves * 2 + digit ≡ set = sym (and_step set other) ∙ eqb-true (bit_and set other) set h in
    let fewer : digit ≤ set % 2 = min-le_left (set % 2) (other % 2) in
    let other_fewer : digit ≤ other % 2 = min-le_right (set % 2) (other % 2) in
    (omega arith, eq-eqb halves (set / 2) (omega arith))
