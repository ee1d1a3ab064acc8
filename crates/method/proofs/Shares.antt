-- How much a wall can count, and how much a house's walls together. Assumes nothing.
use Rattle.std.proofs.Common.{◌≡◌, refl, Bool, cond, ℕ, zero, suc, ◌+◌, ◌*◌, ◌<◌, ◌≤◌, min, mul-le-mul, mul-le-mul_right, add-one, arith, eqb, lit≤}
use native.Mathlib.Nat.{min-le_right}
use Rattle.method.specs.declared.rows.House.{House}
use Rattle.method.specs.declared.rows.Wall.{Wall}
use Rattle.method.specs.Held.{position, foundation_used, joint_factor, solid_share, opening_share, wall_share, held_strength}
use Rattle.method.proofs.Branches.{cond_most}
use Rattle.method.proofs.Factors.{joint_most}

-- The most that a wall can count: strength 100, factor 100, length 20,000.
abbrev pub most_share : ℕ
most_share = 100 * 100 * 20000

module _ (house : House) (storey : ℕ) (wall : Wall) (short : wall.length ≤ 20000) where
  pub solid_most : solid_share house storey wall ≤ most_share
  unfolding solid_share
  solid_most = mul-le-mul (mul-le-mul (min-le_right wall.strength 100) (joint_most house storey wall)) short

  opening_most : (opening : ℕ) → opening ≤ 6 → opening_share opening wall ≤ most_share
  unfolding opening_share
  opening_most opening weak =
      let most : opening * 100 * min wall.length 3000 ≤ 6 * 100 * 3000 = mul-le-mul (mul-le-mul_right 100 weak) (min-le_right wall.length 3000) in
      omega arith

  pub share_most : wall_share house storey wall ≤ most_share
  unfolding wall_share
  share_most =
      cond_most (eqb wall.walltype 1) (λ e. solid_most)
      (λ e. cond_most (eqb wall.walltype 2) (λ d. opening_most 6 (lit≤ tt))
      (λ d. cond_most (eqb wall.walltype 3) (λ f. opening_most 3 (lit≤ tt)) (λ f. lit≤ tt)))

-- Of a house a wall's share takes the storeys, the foundation and the snow alone.
pub share_same : (house other : House) → house.storeys ≡ other.storeys → house.foundation ≡ other.foundation → house.snow ≡ other.snow
    → (storey : ℕ) (wall : Wall) → wall_share house storey wall ≡ wall_share other storey wall
unfolding wall_share solid_share joint_factor position foundation_used
share_same house other storeys foundation snow storey wall = rw (storeys, foundation, snow)

-- The sum over the walls that a test takes.
module _ (takes : ℕ → Bool) (share : ℕ → ℕ) where
  -- No wall yet; and one wall more.
  pub held_none : held_strength takes share 0 ≡ 0
  unfolding held_strength
  held_none = refl

  pub held_more : (n : ℕ) → held_strength takes share (n + 1) ≡ held_strength takes share n + cond (takes n) (share n) 0
  unfolding held_strength
  held_more n = rw add-one

  -- Walls that each count at most so much.
  pub held_most : (n : ℕ) → ((k : ℕ) → k < n → share k ≤ most_share) → held_strength takes share n ≤ n * most_share
  unfolding held_strength
  held_most zero each = lit≤ tt
  held_most (suc n) each =
      omega (
        arith,
        held_most n (λ k l. each k (omega arith)),
        cond_most (takes n) {a = share n} {b = 0} {most = most_share} (λ e. each n (omega arith)) (λ e. lit≤ tt),
      )
