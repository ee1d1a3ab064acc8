-- The numbers of the code's directions and ends, and of whether a house was repaired. Assumes nothing.
use Rattle.std.proofs.Common.{◌≡◌, refl, Bool, true, false, cond, [], ◌∷◌, ℕ, zero, suc, ◌+◌, ◌<◌, arith, eqb, get_or}
use denote.Enum.Declared.{tag_of}
use Rattle.diagnosis.specs.declared.accepted.Direction.{Direction}
use Rattle.diagnosis.specs.declared.accepted.Direction.TheVariants.{X, Y}
use Rattle.diagnosis.specs.declared.accepted.End.{End}
use Rattle.diagnosis.specs.declared.accepted.End.TheVariants.{A, B}
use Rattle.diagnosis.specs.contracts.accepted.Direction as direction
use Rattle.diagnosis.specs.contracts.accepted.End as end
use Rattle.method.specs.declared.deterioration.Fraction.{Fraction}
use Rattle.method.specs.Deterioration.{after_repair}
use Rattle.diagnosis.specs.Internal.{direction_number, end_number}

pub direction_is : (d : Direction) → tag_of direction.the_type d + 1 ≡ direction_number d
direction_is X = refl
direction_is Y = refl

pub end_is : (e : End) → tag_of end.the_type e ≡ end_number e
end_is A = refl
end_is B = refl

-- The directions of a storey's places, X and then Y, by their numbers.
pub direction_listed : (at : ℕ) → at < 2 → direction_number (get_or (X ∷ Y ∷ []) at X) ≡ at + 1
direction_listed zero inside = refl
direction_listed (suc zero) inside = refl
direction_listed (suc (suc at)) inside = absurd (omega arith)

-- A house is repaired where the number is 1, and 1 is what a number is made of then.
pub repaired_as_number : (factor : Fraction) (number : ℕ) → after_repair factor (cond (eqb number 1) 1 0) ≡ after_repair factor number
unfolding after_repair
repaired_as_number factor number = rw (same_test (eqb number 1)) refl
  where
    same_test : (b : Bool) → eqb (cond b 1 0) 1 ≡ b
    same_test true = refl
    same_test false = refl
