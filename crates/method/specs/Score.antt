-- A storey and direction's score, with what is left over, and a house's verdict. Document 01, "Score and verdict"; document 02, request 4.
use Rattle.std.specs.Prelude.{cond, ℕ, ◌*◌, ◌/◌, ◌%◌, min, leb}
use Rattle.method.specs.declared.deterioration.Fraction.{Fraction}
use Rattle.method.specs.declared.rows.Strengths.{Strengths}
use Rattle.method.specs.declared.scores.Quotient.{Quotient}
use Rattle.method.specs.Held.{most_held}
use Rattle.method.specs.Required.{most_required}

-- "the dividend, 1,000 × held × layout × the upper number of the deterioration fraction" (document 02, request 4).
abbrev pub dividend : Strengths → ℕ → Fraction → ℕ
dividend strengths layout deterioration = 1000 * strengths.held * layout * deterioration.upper

-- "The divisor is the required strength times the lower number of the deterioration fraction, not reduced".
abbrev pub divisor : Strengths → Fraction → ℕ
divisor strengths deterioration = strengths.required * deterioration.lower

-- "the whole hundredths, the remainder and the divisor", "before the limit of 999". Where the divisor is 0, as of no house, the hundredths are 0
-- and all is left over.
unfoldable pub quotient : Strengths → ℕ → Fraction → Quotient
quotient strengths layout deterioration = record {
  hundredths = dividend strengths layout deterioration / divisor strengths deterioration;
  remainder = dividend strengths layout deterioration % divisor strengths deterioration;
  divisor = divisor strengths deterioration;
}

-- "rounded down, at most 999" (document 01): the whole hundredths, limited.
abbrev pub limited : Quotient → ℕ
limited found = min found.hundredths 999

-- "Score in hundredths: 1,000 × held × layout × deterioration / required in the units above, rounded down, at most 999."
unfoldable pub score : Strengths → ℕ → Fraction → ℕ
score strengths layout deterioration = limited (quotient strengths layout deterioration)

-- "The score before the layout factor is the same with 100 for layout."
abbrev pub score_before_layout : Strengths → Fraction → ℕ
score_before_layout strengths deterioration = score strengths 100 deterioration

-- What the function `score` answers: the quotient with strengths above 60,000 kN counted as 60,000 kN. No storey of a house has such a strength,
-- so for houses it is the quotient (`capped_quotient_lem`). With larger strengths its products would be beyond 64-bit numbers.
unfoldable pub capped_quotient : Strengths → ℕ → Fraction → Quotient
capped_quotient strengths layout deterioration =
    quotient (record { held = min strengths.held most_held; required = min strengths.required most_required }) layout deterioration

-- "Verdict by the least score: 1 from 150, 2 from 100, 3 from 70, else 4."
unfoldable pub verdict : ℕ → ℕ
verdict least = cond (leb 150 least) 1 (cond (leb 100 least) 2 (cond (leb 70 least) 3 4))
