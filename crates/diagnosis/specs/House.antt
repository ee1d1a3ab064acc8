-- What document 01 defines of a house, over its table: "Held strength" to "Score and verdict", each by `method`'s definition on what the rows say.
-- Storeys and directions count from 1, as in document 01.
use Rattle.std.specs.Prelude.{Bool, cond, ◌&&◌, ◌||◌, List, [], ◌∷◌, ℕ, ◌+◌, ◌*◌, ◌/◌, ◌≤◌, max, min, length, eqb, leb}
use Rattle.answer.specs.Lists.{joined}
use Rattle.survey.specs.Table.{cell, storeys}
use Rattle.survey.specs.Walls.{storey_walls}
use Rattle.method.specs.declared.deterioration.Fraction.{Fraction}
use Rattle.method.specs.declared.rows.House.{House}
use Rattle.method.specs.declared.rows.HousePart.{HousePart}
use Rattle.method.specs.declared.rows.Strengths.{Strengths}
use Rattle.method.specs.declared.rows.Bands.{Bands}
use Rattle.method.specs.declared.scores.Quotient.{Quotient}
use Rattle.method.specs.Held.{wall_share, held_strength}
use Rattle.method.specs.Required.{is_narrow, narrow_factor, required_strength}
use Rattle.method.specs.LayoutFactor.{band, floor_type, layout_factor}
use Rattle.method.specs.Deterioration.{deterioration_factor, after_repair}
use Rattle.method.specs.Score.{quotient, limited, score_before_layout, verdict}
use Rattle.diagnosis.specs.declared.assessment.Assessment.{Assessment}
use Rattle.diagnosis.specs.Rows.{house_of, storey_of, storey_part, end_a, end_b, end_part, wall_direction, wall_place, wall_of, items_of, repaired, start_of_work, age}

-- The house has this storey and direction.
pub record InHouse (table : List ℕ) (storey direction : ℕ) : Type 0 where
  pub some_storey : 1 ≤ storey
  pub last_storey : storey ≤ storeys table
  pub some_direction : 1 ≤ direction
  pub last_direction : direction ≤ 2

-- Held strength

-- What a wall of a storey counts, by its row among that storey's walls.
abbrev pub share : House → ℕ → List ℕ → ℕ → ℕ
share house storey walls row = wall_share house storey (wall_of walls row)

-- And by its row in a table, in the storey that the row names.
abbrev pub row_share : House → List ℕ → ℕ → ℕ
row_share house table row = share house (cell table row 1) table row

-- The walls in a direction; and those of them that are solid and stand at an end: "place (1 end a, 2 middle, 3 end b)", "type (1 solid, ..)".
unfoldable pub in_direction : List ℕ → ℕ → ℕ → Bool
in_direction walls direction row = eqb (wall_direction walls row) direction

abbrev pub place : ℕ → ℕ
place end = 2 * end + 1

unfoldable pub solid_at_end : List ℕ → ℕ → ℕ → ℕ → Bool
solid_at_end walls direction end row =
    in_direction walls direction row && eqb (wall_of walls row).walltype 1 && eqb (wall_place walls row) (place end)

-- What a storey's walls hold, those of them that a test takes.
abbrev pub held_where : (List ℕ → ℕ → Bool) → List ℕ → ℕ → ℕ
held_where takes table storey =
    let walls = storey_walls table storey in
    held_strength (takes walls) (share (house_of table) storey walls) (length walls / 8)

-- "Held strength of a storey and direction is the sum over its walls."
unfoldable pub held : List ℕ → ℕ → ℕ → ℕ
held table storey direction = held_where (λ walls. in_direction walls direction) table storey

-- Of an end "its solid walls' held strength ..; openings don't count".
unfoldable pub end_held : List ℕ → ℕ → ℕ → ℕ → ℕ
end_held table storey direction end = held_where (λ walls. solid_at_end walls direction end) table storey

-- Required strength

-- The house has this storey, and the storey is narrow.
unfoldable pub narrow_storey : List ℕ → ℕ → Bool
narrow_storey table storey = leb storey (storeys table) && is_narrow (storey_of table storey)

-- The narrow factor of a storey of the house, which its ends take too: "every storey below" a narrow one "takes 113, once, however many are narrow
-- above" (document 02, request 6). So a storey goes by the storeys above it, which are at most two, and not by its own short side.
unfoldable pub narrow : List ℕ → ℕ → ℕ
narrow table storey = narrow_factor (narrow_storey table (storey + 1) || narrow_storey table (storey + 2))

-- What is required of a part of the house, a storey or an end of it. "An end uses its own area, its part's number of storeys for the constant,
-- and its storey's other factors."
unfoldable pub required_of : List ℕ → HousePart → ℕ
required_of table part = required_strength (house_of table) part (narrow table part.storey)

unfoldable pub required : List ℕ → ℕ → ℕ
required table storey = required_of table (storey_part (house_of table) (storey_of table storey))

unfoldable pub end_required : List ℕ → ℕ → ℕ → ℕ → ℕ
end_required table storey direction end = required_of table (end_part table storey direction end)

-- Layout factor

-- The two numbers of an end's sufficiency, "its solid walls' held strength over its required strength"; and its band.
abbrev pub end_strengths : List ℕ → ℕ → ℕ → ℕ → Strengths
end_strengths table storey direction end =
    record { held = end_held table storey direction end; required = end_required table storey direction end }

unfoldable pub end_band : List ℕ → ℕ → ℕ → ℕ → ℕ
end_band table storey direction end = band (end_strengths table storey direction end)

abbrev pub end_bands : List ℕ → ℕ → ℕ → Bands
end_bands table storey direction = record { a = end_band table storey direction end_a; b = end_band table storey direction end_b }

-- "The better end is the one in the higher band, either where the bands are equal": its band.
unfoldable pub higher_band : List ℕ → ℕ → ℕ → ℕ
higher_band table storey direction = max (end_band table storey direction end_a) (end_band table storey direction end_b)

-- A storey's floor type. "A void makes floor type 1 into 2 and 2 into 3."
unfoldable pub storey_floor_type : List ℕ → ℕ → ℕ
storey_floor_type table storey = floor_type (storey_of table storey)

unfoldable pub layout : List ℕ → ℕ → ℕ → ℕ
layout table storey direction = layout_factor (end_bands table storey direction) (storey_floor_type table storey)

-- Deterioration factor

-- By its marks and its age, and "at most 0.9" where it is repaired (document 02, request 5).
unfoldable pub deterioration : List ℕ → Fraction
deterioration table = after_repair (deterioration_factor (items_of table) (age table)) (repaired table)

-- Score and verdict

-- What a storey holds, given as a number, and what is required of it.
abbrev pub strengths_with : List ℕ → ℕ → ℕ → Strengths
strengths_with table held storey = record { held = held; required = required table storey }

-- "The score before the layout factor is the same with 100 for layout."
unfoldable pub score_before : List ℕ → ℕ → ℕ → ℕ
score_before table storey direction = score_before_layout (strengths_with table (held table storey direction) storey) (deterioration table)

-- What a storey and direction is scored by: "the whole hundredths, the remainder and the divisor" (document 02, request 4), by a held strength that is
-- given; and by what its own walls hold.
unfoldable pub quotient_with : List ℕ → ℕ → ℕ → ℕ → Quotient
quotient_with table held storey direction = quotient (strengths_with table held storey) (layout table storey direction) (deterioration table)

abbrev pub full_quotient : List ℕ → ℕ → ℕ → Quotient
full_quotient table storey direction = quotient_with table (held table storey direction) storey direction

-- And the full score, which is that, limited.
unfoldable pub score_with : List ℕ → ℕ → ℕ → ℕ → ℕ
score_with table held storey direction = limited (quotient_with table held storey direction)

abbrev pub full_score : List ℕ → ℕ → ℕ → ℕ
full_score table storey direction = score_with table (held table storey direction) storey direction

-- A number for each storey and direction of a house: storey by storey from the ground up, in each "direction 1 (X) then 2 (Y)". Its scores, by held
-- strengths that are given, and by what its own walls hold.
abbrev pub storey_by_storey : List ℕ → (ℕ → ℕ → ℕ) → List ℕ
storey_by_storey table number = joined (storeys table) (λ below. number (below + 1) 1 ∷ number (below + 1) 2 ∷ [])

abbrev pub scores_with : List ℕ → (ℕ → ℕ → ℕ) → List ℕ
scores_with table held = storey_by_storey table (λ storey direction. score_with table (held storey direction) storey direction)

unfoldable pub scores : List ℕ → List ℕ
scores table = scores_with table (held table)

-- The least of some scores, of which none is above 999.
unfoldable pub least_of : List ℕ → ℕ
least_of [] = 999
least_of (one ∷ others) = min one (least_of others)

unfoldable pub least_score : List ℕ → ℕ
least_score table = least_of (scores table)

-- "Verdict by the least score".
unfoldable pub house_verdict : List ℕ → ℕ
house_verdict table = verdict (least_score table)

-- "The record, not the report, also says whether work started by 31 May 1981, the grant's last day" (document 02, request 3): 1 where it did, else 0.
abbrev pub grants_last_day : ℕ
grants_last_day = 19810531

unfoldable pub started_by_31_may_1981 : List ℕ → ℕ
started_by_31_may_1981 table = cond (leb (start_of_work table) grants_last_day) 1 0

-- What is worked out for a storey and direction, by a held strength that is given; and by what its own walls hold.
abbrev pub assessment_with : List ℕ → ℕ → ℕ → ℕ → Assessment
assessment_with table held storey direction = record {
  held = held;
  required = required table storey;
  layout = layout table storey direction;
  score = score_with table held storey direction;
  quotient = quotient_with table held storey direction;
}

abbrev pub assessment : List ℕ → ℕ → ℕ → Assessment
assessment table storey direction = assessment_with table (held table storey direction) storey direction
