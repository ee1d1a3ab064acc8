-- Document 01's worked examples that need no table, and its table of layout factors, by computation. Assumes nothing.
use Rattle.std.proofs.Common.{◌≡◌, refl}
use Rattle.method.specs.Printed.{nth}
use Rattle.method.specs.Held.{position, foundation_used, shared_row, top_entry, entry_in, entry, interpolated, row_factor, joint_factor, solid_share, opening_share, wall_share}
use Rattle.method.specs.Required.{top_line, constant, snow_addition, per_area, ground_factor, is_narrow, narrow_factor, required_strength}
use Rattle.method.specs.LayoutFactor.{reached, band, floor_type, layout_factor}
use Rattle.method.specs.Deterioration.{points, counted_marks, factor_of, deterioration_factor, after_repair}
use Rattle.method.specs.Score.{quotient, score, capped_quotient, verdict}
use Rattle.method.specs.Worked.{worked, expected, worked_quotients, expected_quotients, layout_table, document_table}

pub worked_out : worked ≡ expected
unfolding position foundation_used shared_row top_entry entry_in entry interpolated row_factor joint_factor solid_share opening_share wall_share nth top_line constant snow_addition per_area ground_factor is_narrow narrow_factor required_strength reached band floor_type layout_factor points counted_marks factor_of deterioration_factor after_repair quotient score verdict
worked_out = refl

-- Scores with what is left over.
pub quotients_worked_out : worked_quotients ≡ expected_quotients
unfolding points counted_marks factor_of deterioration_factor after_repair quotient capped_quotient
quotients_worked_out = refl

-- Document 01's own table, by lower and higher band, A as 0 to E as 4, is the one that 000 prints.
pub document_table_lem : layout_table ≡ document_table
unfolding layout_factor nth
document_table_lem = refl
