-- `AcceptedTable::assess_direction` meets its contract. Assumes nothing.
use Rattle.std.proofs.Common.{◌≡◌, ◌∙◌}
use Rattle.diagnosis.specs.House.{required_of, required, end_required, end_band, storey_floor_type, layout, score_with}
use Rattle.diagnosis.specs.Internal.{direction_number}
use Rattle.diagnosis.proofs.Assessments.{quotient_is}
use Rattle.diagnosis.proofs.accepted.AcceptedTable.assess_direction.Goals as goal
use Rattle.diagnosis.proofs.accepted.AcceptedTable.assess_direction.Goals.{After-layout_factor-layout, After-narrow_factor-narrow, After-required_strength-required}

-- What is required of the storey.
required-is : (c : After-required_strength-required) → c.required_strength-required.result ≡ required c.args.self.now.table.now c.args.storey
unfolding required required_of
required-is c =
    c.required_strength-required.ensures
    ∙ rw (c.narrow_factor-narrow.ensures, c.storey_part.ensures, c.storey-row.ensures, c.args.self.now.of_house.row)

-- The layout factor, by the bands of both ends and the floor type.
layout_is : (c : After-layout_factor-layout) → c.layout_factor-layout.result ≡ layout c.args.self.now.table.now c.args.storey (direction_number c.args.direction)
unfolding layout storey_floor_type end_band end_required required_of
layout_is c =
    c.layout_factor-layout.ensures
    ∙ rw (
      c.end_band.ensures,
      c.end_band-2.ensures,
      c.end_part-end_a.ensures,
      c.end_part-end_b.ensures,
      c.floor_type.ensures,
      c.narrow_factor-narrow.ensures,
      c.storey-row.ensures,
      c.args.self.now.of_house.row,
      c.requires.a_is,
      c.requires.b_is,
    )

pub returns : goal.returns
unfolding score_with
returns c =
    let here = c.requires.in_house in
    let accepted = c.args.self.now.of_house.stands.accepted in
    rw (
      c.limited.ensures,
      c.score-quotient.ensures,
      required-is (goal.at.returns c).After-required_strength-required,
      layout_is (goal.at.returns c).After-layout_factor-layout,
      c.requires.factor_is,
      quotient_is _ accepted _ _ here.some_storey here.last_storey c.requires.all_most,
    )
