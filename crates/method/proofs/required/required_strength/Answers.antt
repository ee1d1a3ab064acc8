-- `required_strength` is what its definition says. Assumes nothing.
use Rattle.std.proofs.Common.{◌∙◌, arith}
use Rattle.method.proofs.Requirements.{with_zone_most, with_ground_most, with_narrow_most}
use Rattle.method.proofs.required.required_strength.Goals as goal

pub overflow_mul-result-2 : goal.overflow_mul-result-2
overflow_mul-result-2 c =
    omega (
      arith,
      with_zone_most c.args.house c.args.part c.from.result c.from-2.result c.from-3.result (c.from.ensures ∙ c.per_area-per_area.ensures) (omega arith) (omega arith),
    )

pub overflow_mul-result-3 : goal.overflow_mul-result-3
overflow_mul-result-3 c =
    omega (
      arith,
      with_ground_most c.args.house c.args.part c.from.result c.from-2.result c.from-3.result (c.from.ensures ∙ c.per_area-per_area.ensures) (omega arith) (omega arith)
          c.from-4.result (c.from-4.ensures ∙ c.ground_factor-ground.ensures),
    )

pub overflow_mul-result-4 : goal.overflow_mul-result-4
overflow_mul-result-4 c =
    omega (
      arith,
      with_narrow_most c.args.house c.args.part c.from.result c.from-2.result c.from-3.result (c.from.ensures ∙ c.per_area-per_area.ensures) (omega arith) (omega arith)
          c.from-4.result (c.from-4.ensures ∙ c.ground_factor-ground.ensures) c.from-5.result (omega arith),
    )
