-- `joint_factor` is what its definition says. Assumes nothing.
use Rattle.std.proofs.Common.{◌≡◌, ◌≤◌, ◌∙◌, arith}
use Rattle.method.specs.Held.{joint_factor}
use Rattle.method.proofs.Factors.{row_factor_by, joint_most}
use Rattle.method.proofs.joints.joint_factor.Goals as goal

factor_is : (c : goal.After-row_factor) → c.row_factor.result ≡ joint_factor c.args.house c.args.storey c.args.wall
unfolding joint_factor
factor_is c = c.row_factor.ensures ∙ row_factor_by _ _ _ (c.unwrap_or-row.ensures ∙ c.row.ensures)

pub overflow_cast-result : goal.overflow_cast-result
overflow_cast-result c =
    let most : c.row_factor.result ≤ 100 = rw (factor_is c) (joint_most _ _ _) in
    omega arith

pub returns : goal.returns
returns c = factor_is c
