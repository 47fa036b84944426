-- `base_operators::multiplied` meets its contract: each code has its operator. Assumes nothing.
use Rattle.std.proofs.Common.{rules}
use mir.Facts.{to_z-of_z}
use Rattle.spec_design.specs.Types.{integer, plain}
use Rattle.spec_design.specs.Expression.{times, divide, modulo, remainder, sum_type, type_of_binary}
use Rattle.spec_semantics.specs.Evaluation.{binary_result, apply_binary}
use Rattle.base_operators.proofs.Laws.{binary_arm, multiplied_other}
use Rattle.base_operators.proofs.multiplied.Goals as goal

pub returns-in-29 : goal.returns-in-29
unfolding type_of_binary sum_type apply_binary binary_result
returns-in-29 c =
    binary_arm times (plain integer) c.args.op c.args.x c.args.y c.in-29.is
    (simp (to_z-of_z c.ranges.x, to_z-of_z c.ranges.y) at c.multiply.ensures)

pub returns-in-30 : goal.returns-in-30
unfolding type_of_binary sum_type apply_binary binary_result
returns-in-30 c =
    binary_arm divide (plain integer) c.args.op c.args.x c.args.y c.in-30.is
    (simp (to_z-of_z c.ranges.x, to_z-of_z c.ranges.y) at c.divide.ensures)

pub returns-in-31 : goal.returns-in-31
unfolding type_of_binary sum_type apply_binary binary_result
returns-in-31 c =
    binary_arm modulo (plain integer) c.args.op c.args.x c.args.y c.in-31.is
    (simp (to_z-of_z c.ranges.x, to_z-of_z c.ranges.y) at c.modulus.ensures)

pub returns-in-32 : goal.returns-in-32
unfolding type_of_binary sum_type apply_binary binary_result
returns-in-32 c =
    binary_arm remainder (plain integer) c.args.op c.args.x c.args.y c.in-32.is
    (simp (to_z-of_z c.ranges.x, to_z-of_z c.ranges.y) at c.remainder.ensures)

pub returns-in_default : goal.returns-in_default
returns-in_default c =
    multiplied_other c.args.op c.args.x c.args.y c.requires (search rules) (search rules) (search rules) (search rules)
