-- `base_operators::one_integer` meets its contract: the sign is the one operator. Assumes nothing.
use Rattle.std.proofs.Common.{rules}
use mir.Facts.{to_z-of_z}
use Rattle.spec_design.specs.Types.{integer, plain}
use Rattle.spec_design.specs.Expression.{sign, sum_type, type_of_unary}
use Rattle.spec_semantics.specs.Evaluation.{unary_result, apply_unary}
use Rattle.base_operators.proofs.Laws.{unary_arm, integer_other}
use Rattle.base_operators.proofs.one_integer.Goals as goal

pub returns-in-16 : goal.returns-in-16
unfolding type_of_unary sum_type apply_unary unary_result
returns-in-16 c = unary_arm sign (plain integer) c.args.op c.args.x c.in-16.is (rw (to_z-of_z c.ranges.x) at c.negate.ensures)

pub returns-in_default : goal.returns-in_default
returns-in_default c = integer_other c.args.op c.args.x (search rules)
