-- `base_operators::bits` meets its contract: std_logics are compared or are truth values. Assumes nothing.
use mathlib.Core.Path.{ap, ◌∙◌}
use mathlib.Core.Bool.{Bool, not}
use Rattle.std.proofs.Common.{rules}
use mir.Facts.{to_z-of_z}
use Rattle.spec_design.specs.Types.{std_logic, plain}
use Rattle.spec_design.specs.Expression.{fine, equal, unequal, equality_type, type_of_binary}
use Rattle.spec_semantics.specs.Evaluation.{bit_of, binary_result, apply_binary}
use Rattle.base_signed.proofs.Range.{equal_bits}
use Rattle.base_operators.proofs.Laws.{binary_arm, bits_other}
use Rattle.base_operators.proofs.bits.Goals as goal

pub returns-in-20 : goal.returns-in-20
unfolding type_of_binary equality_type apply_binary binary_result
returns-in-20 c = binary_arm equal (plain std_logic) c.args.op c.args.x c.args.y c.in-20.is (c.logic.ensures ∙ ap (λ (b : Bool). fine (bit_of b)) (equal_bits c.ranges.x c.ranges.y))

pub returns-in-21 : goal.returns-in-21
unfolding type_of_binary equality_type apply_binary binary_result
returns-in-21 c = binary_arm unequal (plain std_logic) c.args.op c.args.x c.args.y c.in-21.is (c.logic-in-21.ensures ∙ ap (λ (b : Bool). fine (bit_of (not b))) (equal_bits c.ranges.x c.ranges.y))

pub returns-in_default : goal.returns-in_default
returns-in_default c =
    (simp (to_z-of_z c.ranges.x, to_z-of_z c.ranges.y) at c.logical.ensures) ∙ bits_other c.args.op c.args.x c.args.y (search rules) (search rules)
