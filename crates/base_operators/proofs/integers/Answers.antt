-- `base_operators::integers` meets its contract: each code has its operator. Assumes nothing.
use mathlib.Core.Path.{ap, ◌∙◌}
use mathlib.Core.Bool.{Bool, not}
use mir.Facts.{to_z-of_z}
use Rattle.spec_design.specs.Types.{integer, plain}
use Rattle.spec_design.specs.Expression.{fine, equal, unequal, less, at_most, greater, at_least, equality_type, order_type, type_of_binary}
use Rattle.spec_semantics.specs.Evaluation.{bit_of, binary_result, apply_binary}
use Rattle.base_signed.proofs.Range.{equal_bits}
use Rattle.base_operators.proofs.Laws.{binary_arm}
use Rattle.base_operators.proofs.integers.Goals as goal

pub returns-in-20 : goal.returns-in-20
unfolding type_of_binary equality_type apply_binary binary_result
returns-in-20 c = binary_arm equal (plain integer) c.args.op c.args.x c.args.y c.in-20.is (c.logic.ensures ∙ ap (λ (b : Bool). fine (bit_of b)) (equal_bits c.ranges.x c.ranges.y))

pub returns-in-21 : goal.returns-in-21
unfolding type_of_binary equality_type apply_binary binary_result
returns-in-21 c = binary_arm unequal (plain integer) c.args.op c.args.x c.args.y c.in-21.is (c.logic-in-21.ensures ∙ ap (λ (b : Bool). fine (bit_of (not b))) (equal_bits c.ranges.x c.ranges.y))

pub returns-in-22 : goal.returns-in-22
unfolding type_of_binary order_type apply_binary binary_result
returns-in-22 c = binary_arm less (plain integer) c.args.op c.args.x c.args.y c.in-22.is (simp (to_z-of_z c.ranges.x, to_z-of_z c.ranges.y) at c.logic-in-22.ensures)

pub returns-in-23 : goal.returns-in-23
unfolding type_of_binary order_type apply_binary binary_result
returns-in-23 c = binary_arm at_most (plain integer) c.args.op c.args.x c.args.y c.in-23.is (simp (to_z-of_z c.ranges.x, to_z-of_z c.ranges.y) at c.logic-in-23.ensures)

pub returns-in-24 : goal.returns-in-24
unfolding type_of_binary order_type apply_binary binary_result
returns-in-24 c = binary_arm greater (plain integer) c.args.op c.args.x c.args.y c.in-24.is (simp (to_z-of_z c.ranges.x, to_z-of_z c.ranges.y) at c.logic-in-24.ensures)

pub returns-in-25 : goal.returns-in-25
unfolding type_of_binary order_type apply_binary binary_result
returns-in-25 c = binary_arm at_least (plain integer) c.args.op c.args.x c.args.y c.in-25.is (simp (to_z-of_z c.ranges.x, to_z-of_z c.ranges.y) at c.logic-in-25.ensures)
