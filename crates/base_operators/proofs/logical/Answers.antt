-- `base_operators::logical` meets its contract: each code has its operator. Assumes nothing.
use mathlib.Core.Path.{◌≡◌, sym, ap, ◌∙◌}
use mathlib.Core.Bool.{Bool, ◌&&◌, ◌||◌}
use Rattle.std.proofs.Common.{rules}
use mir.Facts.{to_z-of_z}
use Rattle.spec_design.specs.Types.{boolean}
use Rattle.spec_design.specs.Expression.{fine, and, or, xor, logical_type, type_of_binary}
use Rattle.spec_semantics.specs.Evaluation.{bit_of, is_one, binary_result, apply_binary}
use Rattle.base_operators.proofs.Laws.{binary_arm, logical_other, differ_is}
use Rattle.base_operators.proofs.logical.Goals as goal
use Rattle.base_operators.proofs.logical.Goals.{then-is_one, else-is_one, then-is_one-2, else-is_one-2}

pub returns-after-is_one : goal.returns-after-is_one
unfolding type_of_binary logical_type apply_binary binary_result
returns-after-is_one c =
    let p = rw (to_z-of_z c.ranges.x) at c.is_one.ensures in
    let e : c.if-is_one.logic ≡ (is_one c.args.x && is_one c.args.y) =
    elim c.if-is_one.branch [
      | then-is_one w ↦ rw (sym p ∙ w.if-is_one.true) (w.logic-is ∙ rw (to_z-of_z c.ranges.y) at w.is_one-then-is_one.ensures)
      | else-is_one w ↦ rw (sym p ∙ w.if-is_one.false) (w.logic-is ∙ w.if-is_one.false)
    ] in
    binary_arm and boolean c.args.op c.args.x c.args.y c.in-26.is (c.logic.ensures ∙ ap (λ (b : Bool). fine (bit_of b)) e)

pub returns-after-is_one-2 : goal.returns-after-is_one-2
unfolding type_of_binary logical_type apply_binary binary_result
returns-after-is_one-2 c =
    let p = rw (to_z-of_z c.ranges.x) at c.is_one-in-27.ensures in
    let e : c.if-is_one-2.logic ≡ (is_one c.args.x || is_one c.args.y) =
    elim c.if-is_one-2.branch [
      | then-is_one-2 w ↦ rw (sym p ∙ w.if-is_one-2.true) (w.logic-is ∙ w.if-is_one-2.true)
      | else-is_one-2 w ↦ rw (sym p ∙ w.if-is_one-2.false) (w.logic-is ∙ rw (to_z-of_z c.ranges.y) at w.is_one-else-is_one-2.ensures)
    ] in
    binary_arm or boolean c.args.op c.args.x c.args.y c.in-27.is (c.logic-in-27.ensures ∙ ap (λ (b : Bool). fine (bit_of b)) e)

pub returns-in-28 : goal.returns-in-28
unfolding type_of_binary logical_type apply_binary binary_result
returns-in-28 c =
    let p = rw (to_z-of_z c.ranges.x) at c.is_one-in-28.ensures in
    let q = rw (to_z-of_z c.ranges.y) at c.is_one-in-28-2.ensures in
    let e = rw (p, q) at c.logic-in-28.ensures in
    binary_arm xor boolean c.args.op c.args.x c.args.y c.in-28.is (e ∙ ap (λ (b : Bool). fine (bit_of b)) (differ_is (is_one c.args.x) (is_one c.args.y)))

pub returns-in_default : goal.returns-in_default
returns-in_default c = logical_other c.args.op c.args.x c.args.y (search rules) (search rules) (search rules)
