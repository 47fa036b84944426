-- `image_evaluator::apply_binary` meets its contract: the right operand is the last value, the left one lies below it. Assumes nothing.
use Rattle.std.proofs.Common.{rules}
use Rattle.std.specs.Prelude.{Err, IsOk}
use Rattle.base_codes.specs.declared.fault.Fault.TheVariants.{NoExpression}
use Prim.Native.Nat.{◌+◌, ◌-◌}
use native.Mathlib.Omega.{arith}
use mathlib.Core.Path.{◌≡◌, refl, sym, ap, ◌∙◌}
use lib.ListN.{get_or}
use lib.IntN.{pos}
use Rattle.spec_design.specs.Expression.{Out}
use Rattle.base_codes.specs.Operation.{binary_for}
use Rattle.base_codes.specs.Types.{result_for}
use Rattle.base_operators.specs.Operators.{binary_on, Applied}
use Rattle.base_operators.proofs.Laws.{integer_on}
use Rattle.image_evaluator.specs.Position.{pushed}
use Rattle.image_evaluator.specs.Value.{Cell}
use Rattle.image_evaluator.specs.Operators.{binary_of}
use Rattle.image_evaluator.specs.Stack.{type_on, cells_of}
use Rattle.image_evaluator.proofs.StackLaws.{stopped, went, halted, room_less, binary_short, binary_more}
use Rattle.image_evaluator.proofs.OperatorLaws.{binary_told, types_differ}
use Rattle.image_evaluator.proofs.apply_binary.Goals as goal

pub returns-then-depth-le1 : goal.returns-then-depth-le1
returns-then-depth-le1 c =
    let s = c.args in
    stopped s.stack.now.values s.stack.now.tags s.depth NoExpression c.requires
    (binary_short s.stack.now.values s.stack.now.tags s.depth s.at (binary_for s.op) c.if-depth-le1.true)

pub returns-then-t-stack : goal.returns-then-t-stack
returns-then-t-stack c =
    let s = c.args in
    let m = c.requires in
    let h = c.if-depth-le1.false in
    let a = s.stack.now.values in
    let t = s.stack.now.tags in
    let j = s.depth - 1 in
    let i = j - 1 in
    stopped a t s.depth NoExpression m
    (sym (binary_more a t s.depth s.at (binary_for s.op) h
    ∙ ap (λ (o : Out Cell). pushed o s.at (cells_of a t i))
    (types_differ s.op (type_on (get_or t i 0)) (type_on (get_or t j 0)) (get_or a i (pos 0)) (get_or a j (pos 0))
    (λ q. c.if-t-stack.true (m.kinds i (omega arith) ∙ (q ∙ sym (m.kinds j (omega arith))))))))

pub returns-in_err-apply_sum : goal.returns-in_err-apply_sum
returns-in_err-apply_sum c =
    let s = c.args in
    let m = c.requires in
    let h = c.if-depth-le1.false in
    let a = s.stack.now.values in
    let t = s.stack.now.tags in
    let j = s.depth - 1 in
    let i = j - 1 in
    let x = get_or a i (pos 0) in
    let y = get_or a j (pos 0) in
    let k : i + 1 ≡ j = omega arith in
    let w : get_or t i 0 ≡ 1 = (c.is_sum.ensures.0 c.if-is_sum.true).0 in
    let summed : Applied (binary_on s.op (get_or t i 0) x (get_or a (i + 1) (pos 0))) a i c.apply_sum.new.stack c.apply_sum.result = rw (w, integer_on) c.apply_sum.ensures in
    let e : c.from_residual.result ≡ Err c.in_err-apply_sum.field-0.0 = search rules in
    rw e (halted c.in_err-apply_sum.field-0.0 (binary_on s.op (get_or t i 0) x y) a t i (result_for s.op (get_or t i 0)) s.at
    (binary_of (binary_for s.op) (type_on (get_or t i 0), x) (type_on (get_or t j 0), y))
    (binary_more a t s.depth s.at (binary_for s.op) h)
    (rw (← c.if-t-stack.false)
    (binary_told s.op (get_or t i 0) (result_for s.op (get_or t i 0)) (type_on (get_or t i 0)) x y (m.kinds i (omega arith)) refl))
    (rw k at summed) c.in_err-apply_sum.was (room_less s.depth i (omega arith) m))

pub returns-then-is_sum : goal.returns-then-is_sum
returns-then-is_sum c =
    let s = c.args in
    let m = c.requires in
    let h = c.if-depth-le1.false in
    let a = s.stack.now.values in
    let t = s.stack.now.tags in
    let j = s.depth - 1 in
    let i = j - 1 in
    let x = get_or a i (pos 0) in
    let y = get_or a j (pos 0) in
    let k : i + 1 ≡ j = omega arith in
    let w : get_or t i 0 ≡ 1 = (c.is_sum.ensures.0 c.if-is_sum.true).0 in
    let summed : Applied (binary_on s.op (get_or t i 0) x (get_or a (i + 1) (pos 0))) a i c.apply_sum.new.stack c.apply_sum.result = rw (w, integer_on) c.apply_sum.ensures in
    let ok : IsOk c.apply_sum.result = search rules in
    went (binary_on s.op (get_or t i 0) x y) a t i c.result_type.result s.at
    (binary_of (binary_for s.op) (type_on (get_or t i 0), x) (type_on (get_or t j 0), y))
    (binary_more a t s.depth s.at (binary_for s.op) h)
    (rw (← c.if-t-stack.false)
    (binary_told s.op (get_or t i 0) c.result_type.result (type_on (get_or t i 0)) x y (m.kinds i (omega arith)) c.result_type.ensures))
    (rw k at summed) ok (room_less s.depth i (omega arith) m) (omega (arith, m.depth))

pub returns-in_err-apply_binary : goal.returns-in_err-apply_binary
returns-in_err-apply_binary c =
    let s = c.args in
    let m = c.requires in
    let h = c.if-depth-le1.false in
    let a = s.stack.now.values in
    let t = s.stack.now.tags in
    let j = s.depth - 1 in
    let i = j - 1 in
    let x = get_or a i (pos 0) in
    let y = get_or a j (pos 0) in
    let k : i + 1 ≡ j = omega arith in
    let e : c.from_residual-in_err-apply_binary.result ≡ Err c.in_err-apply_binary.field-0.0 = search rules in
    rw e (halted c.in_err-apply_binary.field-0.0 (binary_on s.op (get_or t i 0) x y) a t i (result_for s.op (get_or t i 0)) s.at
    (binary_of (binary_for s.op) (type_on (get_or t i 0), x) (type_on (get_or t j 0), y))
    (binary_more a t s.depth s.at (binary_for s.op) h)
    (rw (← c.if-t-stack.false)
    (binary_told s.op (get_or t i 0) (result_for s.op (get_or t i 0)) (type_on (get_or t i 0)) x y (m.kinds i (omega arith)) refl))
    (rw k at c.apply_binary.ensures) c.in_err-apply_binary.was (room_less s.depth i (omega arith) m))

pub returns : goal.returns
returns c =
    let s = c.args in
    let m = c.requires in
    let h = c.if-depth-le1.false in
    let a = s.stack.now.values in
    let t = s.stack.now.tags in
    let j = s.depth - 1 in
    let i = j - 1 in
    let x = get_or a i (pos 0) in
    let y = get_or a j (pos 0) in
    let k : i + 1 ≡ j = omega arith in
    let ok : IsOk c.apply_binary.result = search rules in
    went (binary_on s.op (get_or t i 0) x y) a t i c.result_type-2.result s.at
    (binary_of (binary_for s.op) (type_on (get_or t i 0), x) (type_on (get_or t j 0), y))
    (binary_more a t s.depth s.at (binary_for s.op) h)
    (rw (← c.if-t-stack.false)
    (binary_told s.op (get_or t i 0) c.result_type-2.result (type_on (get_or t i 0)) x y (m.kinds i (omega arith)) c.result_type-2.ensures))
    (rw k at c.apply_binary.ensures) ok (room_less s.depth i (omega arith) m) (omega (arith, m.depth))
