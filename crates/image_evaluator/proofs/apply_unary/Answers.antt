-- `image_evaluator::apply_unary` meets its contract: the operand is the last value. Assumes nothing.
use Rattle.std.proofs.Common.{rules}
use Rattle.std.proofs.lemmas.List.{set-get_or}
use Rattle.std.specs.Prelude.{Result, Err, IsOk, Ok}
use Rattle.base_codes.specs.declared.fault.Fault.{Fault}
use Rattle.base_codes.specs.declared.fault.Fault.TheVariants.{NoExpression}
use mathlib.Core.Path.{◌≡◌}
use Prim.Native.Nat.{◌-◌}
use native.Mathlib.Omega.{arith}
use mathlib.Core.Path.{refl}
use lib.ListN.{get_or}
use lib.IntN.{pos}
use mathlib.Core.Option.{some}
use Rattle.spec_design.specs.Types.{boolean}
use Rattle.spec_design.specs.Expression.{invert}
use Rattle.base_codes.specs.Operation.{unary_for}
use Rattle.base_codes.specs.Token.{one_of}
use Rattle.base_codes.specs.Types.{result_for}
use Rattle.base_operators.specs.Operators.{unary_by, unary_on, Applied}
use Rattle.base_operators.proofs.Laws.{not_on}
use Rattle.image_evaluator.specs.Operators.{unary_of}
use Rattle.image_evaluator.specs.Stack.{type_on}
use Rattle.image_evaluator.proofs.StackLaws.{stopped, went, halted, room_less, unary_short, unary_more}
use Rattle.image_evaluator.proofs.OperatorLaws.{unary_told}
use Rattle.image_evaluator.proofs.apply_unary.Goals as goal

pub returns-then-depth-lt1 : goal.returns-then-depth-lt1
returns-then-depth-lt1 c =
    let s = c.args in
    stopped s.stack.now.values s.stack.now.tags s.depth NoExpression c.requires
    (unary_short s.stack.now.values s.stack.now.tags s.depth s.at (unary_for s.op) c.if-depth-lt1.true)

pub returns-then-is_not : goal.returns-then-is_not
unfolding result_for one_of
returns-then-is_not c =
    let s = c.args in
    let m = c.requires in
    let a = s.stack.now.values in
    let t = s.stack.now.tags in
    let i = s.depth - 1 in
    let u = get_or t i 0 in
    let x = get_or a i (pos 0) in
    let it = c.is_not.ensures.0 c.if-is_not.true in
    let kind = m.kinds i (omega (arith, c.if-depth-lt1.false)) in
    let asked : unary_on s.op u x ≡ unary_by (some invert) (some boolean) x = rw it.0 (not_on (type_on u) u x kind it.1) in
    let same : u ≡ result_for s.op u = rw it.0 refl in
    let answer : Result Unit Fault = Ok tt in
    let told : Applied (unary_on s.op u x) a i c.apply_not.new.stack answer = rw asked c.apply_not.ensures in
    rw set-get_or at (went (unary_on s.op u x) a t i u s.at (unary_of (unary_for s.op) (type_on u, x))
    (unary_more a t s.depth s.at (unary_for s.op) c.if-depth-lt1.false)
    (unary_told s.op u u (type_on u) x kind same)
    told refl (room_less s.depth i (omega arith) m) (omega (arith, m.depth)))

pub returns-in_err-apply_unary : goal.returns-in_err-apply_unary
returns-in_err-apply_unary c =
    let s = c.args in
    let m = c.requires in
    let a = s.stack.now.values in
    let t = s.stack.now.tags in
    let i = s.depth - 1 in
    let e : c.from_residual.result ≡ Err c.in_err-apply_unary.field-0.0 = search rules in
    rw e (halted c.in_err-apply_unary.field-0.0 (unary_on s.op (get_or t i 0) (get_or a i (pos 0))) a t i (result_for s.op (get_or t i 0)) s.at
    (unary_of (unary_for s.op) (type_on (get_or t i 0), get_or a i (pos 0)))
    (unary_more a t s.depth s.at (unary_for s.op) c.if-depth-lt1.false)
    (unary_told s.op (get_or t i 0) (result_for s.op (get_or t i 0)) (type_on (get_or t i 0)) (get_or a i (pos 0))
    (m.kinds i (omega (arith, c.if-depth-lt1.false))) refl)
    c.apply_unary.ensures c.in_err-apply_unary.was (room_less s.depth i (omega arith) m))

pub returns : goal.returns
returns c =
    let s = c.args in
    let m = c.requires in
    let a = s.stack.now.values in
    let t = s.stack.now.tags in
    let i = s.depth - 1 in
    let ok : IsOk c.apply_unary.result = search rules in
    went (unary_on s.op (get_or t i 0) (get_or a i (pos 0))) a t i c.result_type.result s.at
    (unary_of (unary_for s.op) (type_on (get_or t i 0), get_or a i (pos 0)))
    (unary_more a t s.depth s.at (unary_for s.op) c.if-depth-lt1.false)
    (unary_told s.op (get_or t i 0) c.result_type.result (type_on (get_or t i 0)) (get_or a i (pos 0))
    (m.kinds i (omega (arith, c.if-depth-lt1.false))) c.result_type.ensures)
    c.apply_unary.ensures ok (room_less s.depth i (omega arith) m) (omega (arith, m.depth))
