-- `direct_expressions::evaluation::apply_unary` meets its contract: the operand is the last number. Assumes nothing.
use Rattle.std.proofs.Common.{rules, ◌≡◌}
use Rattle.std.specs.Prelude.{Err, IsOk}
use Rattle.base_codes.specs.declared.fault.Fault.TheVariants.{NoExpression}
use Prim.Native.Nat.{◌-◌}
use native.Mathlib.Omega.{arith}
use lib.ListN.{get_or}
use lib.IntN.{pos}
use Rattle.base_operators.specs.Operators.{unary_on}
use Rattle.direct_expressions.proofs.StackLaws.{stopped, unary_short, unary_more, went, halted}
use Rattle.direct_expressions.proofs.evaluation.apply_unary.Goals as goal

pub returns-then-depth-lt1 : goal.returns-then-depth-lt1
returns-then-depth-lt1 c =
    stopped c.args.stack.now c.args.depth NoExpression c.requires
    (unary_short c.args.stack.now c.args.depth c.args.op c.args.t c.if-depth-lt1.true)

pub returns-in_err-apply_unary : goal.returns-in_err-apply_unary
returns-in_err-apply_unary c =
    let s = c.args in
    let m = c.requires in
    let i = s.depth - 1 in
    let r : c.from_residual.result ≡ Err c.in_err-apply_unary.field-0.0 = search rules in
    rw r (halted c.in_err-apply_unary.field-0.0 (unary_on s.op s.t (get_or s.stack.now i (pos 0))) s.stack.now i
    (unary_more s.stack.now s.depth s.op s.t c.if-depth-lt1.false) c.apply_unary.ensures c.in_err-apply_unary.was
    (record { numbers = m.numbers; depth = omega (arith, m.depth) }))

pub returns : goal.returns
returns c =
    let s = c.args in
    let m = c.requires in
    let i = s.depth - 1 in
    let ok : IsOk c.apply_unary.result = search rules in
    went (unary_on s.op s.t (get_or s.stack.now i (pos 0))) s.stack.now i
    (unary_more s.stack.now s.depth s.op s.t c.if-depth-lt1.false) c.apply_unary.ensures ok
    (record { numbers = m.numbers; depth = omega (arith, m.depth) })
