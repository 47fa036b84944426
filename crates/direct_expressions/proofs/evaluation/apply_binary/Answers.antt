-- `direct_expressions::evaluation::apply_binary` meets its contract: the right operand is the last number, the left one lies below it. Assumes nothing.
use Rattle.std.proofs.Common.{rules, ◌≡◌}
use Rattle.std.specs.Prelude.{Err, IsOk}
use Rattle.base_codes.specs.declared.fault.Fault.TheVariants.{NoExpression}
use Prim.Native.Nat.{◌+◌, ◌-◌}
use native.Mathlib.Omega.{arith}
use lib.ListN.{get_or}
use lib.IntN.{pos}
use Rattle.base_operators.specs.Operators.{binary_on}
use Rattle.direct_expressions.proofs.StackLaws.{stopped, binary_short, binary_more, went, halted}
use Rattle.direct_expressions.proofs.evaluation.apply_binary.Goals as goal

pub returns-then-depth-le1 : goal.returns-then-depth-le1
returns-then-depth-le1 c =
    stopped c.args.stack.now c.args.depth NoExpression c.requires
    (binary_short c.args.stack.now c.args.depth c.args.op c.args.t c.if-depth-le1.true)

pub returns-in_err-apply_binary : goal.returns-in_err-apply_binary
returns-in_err-apply_binary c =
    let s = c.args in
    let m = c.requires in
    let i = s.depth - 1 - 1 in
    let e : s.depth - 2 ≡ i = omega arith in
    let r : c.from_residual.result ≡ Err c.in_err-apply_binary.field-0.0 = search rules in
    rw r (halted c.in_err-apply_binary.field-0.0 (binary_on s.op s.t (get_or s.stack.now i (pos 0)) (get_or s.stack.now (i + 1) (pos 0))) s.stack.now i
    (rw e at (binary_more s.stack.now s.depth s.op s.t c.if-depth-le1.false)) c.apply_binary.ensures
    c.in_err-apply_binary.was
    (record { numbers = m.numbers; depth = omega (arith, m.depth) }))

pub returns : goal.returns
returns c =
    let s = c.args in
    let m = c.requires in
    let i = s.depth - 1 - 1 in
    let e : s.depth - 2 ≡ i = omega arith in
    let ok : IsOk c.apply_binary.result = search rules in
    went (binary_on s.op s.t (get_or s.stack.now i (pos 0)) (get_or s.stack.now (i + 1) (pos 0))) s.stack.now i
    (rw e at (binary_more s.stack.now s.depth s.op s.t c.if-depth-le1.false)) c.apply_binary.ensures
    ok
    (record { numbers = m.numbers; depth = omega (arith, m.depth) })
