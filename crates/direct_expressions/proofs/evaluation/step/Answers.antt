-- `direct_expressions::evaluation::step` meets its contract: the tests of the code are those of the definition. Assumes nothing.
use mathlib.Core.Path.{◌≡◌, sym, ◌∙◌}
use lib.ListN.{get_or}
use lib.IntN.{pos}
use mir.Syntax.{w32}
use mir.Val.{SFits}
use mir.Facts.{to_z-of_z}
use Rattle.spec_semantics.specs.Twos.{unsigned32}
use Rattle.direct_expressions.specs.Machine.{kind_of}
use Rattle.base_codes.specs.Stack.{stack_of}
use Rattle.direct_expressions.proofs.StackLaws.{saying, step_literal, step_input, step_variable, step_unary, step_binary}
use borrow.Author.Rules.{rules}
use Rattle.direct_expressions.proofs.evaluation.step.Goals as goal

pub returns-then-op-lt-INPUT : goal.returns-then-op-lt-INPUT
returns-then-op-lt-INPUT c =
    let s = c.args in
    saying (step_literal s.inputs.now s.variables.now s.op s.arg (stack_of (pos 0) s.stack.now s.depth) c.if-op-lt-INPUT.true)
    (rw (to_z-of_z c.ranges.arg) at c.push.ensures)

pub returns-then-op-eq-INPUT : goal.returns-then-op-eq-INPUT
returns-then-op-eq-INPUT c =
    let s = c.args in
    let e : c.named.result ≡ get_or s.inputs.now (unsigned32 s.arg) (pos 0) =
    rw (to_z-of_z c.ranges.arg) at c.named.ensures in
    let fit : SFits w32 c.named.result = search rules in
    saying (step_input s.inputs.now s.variables.now s.op s.arg (stack_of (pos 0) s.stack.now s.depth)
    c.if-op-eq-INPUT.true)
    (rw e at (rw (to_z-of_z fit) at c.push-then-op-eq-INPUT.ensures))

pub returns-then-op-eq-VARIABLE : goal.returns-then-op-eq-VARIABLE
returns-then-op-eq-VARIABLE c =
    let s = c.args in
    let e : c.named-then-op-eq-VARIABLE.result ≡ get_or s.variables.now (unsigned32 s.arg) (pos 0) =
    rw (to_z-of_z c.ranges.arg) at c.named-then-op-eq-VARIABLE.ensures in
    let fit : SFits w32 c.named-then-op-eq-VARIABLE.result = search rules in
    saying (step_variable s.inputs.now s.variables.now s.op s.arg (stack_of (pos 0) s.stack.now s.depth)
    c.if-op-eq-VARIABLE.true)
    (rw e at (rw (to_z-of_z fit) at c.push-then-op-eq-VARIABLE.ensures))

pub returns-then-operands-eq1 : goal.returns-then-operands-eq1
returns-then-operands-eq1 c =
    let s = c.args in
    let k : c.kind.result ≡ kind_of s.arg =
    rw (to_z-of_z c.ranges.arg) at c.kind.ensures in
    saying (step_unary s.inputs.now s.variables.now s.op s.arg (stack_of (pos 0) s.stack.now s.depth)
    c.if-op-lt-INPUT.false c.if-op-eq-INPUT.false
    c.if-op-eq-VARIABLE.false
    (sym c.operands.ensures ∙ c.if-operands-eq1.true))
    (rw k at c.apply_unary.ensures)

pub returns : goal.returns
returns c =
    let s = c.args in
    let k : c.kind-2.result ≡ kind_of s.arg =
    rw (to_z-of_z c.ranges.arg) at c.kind-2.ensures in
    saying (step_binary s.inputs.now s.variables.now s.op s.arg (stack_of (pos 0) s.stack.now s.depth)
    c.if-op-lt-INPUT.false c.if-op-eq-INPUT.false
    c.if-op-eq-VARIABLE.false
    (λ z. c.if-operands-eq1.false (c.operands.ensures ∙ z)))
    (rw k at c.apply_binary.ensures)
