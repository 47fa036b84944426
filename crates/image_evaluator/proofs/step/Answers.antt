-- `image_evaluator::step` meets its contract: the tests of the first byte are those of the definition. Assumes nothing.
use mathlib.Core.Path.{◌≡◌, sym, ◌∙◌}
use Rattle.base_codes.specs.Operation.{width_of}
use Rattle.image_evaluator.specs.Position.{integer_at, bit_at}
use Rattle.image_evaluator.specs.Value.{types_for}
use Rattle.image_evaluator.specs.Operators.{operators, leaf_of, named_at}
use Rattle.image_evaluator.specs.Stack.{cells_of}
use Rattle.image_evaluator.proofs.OperandLaws.{at_int, at_bit, at_input, at_variable}
use Rattle.image_evaluator.proofs.OperatorLaws.{at_unary, at_binary}
use Rattle.image_evaluator.proofs.StackLaws.{saying}
use Rattle.image_evaluator.proofs.step.Goals as goal

pub returns-then-op-eq-INTEGER : goal.returns-then-op-eq-INTEGER
unfolding width_of
returns-then-op-eq-INTEGER c =
    let s = c.args in
    let st = cells_of s.stack.now.values s.stack.now.tags s.depth in
    let w : c.width.result ≡ 5 = c.width.ensures.value in
    saying (at_int s.inputs.now.kinds.now s.variables.now.kinds.now s.inputs.now.values.now s.variables.now.values.now s.code.now s.at st
    c.if-op-eq-INTEGER.true)
    (rw w at (c.push.ensures (leaf_of operators (integer_at s.code.now s.at)) c.integer-e.ensures))

pub returns-then-op-eq-STD_LOGIC : goal.returns-then-op-eq-STD_LOGIC
unfolding width_of
returns-then-op-eq-STD_LOGIC c =
    let s = c.args in
    let st = cells_of s.stack.now.values s.stack.now.tags s.depth in
    let w : c.width-then-op-eq-STD_LOGIC.result ≡ 2 = c.width-then-op-eq-STD_LOGIC.ensures.value in
    saying (at_bit s.inputs.now.kinds.now s.variables.now.kinds.now s.inputs.now.values.now s.variables.now.values.now s.code.now s.at st
    c.if-op-eq-STD_LOGIC.true)
    (rw w at (c.push-then-op-eq-STD_LOGIC.ensures (leaf_of operators (bit_at s.code.now s.at)) c.bit-e.ensures))

pub returns-then-op-eq-INPUT : goal.returns-then-op-eq-INPUT
unfolding width_of
returns-then-op-eq-INPUT c =
    let s = c.args in
    let st = cells_of s.stack.now.values s.stack.now.tags s.depth in
    let w : c.width-then-op-eq-INPUT.result ≡ 2 = c.width-then-op-eq-INPUT.ensures.value in
    saying (at_input s.inputs.now.kinds.now s.variables.now.kinds.now s.inputs.now.values.now s.variables.now.values.now s.code.now s.at st
    c.if-op-eq-INPUT.true)
    (rw w at (c.push-then-op-eq-INPUT.ensures (named_at s.code.now s.at (types_for s.inputs.now.kinds.now) s.inputs.now.values.now)
    c.named-e.ensures))

pub returns-then-op-eq-VARIABLE : goal.returns-then-op-eq-VARIABLE
unfolding width_of
returns-then-op-eq-VARIABLE c =
    let s = c.args in
    let st = cells_of s.stack.now.values s.stack.now.tags s.depth in
    let w : c.width-then-op-eq-VARIABLE.result ≡ 2 = c.width-then-op-eq-VARIABLE.ensures.value in
    saying (at_variable s.inputs.now.kinds.now s.variables.now.kinds.now s.inputs.now.values.now s.variables.now.values.now s.code.now s.at st
    c.if-op-eq-VARIABLE.true)
    (rw w at (c.push-then-op-eq-VARIABLE.ensures (named_at s.code.now s.at (types_for s.variables.now.kinds.now) s.variables.now.values.now)
    c.named-e-then-op-eq-VARIABLE.ensures))

pub returns-then-operands-eq1 : goal.returns-then-operands-eq1
returns-then-operands-eq1 c =
    let s = c.args in
    let st = cells_of s.stack.now.values s.stack.now.tags s.depth in
    saying
    (at_unary s.inputs.now.kinds.now s.variables.now.kinds.now s.inputs.now.values.now s.variables.now.values.now s.at s.code.now st
    c.if-op-eq-INTEGER.false c.if-op-eq-STD_LOGIC.false
    c.if-op-eq-INPUT.false c.if-op-eq-VARIABLE.false
    (sym c.operands.ensures ∙ c.if-operands-eq1.true))
    c.apply_unary.ensures

pub returns : goal.returns
returns c =
    let s = c.args in
    let st = cells_of s.stack.now.values s.stack.now.tags s.depth in
    saying
    (at_binary s.inputs.now.kinds.now s.variables.now.kinds.now s.inputs.now.values.now s.variables.now.values.now s.at s.code.now st
    c.if-op-eq-INTEGER.false c.if-op-eq-STD_LOGIC.false
    c.if-op-eq-INPUT.false c.if-op-eq-VARIABLE.false
    (λ z. c.if-operands-eq1.false (c.operands.ensures ∙ z)))
    c.apply_binary.ensures
