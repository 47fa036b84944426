-- `front_typing::expression::item` meets its contract: an operand, an operator of one operand or of two, by its code. Assumes nothing.
use Rattle.base_codes.specs.Stack.{stack_of}
use Rattle.front_typing.specs.Expressions.{sources_of, name_at, place_at}
use Rattle.front_typing.proofs.StackLaws.{step_operand, step_unary, step_binary}
use Rattle.front_typing.proofs.expression.item.Goals as goal

pub push-requires : goal.push-requires
push-requires c = c.requires

pub returns-then-operands-eq0 : goal.returns-then-operands-eq0
returns-then-operands-eq0 c =
    let s = c.args in
    step_operand s.c (name_at (sources_of s.tree.now) s.i) (place_at (sources_of s.tree.now) s.i)
    c.operand_type-t.result c.operands-operands.result
    (stack_of 0 s.stack.now s.p.depth) s.p.lowest c.operands-operands.ensures c.if-operands-eq0.true
    c.operand_type-t.ensures c.push.ensures

pub unary-requires : goal.unary-requires
unary-requires c = c.requires

pub returns-then-operands-eq1 : goal.returns-then-operands-eq1
returns-then-operands-eq1 c =
    let s = c.args in
    step_unary s.c (name_at (sources_of s.tree.now) s.i) (place_at (sources_of s.tree.now) s.i)
    c.place-place.result c.operands-operands.result
    (stack_of 0 s.stack.now s.p.depth) s.p.lowest c.operands-operands.ensures
    c.if-operands-eq0.false c.if-operands-eq1.true c.place-place.ensures c.unary.ensures

pub binary-requires : goal.binary-requires
binary-requires c = c.requires

pub returns : goal.returns
returns c =
    let s = c.args in
    step_binary s.c (name_at (sources_of s.tree.now) s.i) (place_at (sources_of s.tree.now) s.i)
    c.place-place.result c.operands-operands.result
    (stack_of 0 s.stack.now s.p.depth) s.p.lowest c.operands-operands.ensures
    c.if-operands-eq0.false c.if-operands-eq1.false c.place-place.ensures c.binary.ensures
