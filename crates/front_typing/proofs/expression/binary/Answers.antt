-- `front_typing::expression::binary` meets its contract: the right operand lies on top, the left one below it. Assumes nothing.
use Rattle.front_typing.proofs.StackLaws.{binary_none, binary_some}
use mathlib.Core.Path.{◌∙◌}
use Rattle.front_typing.proofs.expression.binary.Goals as goal

pub returns-then-depth-le1 : goal.returns-then-depth-le1
returns-then-depth-le1 c =
    binary_none c.args.stack.now c.args.depth c.args.c c.args.place c.args.lowest c.requires
    c.if-depth-le1.true

pub returns : goal.returns
returns c =
    let s = c.args in
    let asked = c.requires in
    let if1 = c.if-depth-le1 in
    let binary = c.binary-r in
    let right-two = c.right_two in
    binary_some s.stack.now s.depth s.c s.place s.lowest binary.result c.lower.result (asked) if1.false binary.ensures
    (c.lower.ensures ∙ rw (c.offence-wrong.ensures, right-two.ensures))
