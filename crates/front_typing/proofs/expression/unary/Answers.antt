-- `front_typing::expression::unary` meets its contract: the operand lies on top. Assumes nothing.
use Rattle.front_typing.proofs.StackLaws.{unary_none, unary_some}
use mathlib.Core.Path.{◌∙◌}
use Rattle.front_typing.proofs.expression.unary.Goals as goal

pub returns-then-depth-lt1 : goal.returns-then-depth-lt1
returns-then-depth-lt1 c =
    unary_none c.args.stack.now c.args.depth c.args.c c.args.place c.args.lowest c.requires
    c.if-depth-lt1.true

pub returns : goal.returns
returns c =
    let s = c.args in
    let asked = c.requires in
    let if1 = c.if-depth-lt1 in
    let unary = c.unary_type-r in
    let right-one = c.right_one in
    unary_some s.stack.now s.depth s.c s.place s.lowest unary.result c.lower.result (asked) if1.false unary.ensures
    (c.lower.ensures ∙ rw (c.offence-wrong.ensures, right-one.ensures))
