-- `direct_expressions::evaluation::push` meets its contract: a full stack takes no number. Assumes nothing.
use Rattle.base_codes.specs.declared.fault.Fault.TheVariants.{NoExpression}
use native.Mathlib.Omega.{arith}
use Rattle.direct_expressions.proofs.StackLaws.{stopped, push_full, push_room, saying, kept}
use Rattle.direct_expressions.proofs.evaluation.push.Goals as goal

pub returns-then-depth-ge-ITEMS : goal.returns-then-depth-ge-ITEMS
returns-then-depth-ge-ITEMS c =
    stopped c.args.stack.now c.args.depth NoExpression c.requires
    (push_full c.args.stack.now c.args.depth c.args.v c.if-depth-ge-ITEMS.true)

pub returns : goal.returns
returns c =
    let m = c.requires in
    saying (push_room c.args.stack.now c.args.depth c.args.v c.if-depth-ge-ITEMS.false)
    (kept c.args.stack.now c.args.depth c.args.v c.ranges.v
    (record { numbers = m.numbers; depth = omega (arith, c.if-depth-ge-ITEMS.false) }))
