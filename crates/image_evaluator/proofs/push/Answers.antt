-- `image_evaluator::push` meets its contract: a full stack takes no value. Assumes nothing.
use Rattle.base_codes.specs.declared.fault.Fault.TheVariants.{NoExpression}
use Rattle.image_evaluator.proofs.StackLaws.{stopped, push_full, push_room, saying}
use Rattle.image_evaluator.proofs.push.Goals as goal

pub returns-then-depth-ge-ITEMS : goal.returns-then-depth-ge-ITEMS
returns-then-depth-ge-ITEMS c =
    let s = c.args in
    λ o q. stopped s.stack.now.values s.stack.now.tags s.depth NoExpression c.requires
    (push_full s.stack.now.values s.stack.now.tags s.depth s.at o c.if-depth-ge-ITEMS.true)

pub keep-requires : goal.keep-requires
keep-requires c = (c.requires, c.if-depth-ge-ITEMS.false)

pub returns : goal.returns
returns c =
    let s = c.args in
    λ o q. saying (push_room s.stack.now.values s.stack.now.tags s.depth s.at o c.if-depth-ge-ITEMS.false) (c.keep.ensures o q)
