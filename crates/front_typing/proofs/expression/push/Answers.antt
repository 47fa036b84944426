-- `front_typing::expression::push` meets its contract: one type more, where there is room. Assumes nothing.
use Rattle.front_typing.proofs.StackLaws.{push_room, push_full}
use Rattle.front_typing.proofs.expression.push.Goals as goal

pub returns-then-depth-lt-ITEMS : goal.returns-then-depth-lt-ITEMS
returns-then-depth-lt-ITEMS c = push_room c.args.stack.now c.args.depth c.args.t c.args.lowest c.requires c.if-depth-lt-ITEMS.true

pub returns : goal.returns
returns c = push_full c.args.stack.now c.args.depth c.args.t c.args.lowest c.requires c.if-depth-lt-ITEMS.false
