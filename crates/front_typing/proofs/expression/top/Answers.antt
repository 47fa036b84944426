-- `front_typing::expression::top` meets its contract: the last of the elements in use. Assumes nothing.
use Rattle.front_typing.proofs.StackLaws.{top_none, top_some}
use Rattle.front_typing.proofs.expression.top.Goals as goal

pub returns-then-depth-lt1 : goal.returns-then-depth-lt1
returns-then-depth-lt1 c = top_none c.args.stack.now c.args.depth c.if-depth-lt1.true

pub returns : goal.returns
returns c = top_some c.args.stack.now c.args.depth c.if-depth-lt1.false
