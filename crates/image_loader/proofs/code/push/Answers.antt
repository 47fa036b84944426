-- `image_loader::code::push` meets its contract: a tag that there is goes on top. Assumes nothing.
use Rattle.image_loader.proofs.Stack.{push_some}
use Rattle.image_loader.proofs.code.push.Goals as goal

pub returns : goal.returns
returns c =
    let e = c.in_ok-stack.was in
    rw e (push_some c.in_ok-stack.field-0 c.args.depth c.args.stack.now c.requires.depth_bound c.requires.stack_len)
