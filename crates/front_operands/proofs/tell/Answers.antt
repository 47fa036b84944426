-- `front_operands::tell` meets its contract. The invariant: those before here are told, and the rest is told as the whole is. Assumes nothing.
use Rattle.std.proofs.Common.{refl, ap, set}
use Rattle.front_operands.proofs.TellLoop.{telling_first, telling_step, telling_last}
use Rattle.front_operands.proofs.tell.Goals as goal

pub loop-j-init : goal.loop-j-init
loop-j-init c = telling_first _ _ _ _ _

pub loop-j-preserved : goal.loop-j-preserved
loop-j-preserved c =
    telling_step _ _ _ _ _ _ _ _ c.loop-j-test.true refl c.told-t.ensures.value
    (ap (set c.loop-j.args c.loop-j.j) c.told-t.ensures.arg_after) c.loop-j.invariant

pub returns : goal.returns
returns c = telling_last _ _ _ _ _ _ _ _ _ c.min-j-end.ensures c.loop-j-test.false c.loop-j.invariant
