-- `front_elaborator::items::place` meets its contract. The invariant: the rest from here stores what the whole stores. Assumes nothing.
use Rattle.std.proofs.Common.{ap, set}
use Rattle.front_elaborator.proofs.ItemLoop.{placing_first, placing_again, placing_last}
use Rattle.front_elaborator.proofs.items.place.Goals as goal

pub loop-j-init : goal.loop-j-init
loop-j-init c = placing_first _ _ _ _ _

pub loop-j-preserved : goal.loop-j-preserved
loop-j-preserved c =
    placing_again _ _ _ _ _ c.loop-j-test.true (ap (set c.loop-j.ops c.loop-j.j) c.put.ensures.op_after)
    (ap (set c.loop-j.args c.loop-j.j) c.put.ensures.arg_after) c.loop-j.invariant

pub returns : goal.returns
returns c = placing_last _ _ _ _ _ _ c.min-j-end.ensures c.loop-j-test.false c.loop-j.invariant
