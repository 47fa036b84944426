-- `front_limits::mark` meets its contract. The invariant: what is still to be written makes the array of the contract. Assumes nothing.
use Rattle.front_limits.proofs.Marking.{mark_first, mark_again, mark_end}
use Rattle.front_limits.proofs.mark.Goals as goal

pub loop-i-init : goal.loop-i-init
loop-i-init c = mark_first _ _ _ _ _ _ _ c.min-i-end.ensures

pub loop-i-preserved : goal.loop-i-preserved
loop-i-preserved c = mark_again _ _ _ _ _ _ c.loop-i.invariant c.loop-i-test.true c.flag.ensures

pub returns : goal.returns
returns c = mark_end _ _ _ _ _ _ c.loop-i.invariant c.loop-i-test.false
