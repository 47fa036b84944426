-- `front_offences::lowest_below` meets its contract, by the law of a loop that keeps the lowest so far. Assumes nothing.
use Rattle.front_offences.proofs.Loops.{running_first, running_again, running_stop}
use Rattle.front_offences.proofs.lowest_below.Goals as goal

pub loop-j-init : goal.loop-j-init
loop-j-init g c = λ f h. running_first f _

pub loop-j-preserved : goal.loop-j-preserved
loop-j-preserved g c = λ f h. running_again f _ _ _ _ _ c.loop-j-test.true (h _ c.loop-j-test.true _ c.offence_at.ensures) c.lower-low.ensures (c.loop-j.invariant f h)

pub returns : goal.returns
returns g c = λ f h. running_stop f _ _ _ c.loop-j-test.false (c.loop-j.invariant f h)
