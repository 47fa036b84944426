-- `image_flow::reaches::sweep` meets its contract. The invariant: the rest of the sweep from here stores what the whole sweep stores. Assumes nothing.
use Rattle.image_flow.proofs.ReachesLaws.{sweeping_next, sweeping_end}
use Rattle.image_flow.proofs.reaches.sweep.Goals as goal

pub loop-j-preserved : goal.loop-j-preserved
loop-j-preserved c =
    sweeping_next _ _ _ _ _ _ _ _ c.loop-j-test.true c.loop-j.invariant c.reach_at-v.ensures

pub returns : goal.returns
returns c = sweeping_end _ _ _ _ _ _ _ c.loop-j-test.false c.loop-j.invariant
