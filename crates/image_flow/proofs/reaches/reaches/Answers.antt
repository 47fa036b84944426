-- `image_flow::reaches::reaches` meets its contract. The invariant: the sweeps left from here store what as many sweeps as lines store. Assumes nothing.
use Rattle.std.proofs.Common.{◌∙◌, ◌-◌, ◌+◌, List, ℕ, ap}
use Rattle.image_flow.specs.Reaches.{sweeps}
use Rattle.image_flow.proofs.ReachesLaws.{sweeps_next, sweeps_end, sweeps_cut}
use Rattle.image_flow.proofs.reaches.reaches.Goals as goal

pub loop-k-preserved : goal.loop-k-preserved
loop-k-preserved c =
    let a = c.args in
    ap (λ (q : List ℕ). sweeps a.rows.now a.links.now a.n (a.n - (c.loop-k._k + 1)) q) c.sweep.ensures.are
    ∙ sweeps_next a.rows.now a.links.now a.n c.loop-k._k c.loop-k.reaches c.loop-k-test.true ∙ c.loop-k.invariant

pub returns-then-not-sweep : goal.returns-then-not-sweep
returns-then-not-sweep c =
    sweeps_cut _ _ _ _ _ _ _ c.requires c.sweep.ensures.are (c.sweep.ensures.still c.if-not-sweep.true) c.loop-k.invariant

pub returns : goal.returns
returns c = sweeps_end _ _ _ _ _ _ c.requires c.loop-k-test.false c.loop-k.invariant
