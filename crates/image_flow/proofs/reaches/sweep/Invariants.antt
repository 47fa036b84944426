use Rattle.image_flow.proofs.ReachesLaws.{Sweeping}
use Rattle.image_flow.proofs.reaches.sweep.Given as goal

abbrev pub invariant-loop-j : goal.invariant-loop-j
invariant-loop-j l = Sweeping l.rows l.links l.n l.j l.initial.reaches l.reaches l.changed
