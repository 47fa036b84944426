use Rattle.std.proofs.Common.{◌≡◌, ◌-◌}
use Rattle.image_flow.specs.Reaches.{sweeps}
use Rattle.image_flow.proofs.reaches.reaches.Given as goal

abbrev pub invariant-loop-k : goal.invariant-loop-k
invariant-loop-k l = sweeps l.rows l.links l.n (l.n - l._k) l.reaches ≡ sweeps l.rows l.links l.n l.n l.initial.reaches
