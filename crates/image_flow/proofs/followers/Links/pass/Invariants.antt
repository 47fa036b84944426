use Rattle.std.proofs.Common.{◌≡◌}
use Rattle.image_flow.specs.Followers.{followed}
use Rattle.image_flow.proofs.followers.Links.pass.Given as goal

abbrev pub invariant-loop-j : goal.invariant-loop-j
invariant-loop-j l = l.self ≡ followed l.rows 0 l.j l.initial.self
