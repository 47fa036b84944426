use mathlib.Core.Path.{◌≡◌}
use lib.ListN.{length, take}
use Rattle.spec_semantics.specs.Records.{pad}
use Rattle.image_checks.specs.Places.{initials_at}
use Rattle.image_checks.proofs.states.fill.Given as goal

abbrev pub invariant-loop-k : goal.invariant-loop-k
invariant-loop-k l = take l.k l.slots ≡ take l.k (pad (length l.initial.slots) (initials_at l.signature l.at l.n))
