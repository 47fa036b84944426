use Prim.Native.Nat.{◌+◌, ◌*◌, ◌-◌}
use mathlib.Core.Path.{◌≡◌}
use lib.ListN.{drop}
use Rattle.image_checks.specs.Places.{slots_at}
use Rattle.image_checks.proofs.states.slots_ok.Given as goal

abbrev pub invariant-loop-k : goal.invariant-loop-k
invariant-loop-k l = slots_at l.signature (l.at + 5 * l.k) (l.n - l.k) (drop l.k l.slots) ≡ slots_at l.signature l.at l.n l.slots
