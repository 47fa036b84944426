use Prim.Native.Nat.{◌≤◌}
use mathlib.Core.Path.{◌≡◌}
use lib.ListN.{length, drop}
use Rattle.direct_cycle.specs.Checks.{slots_in}
use Rattle.direct_cycle.proofs.checks.slots_right.Given as goal

abbrev pub invariant-loop-k : goal.invariant-loop-k
invariant-loop-k l = (l.k ≤ length l.slots) × (slots_in (drop l.k l.types) (drop l.k l.slots) ≡ slots_in l.types l.slots)
