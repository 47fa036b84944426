use Prim.Native.Nat.{◌≤◌}
use mathlib.Core.Path.{◌≡◌}
use lib.ListN.{length, take}
use Rattle.spec_semantics.specs.Records.{pad}
use Rattle.direct_cycle.proofs.calls.fill.Given as goal

abbrev pub invariant-loop-k : goal.invariant-loop-k
invariant-loop-k l = (length l.slots ≡ length l.initial.slots) × (l.k ≤ length l.initial.slots) × (take l.k l.slots ≡ take l.k (pad (length l.initial.slots) l.values))
