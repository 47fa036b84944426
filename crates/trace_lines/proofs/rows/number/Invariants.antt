use mathlib.Core.Path.{◌≡◌}
use Prim.Native.Nat.{◌≤◌}
use lib.ListN.{drop}
use Rattle.trace_lines.specs.Rows.{digits, magnitude}
use Rattle.trace_lines.specs.Reading.{cut}
use Rattle.trace_lines.proofs.rows.number.Given as goal

abbrev pub invariant-loop-b : goal.invariant-loop-b
invariant-loop-b l = (l.v ≤ 2147483649) × (cut (digits l.v (drop l.b-index l.w)) ≡ cut (magnitude l.w))
