use mathlib.Core.Path.{◌≡◌}
use Prim.Native.Nat.{◌≤◌, max}
use lib.ListN.{length}
use Rattle.trace_lines.specs.Reading.{part_end}
use Rattle.trace_lines.proofs.rows.part_end.Given as goal

abbrev pub invariant-loop-i : goal.invariant-loop-i
invariant-loop-i l = (l.i ≤ max (length l.s) l.at) × (part_end l.c l.s l.i ≡ part_end l.c l.s l.at)
