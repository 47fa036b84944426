use Prim.Native.Nat.{◌-◌}
use lib.ListN.{length}
use Rattle.trace_lines.proofs.FillLaws.{Filling}
use Rattle.trace_lines.proofs.fill_opened.Given as goal

abbrev pub invariant-loop-at : goal.invariant-loop-at
invariant-loop-at l = Filling l.image l.rows l.initial.q l.initial.out l.q l.out l.size

abbrev pub decreases-loop-at : goal.decreases-loop-at
decreases-loop-at l = length l.rows - l.q.at
