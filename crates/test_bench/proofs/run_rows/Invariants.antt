use mathlib.Core.Path.{◌≡◌}
use Prim.Native.Nat.{◌-◌}
use lib.ListN.{length}
use Rattle.test_bench.proofs.RowLaws.{Rest}
use Rattle.test_bench.proofs.run_rows.Given as goal

abbrev pub invariant-loop-i : goal.invariant-loop-i
invariant-loop-i g l = (length l.row ≡ length l.initial.row) × Rest (g.C.Cycles.cycle l.cycles) l.inputs l.width
    l.initial.p.state l.count l.initial.row l.from (l.count - l._i) l.p l.row
