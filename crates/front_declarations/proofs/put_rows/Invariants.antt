use Prim.Native.Nat.{◌+◌, ◌*◌, ◌-◌, ◌≤◌}
use Rattle.front_declarations.proofs.RowLists.{Storing}
use Rattle.front_declarations.proofs.put_rows.Given as goal

abbrev pub invariant-loop-k : goal.invariant-loop-k
invariant-loop-k l = (l.i ≤ l.k) × Storing l.g l.i l.j l.at l.initial.decls l.k (l.at + 2 * (l.k - l.i)) l.decls
