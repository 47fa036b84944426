use Prim.Native.Nat.{ℕ, ◌≤◌, ◌<◌, ◌-◌}
use mathlib.Core.Path.{◌≡◌}
use mathlib.Core.Bool.{true}
use mathlib.Core.List.{List}
use lib.IntN.{ℤ}
use Rattle.spec_design.specs.Statement.{Stmt, has}
use Rattle.base_ir.specs.Entries.{Block}
use Rattle.direct_statements.specs.Holding.{HeldIn}
use Rattle.direct_statements.proofs.ResumeLaws.{Later}
use Rattle.direct_statements.proofs.blocks.part.Given as goal

abbrev pub invariant-loop-at : goal.invariant-loop-at
invariant-loop-at l = (l.first ≤ l.at) × ((l.at < 65536) × ((codes : List ℕ) (args : List ℤ) (s : Stmt) → HeldIn codes args l.rows s l.first l.end → Block s → has s l.first l.place ≡ true
    → Later codes args l.rows s l.first l.end l.place l.at))

abbrev pub decreases-loop-at : goal.decreases-loop-at
decreases-loop-at l = l.end - l.at
