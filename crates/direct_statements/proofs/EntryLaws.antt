-- A body entered at a place by its number: started or resumed. Assumes nothing.
use Prim.Native.Nat.{ℕ}
use mathlib.Core.Path.{◌≡◌}
use mathlib.Core.Bool.{true, ◌||◌}
use mathlib.Core.List.{List}
use borrow.Author.Tests.{eq-eqb, ne_eqb}
use lib.IntN.{ℤ}
use lib.Dec.{eqb}
use Rattle.spec_design.specs.Statement.{Stmt, has}
use Rattle.spec_semantics.specs.Equations.{Run, start, resume, enter}
use Rattle.spec_semantics.proofs.Basic.{or_other}
use Rattle.spec_semantics.specs.DirectRow.{place_for}
use Rattle.direct_statements.specs.Standing.{Stands}
use Rattle.direct_statements.specs.declared.Progress.{Progress}

module _ (s : Stmt) (n : ℕ) (i : List ℤ) (σ : Run) (r : Progress) (o v : List ℤ) where
  pub enter_starts : n ≡ 512 → Stands (start s 0 i σ) r o v → Stands (enter s (place_for n) i σ) r o v
  unfolding enter place_for
  enter_starts h k = rw (eq-eqb n 512 h) k

  pub enter_resumes : (n ≡ 512 → ⊥) → Stands (resume s 0 n i σ) r o v → Stands (enter s (place_for n) i σ) r o v
  unfolding enter place_for
  enter_resumes h k = rw (ne_eqb n 512 h) k

pub place_wait : (s : Stmt) (n : ℕ) → (n ≡ 512 → ⊥) → (eqb n 512 || has s 0 n) ≡ true → has s 0 n ≡ true
place_wait s n h e = or_other (eqb n 512) (has s 0 n) (ne_eqb n 512 h) e
