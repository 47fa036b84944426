-- What a row of an accepted text's process can answer, without a method, and what holds of everything that is kept. Assumes nothing.
use Rattle.std.specs.Prelude.{◌≡◌, true, List, [], ◌∷◌, ℕ}
use Rattle.spec_design.specs.Statement.{Stmt, has}
use Rattle.spec_design.specs.Process.{Process}
use Rattle.spec_semantics.specs.Equations.{Memory, Run, reached, Place, beginning, at, cycle}
use Rattle.spec_semantics.specs.Rows.{Call, Kept, Outcome, performed, row_refused, operator_refused}
use Rattle.spec_semantics.specs.InputRow.{Meets14}
use Rattle.spec_semantics.specs.Refusal.{CycleFaults}
use Rattle.spec_semantics.specs.Values.{WellTyped}
use Rattle.spec_semantics.specs.Way.{Path}

-- a cycle's way is empty at first
abbrev pub fresh : Memory → Run
fresh m = record { way = []; memory = m }

-- outcome and what is kept after the call c on k: refused by 14 or by an operator's number, all as before the row, or performed, the cycle having reached the wait x
pub data Answers (p : Process) (k : Kept) (c : Call) : Outcome × Kept → Type 0 where
  by_14 : (x : ℕ) → Meets14 p c x → Answers p k c (row_refused x, k)
  by_operator : (q n : ℕ) → ((x : ℕ) → Meets14 p c x → ⊥) → CycleFaults c.inputs p.body k.place (fresh k.memory) q n
      → Answers p k c (operator_refused q n, k)
  performs : (x : ℕ) (τ : Run) → ((x : ℕ) → Meets14 p c x → ⊥) → cycle p.body k.place c.inputs (fresh k.memory) ≡ reached x τ
      → Path p.body τ.way
      → Answers p k c (performed τ.memory.outputs τ.way, record { place = at x; memory = τ.memory })

-- the place is the beginning or a wait of the body
unfoldable pub Placed : Stmt → Place → Type 0
Placed s beginning = Unit {0}
Placed s (at p) = has s 0 p ≡ true

-- what is kept: a place of the body, and outputs and variables of the declared numbers and types
pub record Invariant (p : Process) (k : Kept) : Type 0 where
  pub place : Placed p.body k.place
  pub well_typed : WellTyped p k.memory

-- every call is answered so, on what the call before has kept, and the invariant holds of what is kept
unfoldable pub AllAnswer : Process → Kept → List Call → List (Outcome × Kept) → Type 0
AllAnswer p k [] [] = Unit {0}
AllAnswer p k [] (r ∷ rs) = ⊥
AllAnswer p k (c ∷ cs) [] = ⊥
AllAnswer p k (c ∷ cs) (r ∷ rs) = Answers p k c r × Invariant p r.1 × AllAnswer p r.1 cs rs
