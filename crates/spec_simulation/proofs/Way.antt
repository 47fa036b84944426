-- The way of a cycle of the equations is bounded by the reach of the first line that the table performs: the table's cycle is the same, and there
-- the reach falls from line to line. Assumes nothing.
use Prim.Native.Nat.{ℕ, suc, ◌≤◌, ◌<◌}
use native.Mathlib.Omega.{arith}
use mathlib.Core.Path.{◌≡◌, refl}
use mathlib.Core.Logic.{◌⊎◌, inl, inr}
use mathlib.Core.List.{List, []}
use lib.ListN.{length}
use lib.IntN.{ℤ}
use Rattle.spec_design.specs.Statement.{Stmt, size, C, class_of, LoopsC}
use Rattle.spec_semantics.specs.Equations.{Run, Result, reached, Place, beginning, at, cycle}
use Rattle.spec_semantics.specs.Answer.{Placed}
use Rattle.spec_semantics.proofs.Results.{size_pos, has_below}
use Rattle.spec_format.specs.Lines.{lines_of, reach, reaches_of}
use Rattle.spec_format.specs.Walk.{from}
use Rattle.spec_semantics.specs.Records.{number}
use Rattle.spec_simulation.specs.Walked.{Walked, waits_at, refuses_at}
use Rattle.spec_simulation.proofs.Lines.{lines_of_length}
use Rattle.spec_simulation.proofs.Reaches.{lines_of_ranked}
use Rattle.spec_simulation.proofs.Cycle.{one_cycle}
use Rattle.spec_simulation.proofs.Walked.{cycle_walked}

-- the number of a place is 512 or a line
place_number : (s : Stmt) (q : Place) → Placed s q → (number q ≡ 512) ⊎ (number q < length (lines_of s))
unfolding Placed
place_number s beginning v = inl refl
place_number s (at p) v = inr (rw lines_of_length (omega (arith, has_below s 0 p v)))

-- A cycle of the equations comes to what a cycle over ranked lines comes to.
pub cycle_walks : (s : Stmt) → class_of s ≡ C → LoopsC s → size s ≤ 512 → (q : Place) → Placed s q → (i : List ℤ) (σ : Run) → σ.way ≡ []
    → Walked (lines_of s) (reaches_of s) (from (lines_of s) (number q)) (cycle s q i σ)
cycle_walks s c g z q v i σ e =
    rw (one_cycle s c g z q v i σ) at
    (cycle_walked (lines_of s) (reaches_of s) (lines_of_ranked s c g) i (rw lines_of_length (size_pos s)) (number q) (place_number s q v) σ e)

-- The way of a cycle is "bounded by the follower's reach plus one". It has numbers of statements, none twice: see `cycle_way` of semantics.
pub cycle_bound : (s : Stmt) → class_of s ≡ C → LoopsC s → size s ≤ 512 → (q : Place) → Placed s q → (i : List ℤ) (σ τ : Run) (p : ℕ) → σ.way ≡ []
    → cycle s q i σ ≡ reached p τ → length τ.way ≤ suc (reach (reaches_of s) (from (lines_of s) (number q)))
cycle_bound s c g z q v i σ τ p e h = go (cycle s q i σ) h (cycle_walks s c g z q v i σ e)
  where
    go : (r : Result) → r ≡ reached p τ → Walked (lines_of s) (reaches_of s) (from (lines_of s) (number q)) r
        → length τ.way ≤ suc (reach (reaches_of s) (from (lines_of s) (number q)))
    go r y (waits_at p' ρ w k a b) = let same : ρ ≡ τ = cc in rw same at b.short
    go r y (refuses_at q n o k) = absurd (let u : ◌≡◌ {A = ℕ} 0 1 = cc in omega arith)
