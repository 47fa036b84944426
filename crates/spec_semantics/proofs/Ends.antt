-- A cycle ends at a wait of the body or an operator is refused: by induction on the statement, class C being never passed when started. Assumes nothing.
use Prim.Native.Nat.{ℕ, suc, ◌+◌}
use mathlib.Core.Path.{◌≡◌, refl}
use mathlib.Core.Bool.{Bool, true, false}
use mathlib.Core.List.{List}
use lib.IntN.{ℤ}
use Rattle.spec_design.specs.Expression.{Out, fine, fault}
use Rattle.spec_design.specs.Statement.{Stmt, act, wait, if_then, if_else, while, seq, size, has, C, class_of}
use Rattle.spec_semantics.specs.Equations.{Memory, Run, Result, passed, reached, refused, then, acted, tested, pick, start, resume, Place, beginning, at}
use Rattle.spec_semantics.specs.Equations.{enter, cycle}
use Rattle.spec_semantics.specs.Way.{Ended, at_wait, at_operator}
use Rattle.spec_semantics.proofs.Basic.{eqb_same, or_left, or_right}
use Rattle.spec_semantics.proofs.Results.{then_passed, C_stops}

-- where a wait is reached, P holds of its number
abbrev Reaches : (ℕ → Type 0) → Result → Type 0
Reaches P (passed σ) = Unit {0}
Reaches P (reached p σ) = P p
Reaches P (refused q n) = Unit {0}

module _ (P : ℕ → Type 0) where
  reaches_then : (r : Result) (k : Run → Result) → Reaches P r → ((τ : Run) → Reaches P (k τ)) → Reaches P (then r k)
  unfolding then
  reaches_then (passed σ) k h hk = hk σ
  reaches_then (reached p σ) k h hk = h
  reaches_then (refused q n) k h hk = h

  reaches_tested : (v : Out Bool) (n : ℕ) (σ : Run) (f g : Run → Result) → ((τ : Run) → Reaches P (f τ)) → ((τ : Run) → Reaches P (g τ))
      → Reaches P (tested v n σ f g)
  unfolding tested
  reaches_tested (fine true) n σ f g hf hg = hf _
  reaches_tested (fine false) n σ f g hf hg = hg _
  reaches_tested (fault q) n σ f g hf hg = tt

  reaches_acted : (v : Out Memory) (n : ℕ) (σ : Run) → Reaches P (acted v n σ)
  unfolding acted
  reaches_acted (fine m) n σ = tt
  reaches_acted (fault q) n σ = tt

  reaches_pick : (b : Bool) (x y : Result) → Reaches P x → Reaches P y → Reaches P (pick b x y)
  unfolding pick
  reaches_pick true x y hx hy = hx
  reaches_pick false x y hx hy = hy

  start_reaches : (s : Stmt) (n : ℕ) → ((p : ℕ) → has s n p ≡ true → P p) → (i : List ℤ) (σ : Run) → Reaches P (start s n i σ)
  unfolding start has
  start_reaches (act a) n w i σ = reaches_acted _ n σ
  start_reaches wait n w i σ = w n (eqb_same n)
  start_reaches (if_then e a) n w i σ = reaches_tested _ n σ _ _ (λ τ. start_reaches a (suc n) w i τ) (λ τ. tt)
  start_reaches (if_else e a b) n w i σ =
      reaches_tested _ n σ _ _
      (λ τ. start_reaches a (suc n) (λ p h. w p (or_left _ _ h)) i τ)
      (λ τ. start_reaches b (suc n + size a) (λ p h. w p (or_right (has a (suc n) p) _ h)) i τ)
  start_reaches (while e b) n w i σ = reaches_tested _ n σ _ _ (λ τ. start_reaches b (suc n) w i τ) (λ τ. tt)
  start_reaches (seq a b) n w i σ =
      reaches_then _ _ (start_reaches a n (λ p h. w p (or_left _ _ h)) i σ) (λ τ. start_reaches b (n + size a) (λ p h. w p (or_right (has a n p) _ h)) i τ)

  resume_reaches : (s : Stmt) (n : ℕ) → ((p : ℕ) → has s n p ≡ true → P p) → (q : ℕ) (i : List ℤ) (σ : Run) → Reaches P (resume s n q i σ)
  unfolding resume has
  resume_reaches (act a) n w q i σ = tt
  resume_reaches wait n w q i σ = tt
  resume_reaches (if_then e a) n w q i σ = resume_reaches a (suc n) w q i σ
  resume_reaches (if_else e a b) n w q i σ =
      reaches_pick _ _ _
      (resume_reaches a (suc n) (λ p h. w p (or_left _ _ h)) q i σ)
      (resume_reaches b (suc n + size a) (λ p h. w p (or_right (has a (suc n) p) _ h)) q i σ)
  resume_reaches (while e b) n w q i σ = reaches_then _ _ (resume_reaches b (suc n) w q i σ) (λ τ. start_reaches (while e b) n w i τ)
  resume_reaches (seq a b) n w q i σ =
      reaches_pick _ _ _
      (reaches_then _ _ (resume_reaches a n (λ p h. w p (or_left _ _ h)) q i σ) (λ τ. start_reaches b (n + size a) (λ p h. w p (or_right (has a n p) _ h)) i τ))
      (resume_reaches b (n + size a) (λ p h. w p (or_right (has a n p) _ h)) q i σ)

enter_reaches : (s : Stmt) (q : Place) (i : List ℤ) (σ : Run) → Reaches (λ p. has s 0 p ≡ true) (enter s q i σ)
unfolding enter
enter_reaches s beginning i σ = start_reaches _ s 0 (λ p h. h) i σ
enter_reaches s (at p) i σ = resume_reaches _ s 0 (λ p h. h) p i σ

cycle_reaches : (s : Stmt) (q : Place) (i : List ℤ) (σ : Run) → Reaches (λ p. has s 0 p ≡ true) (cycle s q i σ)
unfolding cycle
cycle_reaches s q i σ = reaches_then _ _ _ (enter_reaches s q i σ) (λ τ. start_reaches _ s 0 (λ p h. h) i τ)

cycle_stops : (s : Stmt) → class_of s ≡ C → (q : Place) (i : List ℤ) (σ τ : Run) → cycle s q i σ ≡ passed τ → ⊥
unfolding cycle
cycle_stops s c q i σ τ e = let p = then_passed _ _ τ e in C_stops s c 0 i p.0 τ p.2

-- A cycle ends at a wait of the body, or an operator is refused; from any place.
pub cycle_ends : (s : Stmt) → class_of s ≡ C → (q : Place) (i : List ℤ) (σ : Run) → Ended s (cycle s q i σ)
cycle_ends s c q i σ = go (cycle s q i σ) refl (cycle_reaches s q i σ)
  where
    go : (r : Result) → cycle s q i σ ≡ r → Reaches (λ p. has s 0 p ≡ true) r → Ended s r
    go (passed τ) e h = absurd (cycle_stops s c q i σ τ e)
    go (reached p τ) e h = at_wait p τ h
    go (refused x n) e h = at_operator x n
