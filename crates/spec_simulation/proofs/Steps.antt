-- A line performed, by cases: it is a wait, an operator is refused by its number, or a follower comes next. What holds in each case holds of the line.
-- Assumes nothing.
use Prim.Native.Nat.{ℕ, ◌<◌}
use native.Mathlib.Omega.{arith}
use mathlib.Core.Path.{◌≡◌, refl, sym, subst}
use mathlib.Core.Logic.{◌⊎◌, inl, inr}
use mathlib.Core.Bool.{Bool, true, false}
use mathlib.Core.List.{List, [], ◌∷◌, ◌++◌}
use lib.IntN.{ℤ}
use Rattle.spec_design.specs.Expression.{Expr, Out, fine, fault, bind}
use Rattle.spec_design.specs.Statement.{Act, output, variable, null}
use Rattle.spec_semantics.specs.Equations.{Memory, Run, Result, reached, refused, perform, holds, log, then, acted, tested}
use Rattle.spec_semantics.proofs.Basic.{fault_fine, fault_injective}
use Rattle.spec_semantics.specs.Evaluation.{OperatorNumber}
use Rattle.spec_semantics.proofs.Faults.{fault_number}
use Rattle.spec_format.specs.Lines.{Line, waits, acts, branches, reach, reach_of}
use Rattle.spec_format.specs.Walk.{step}
use Rattle.spec_simulation.specs.Ranked.{Followers}

-- Refusals.

bind_number : {Y : Type 0} (o : Out ℤ) (f : ℤ → Y) → ((q : ℕ) → o ≡ fault q → OperatorNumber q) → (q : ℕ) → bind o (λ z. fine (f z)) ≡ fault q
    → OperatorNumber q
unfolding bind
bind_number (fine z) f h q e = fault_fine q (f z) (sym e)
bind_number {Y} (fault n) f h q e = subst OperatorNumber (fault_injective {X = Y} n q e) (h n refl)

perform_number : (a : Act) (i : List ℤ) (m : Memory) (q : ℕ) → perform a i m ≡ fault q → OperatorNumber q
unfolding perform
perform_number (output k e) i m q h = bind_number _ _ (fault_number i m.variables e) q h
perform_number (variable k e) i m q h = bind_number _ _ (fault_number i m.variables e) q h
perform_number null i m q h = fault_fine q m (sym h)

holds_number : (e : Expr) (i : List ℤ) (m : Memory) (q : ℕ) → holds e i m ≡ fault q → OperatorNumber q
unfolding holds
holds_number e i m q h = bind_number _ _ (fault_number i m.variables e) q h

-- Followers.

-- the line l over the memory m leaves the memory m', and the line z comes next
abbrev pub Next : Line → List ℤ → Memory → Memory → ℕ → Type 0
Next (waits f) i m m' z = ⊥
Next (acts a f) i m m' z = (perform a i m ≡ fine m') × (z ≡ f)
Next (branches e f g) i m m' z = (m ≡ m') × ((z ≡ f) ⊎ (z ≡ g))

-- what comes next reaches less far ..
pub next_falls : (r : List ℕ) (x : ℕ) (l : Line) → reach r x ≡ reach_of r l → (i : List ℤ) (m m' : Memory) (z : ℕ) → Next l i m m' z
    → reach r z < reach r x
next_falls r x (waits f) e i m m' z h = absurd h
next_falls r x (acts a f) e i m m' z h = rw h.1 (omega arith)
next_falls r x (branches c f g) e i m m' z (h, inl q) = rw q (omega arith)
next_falls r x (branches c f g) e i m m' z (h, inr q) = rw q (omega arith)

-- .. and is one of the n lines
pub next_inside : (n : ℕ) (l : Line) → Followers n l → (i : List ℤ) (m m' : Memory) (z : ℕ) → Next l i m m' z → z < n
next_inside n (waits f) c i m m' z h = absurd h
next_inside n (acts a f) c i m m' z h = rw h.1 c
next_inside n (branches e f g) c i m m' z (h, inl q) = rw q c.0
next_inside n (branches e f g) c i m m' z (h, inr q) = rw q c.1

-- What holds of a line performed: P of its wait, of its refusal, and of what is done at each follower.
pub step_holds : (P : Result → Type 0) (l : Line) (x : ℕ) (i : List ℤ) (σ : Run) (go : ℕ → Run → Result)
    → ((f : ℕ) → l ≡ waits f → P (reached x (log x σ))) → ((q : ℕ) → OperatorNumber q → P (refused q x))
    → ((z : ℕ) (m : Memory) → Next l i σ.memory m z → P (go z (record { way = σ.way ++ (x ∷ []); memory = m }))) → P (step l x i σ go)
unfolding step log then acted tested
step_holds P (waits f) x i σ go w b h = w f refl
step_holds P (acts a f) x i σ go w b h = by (perform a i σ.memory) refl
  where
    by : (v : Out Memory) → perform a i σ.memory ≡ v → P (then (acted v x σ) (go f))
    by (fine m) e = h f m (e, refl)
    by (fault q) e = b q (perform_number a i σ.memory q e)
step_holds P (branches c f g) x i σ go w b h = by (holds c i σ.memory) refl
  where
    by : (v : Out Bool) → holds c i σ.memory ≡ v → P (tested v x σ (go f) (go g))
    by (fine true) e = h f σ.memory (refl, inl refl)
    by (fine false) e = h g σ.memory (refl, inr refl)
    by (fault q) e = b q (holds_number c i σ.memory q e)
