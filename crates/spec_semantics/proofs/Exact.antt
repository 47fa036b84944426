-- A cycle that is not refused is the printed one over unbounded integers: the meanings with refusals and without are related by "where the one
-- ends, its value is the other's". Assumes nothing.
use Prim.Native.Nat.{ℕ}
use native.Mathlib.Omega.{arith}
use mathlib.Core.Path.{◌≡◌, refl, sym, ap, ◌∙◌}
use mathlib.Core.Bool.{Bool, true, false, cond}
use mathlib.Core.Option.{Option, none, some}
use mathlib.Core.List.{List}
use lib.IntN.{ℤ, pos}
use Rattle.spec_design.specs.Expression.{Expr, leaf, unary, binary, Out, fine, fault, fold, Unary, sign, invert, Binary, plus, minus, equal, unequal, less}
use Rattle.spec_design.specs.Expression.{at_most, greater, at_least, and, or, xor, times, divide, modulo, remainder}
use Rattle.spec_design.specs.Types.{ExprTy, eq_z, in_range}
use Rattle.spec_semantics.specs.Division.{by_nonzero}
use Rattle.spec_design.specs.Statement.{Stmt, C, class_of, LoopsC}
use Rattle.spec_semantics.specs.Evaluation.{unary_result, binary_result, as_integer, apply_unary, apply_binary, evaluate, exact_value}
use Rattle.spec_semantics.specs.Equations.{Run, reached, cycle}
use Rattle.spec_semantics.specs.Effects.{Step, ends, stops, and_then}
use Rattle.spec_semantics.specs.Published.{ι, ω, φ}
use Rattle.spec_semantics.specs.Waits.{Waits, number_of}
use Rattle.spec_semantics.specs.Denotation.{exactly, tracing, raised, process}
use Rattle.spec_semantics.specs.Correspondence.{run, placed, to_b, place_of}
use Rattle.spec_semantics.proofs.Basic.{fault_fine, fine_injective, bind_fine}
use Rattle.spec_semantics.proofs.Results.{reached_passed}
use Rattle.spec_semantics.proofs.Agreement.{same_cycle}
use Rattle.spec_semantics.proofs.Parametric.{Related, process_R}

as_integer_is : (x z : ℤ) → as_integer x ≡ fine z → x ≡ z
unfolding as_integer
as_integer_is x z e = go (in_range x) e
  where
    go : (b : Bool) → cond b (fine x) (fault 16) ≡ fine z → x ≡ z
    go true h = fine_injective x z h
    go false h = fault_fine 16 z h

nonzero_is : (y : ℤ) (o : Out ℤ) (z : ℤ) → by_nonzero y o ≡ fine z → o ≡ fine z
unfolding by_nonzero
nonzero_is y o z e = go (eq_z y (pos 0)) e
  where
    go : (b : Bool) → cond b (fault 18) o ≡ fine z → o ≡ fine z
    go true h = fault_fine 18 z h
    go false h = h

unary_is : (o : Unary) (t : ExprTy) (x z : ℤ) → apply_unary o t x ≡ fine z → unary_result o x ≡ z
unfolding apply_unary
unary_is sign t x z e = as_integer_is _ z e
unary_is invert t x z e = fine_injective _ z e

binary_is : (o : Binary) (t : ExprTy) (x y z : ℤ) → apply_binary o t x y ≡ fine z → binary_result o x y ≡ z
unfolding apply_binary
binary_is plus t x y z e = as_integer_is _ z e
binary_is minus t x y z e = as_integer_is _ z e
binary_is equal t x y z e = fine_injective _ z e
binary_is unequal t x y z e = fine_injective _ z e
binary_is less t x y z e = fine_injective _ z e
binary_is at_most t x y z e = fine_injective _ z e
binary_is greater t x y z e = fine_injective _ z e
binary_is at_least t x y z e = fine_injective _ z e
binary_is and t x y z e = fine_injective _ z e
binary_is or t x y z e = fine_injective _ z e
binary_is xor t x y z e = fine_injective _ z e
binary_is times t x y z e = as_integer_is _ z e
binary_is divide t x y z e = as_integer_is _ z (nonzero_is y _ z e)
binary_is modulo t x y z e = fine_injective _ z (nonzero_is y _ z e)
binary_is remainder t x y z e = fine_injective _ z (nonzero_is y _ z e)

-- An expression that is not refused has its exact value.
pub value_exact : (e : Expr) (i v : List ℤ) (z : ℤ) → evaluate e i v ≡ fine z → z ≡ exact_value e i v
unfolding evaluate exact_value fold
value_exact (leaf l) i v z h = sym (fine_injective _ z h)
value_exact (unary o t a) i v z h =
    let q = bind_fine _ _ z h in
    sym (unary_is o t q.0 z q.2) ∙ ap (unary_result o) (value_exact a i v q.0 q.1)
value_exact (binary o t a b) i v z h =
    let q = bind_fine _ _ z h in
    let r = bind_fine _ _ z q.2 in
    sym (binary_is o t q.0 r.0 z r.2)
    ∙ ap (λ x. binary_result o x r.0) (value_exact a i v q.0 q.1)
    ∙ ap (binary_result o (exact_value a i v)) (value_exact b i v r.0 r.1)

-- where the step ends, its value is x
abbrev Fits : {X : Type 0} → Step X → X → Type 0
Fits (ends y w) x = y ≡ x
Fits (stops q n) x = Unit {0}

bind_fits : {X Y : Type 0} (v : Step X) (x : X) (k : X → List ℕ → Step Y) (k' : X → Y) → Fits v x → ((y : X) (w : List ℕ) → Fits (k y w) (k' y))
    → Fits (and_then v k) (k' x)
unfolding and_then
bind_fits (ends y w) x k k' e h = rw (← e) (h y w)
bind_fits (stops q n) x k k' e h = tt

value_fits : (n : ℕ) (o : Out ℤ) (x : ℤ) (w : List ℕ) → ((z : ℤ) → o ≡ fine z → z ≡ x) → Fits (raised n o w) x
unfolding raised
value_fits n (fine z) x w h = h z refl
value_fits n (fault q) x w h = tt

exact_related : Related tracing exactly
exact_related =
    record {
      holds = λ v x. (w : List ℕ) → Fits (v w) x;
      pure_holds = λ x w. refl;
      bind_holds = λ v x k k' h g w. bind_fits (v w) x k k' (h w) g;
      step_holds = λ n w. refl;
      value_holds = λ n e si sq w. value_fits n (evaluate e si sq) _ w (λ z q. value_exact e si sq z q);
    }

-- A cycle of the published equations that ends with refusals in force ends alike without them: outputs, variables and control state.
pub cycle_exact : (s : Stmt) (si : ι) (so : ω) (sq : φ) (ss : Option (Waits s)) (w w' : List ℕ) (r : ω × φ × Option (Waits s))
    → process tracing s si so sq ss w ≡ ends r w' → r ≡ process exactly s si so sq ss
unfolding exact_related
cycle_exact s si so sq ss w w' r e = go (process tracing s si so sq ss w) e (process_R tracing exactly exact_related s si so sq ss w)
  where
    go : (v : Step (ω × φ × Option (Waits s))) → v ≡ ends r w' → Fits v (process exactly s si so sq ss) → r ≡ process exactly s si so sq ss
    go v e h = rw e at h

reached_same : (p q : ℕ) (σ τ : Run) → reached p σ ≡ reached q τ → (p ≡ q) × (σ ≡ τ)
reached_same p q σ τ e = (cc, cc)

-- A cycle that reaches a wait is the printed one over unbounded integers: the same outputs and variables, the same wait.
pub cycle_printed : (s : Stmt) → LoopsC s → class_of s ≡ C → (ss : Option (Waits s)) (i : ι) (σ τ : Run) (p : ℕ) → cycle s (place_of s ss) i σ ≡ reached p τ
    → (v : Waits s) × (number_of s 0 v ≡ p) × (process exactly s i σ.memory.outputs σ.memory.variables ss
    ≡ (τ.memory.outputs, τ.memory.variables, some v))
cycle_printed s g c ss i σ τ p e =
    go (process tracing s i σ.memory.outputs σ.memory.variables ss σ.way) refl (sym (same_cycle s g c ss i σ) ∙ e)
  where
    Claim : Type 0
    Claim = (v : Waits s) × (number_of s 0 v ≡ p) × (process exactly s i σ.memory.outputs σ.memory.variables ss
        ≡ (τ.memory.outputs, τ.memory.variables, some v))

    at_wait : (so : ω) (sq : φ) (o : Option (Waits s)) (w : List ℕ) → placed (number_of s 0) (run w so sq) o ≡ reached p τ
        → (so, sq, o) ≡ process exactly s i σ.memory.outputs σ.memory.variables ss → Claim
    at_wait so sq none w q h = reached_passed p τ _ (sym q)
    at_wait so sq (some v) w q h =
        let r = reached_same _ p _ τ q in
        (v, r.0, sym h ∙ ap (λ (ρ : Run). (ρ.memory.outputs, ρ.memory.variables, some v)) r.1)

    go : (v : Step (ω × φ × Option (Waits s))) → process tracing s i σ.memory.outputs σ.memory.variables ss σ.way ≡ v
        → to_b (number_of s 0) v ≡ reached p τ → Claim
    go (ends r w) h q = at_wait r.0 r.1 r.2 w q (cycle_exact s i _ _ ss σ.way w r h)
    go (stops x n) h q = absurd (let z : ◌≡◌ {A = ℕ} 0 1 = cc in omega arith)
