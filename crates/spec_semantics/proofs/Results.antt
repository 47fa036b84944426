-- How results of statements go on, and what a statement of class C cannot do: cases on the result, induction on the statement. Assumes nothing.
use Prim.Native.Nat.{ℕ, suc, ◌+◌, ◌≤◌, ◌<◌}
use native.Mathlib.Omega.{arith}
use mathlib.Core.Path.{◌≡◌, refl}
use mathlib.Core.Logic.{◌⊎◌, inl, inr}
use mathlib.Core.Bool.{Bool, true, false, ◌||◌}
use mathlib.Core.List.{List}
use lib.IntN.{ℤ}
use Rattle.spec_design.specs.Expression.{Out, fine, fault}
use Rattle.spec_design.specs.Statement.{Stmt, act, wait, if_then, if_else, while, seq, size, has, Class, A, B, C, seq_class, if_class, class_of}
use Rattle.spec_semantics.specs.Equations.{Run, Result, passed, reached, refused, log, then, tested, start}
use Rattle.spec_semantics.proofs.Basic.{false_true, eqb-true}

-- Sequences of results.

pub then_assoc : (r : Result) (f g : Run → Result) → then (then r f) g ≡ then r (λ τ. then (f τ) g)
unfolding then
then_assoc (passed σ) f g = refl
then_assoc (reached p σ) f g = refl
then_assoc (refused q n) f g = refl

pub then_cong : (r r' : Result) (f g : Run → Result) → r ≡ r' → ((σ : Run) → f σ ≡ g σ) → then r f ≡ then r' g
unfolding then
then_cong r r' f g e h = rw e (go r')
  where
    go : (r : Result) → then r f ≡ then r g
    go (passed σ) = h σ
    go (reached p σ) = refl
    go (refused q n) = refl

-- what is never passed goes on nowhere
pub then_stays : (r : Result) (f : Run → Result) → ((σ : Run) → r ≡ passed σ → ⊥) → then r f ≡ r
unfolding then
then_stays (passed σ) f h = absurd (h σ refl)
then_stays (reached p σ) f h = refl
then_stays (refused q n) f h = refl

pub reached_passed : {P : Type 0} (p : ℕ) (σ τ : Run) → reached p σ ≡ passed τ → P
reached_passed p σ τ e = absurd (let z : ◌≡◌ {A = ℕ} 0 1 = cc in omega arith)

pub refused_passed : {P : Type 0} (q n : ℕ) (τ : Run) → refused q n ≡ passed τ → P
refused_passed q n τ e = absurd (let z : ◌≡◌ {A = ℕ} 0 1 = cc in omega arith)

-- a sequence is passed where both parts are
pub then_passed : (r : Result) (f : Run → Result) (τ : Run) → then r f ≡ passed τ → (σ : Run) × (r ≡ passed σ) × (f σ ≡ passed τ)
unfolding then
then_passed (passed σ) f τ e = (σ, refl, e)
then_passed (reached p σ) f τ e = reached_passed p σ τ e
then_passed (refused q n) f τ e = refused_passed q n τ e

tested_passed : (v : Out Bool) (n : ℕ) (σ : Run) (f g : Run → Result) (τ : Run)
    → tested v n σ f g ≡ passed τ → (f (log n σ) ≡ passed τ → ⊥) → (g (log n σ) ≡ passed τ → ⊥) → ⊥
unfolding tested
tested_passed (fine true) n σ f g τ e hf hg = hf e
tested_passed (fine false) n σ f g τ e hf hg = hg e
tested_passed (fault q) n σ f g τ e hf hg = refused_passed q n τ e

-- Class C.

pub A_C : {P : Type 0} → A ≡ C → P
A_C e = absurd (let z : ◌≡◌ {A = ℕ} 0 1 = cc in omega arith)

pub B_C : {P : Type 0} → B ≡ C → P
B_C e = absurd (let z : ◌≡◌ {A = ℕ} 0 1 = cc in omega arith)

pub seq_class_C : (x y : Class) → seq_class x y ≡ C → (x ≡ C) ⊎ (y ≡ C)
unfolding seq_class
seq_class_C A A e = A_C e
seq_class_C A B e = B_C e
seq_class_C A C e = inr refl
seq_class_C B A e = B_C e
seq_class_C B B e = B_C e
seq_class_C B C e = inr refl
seq_class_C C A e = inl refl
seq_class_C C B e = inl refl
seq_class_C C C e = inl refl

pub if_class_C : (x y : Class) → if_class x y ≡ C → (x ≡ C) × (y ≡ C)
unfolding if_class
if_class_C A A e = A_C e
if_class_C A B e = B_C e
if_class_C A C e = B_C e
if_class_C B A e = B_C e
if_class_C B B e = B_C e
if_class_C B C e = B_C e
if_class_C C A e = B_C e
if_class_C C B e = B_C e
if_class_C C C e = (refl, refl)

-- A statement of class C is never passed when started.
pub C_stops : (s : Stmt) → class_of s ≡ C → (n : ℕ) (i : List ℤ) (σ τ : Run) → start s n i σ ≡ passed τ → ⊥
unfolding class_of start
C_stops (act a) c n i σ τ e = A_C c
C_stops wait c n i σ τ e = reached_passed n _ τ e
C_stops (if_then e a) c n i σ τ h = A_C (if_class_C (class_of a) A c).1
C_stops (if_else e a b) c n i σ τ h =
    tested_passed _ n σ _ _ τ h
    (C_stops a (if_class_C (class_of a) (class_of b) c).0 (suc n) i (log n σ) τ)
    (C_stops b (if_class_C (class_of a) (class_of b) c).1 (suc n + size a) i (log n σ) τ)
C_stops (while e b) c n i σ τ h = B_C c
C_stops (seq a b) c n i σ τ h =
    go (λ c' ρ. C_stops a c' n i σ ρ) (λ c' ρ. C_stops b c' (n + size a) i ρ τ) (seq_class_C (class_of a) (class_of b) c) (then_passed _ _ τ h)
  where
    go : (class_of a ≡ C → (ρ : Run) → start a n i σ ≡ passed ρ → ⊥) → (class_of b ≡ C → (ρ : Run) → start b (n + size a) i ρ ≡ passed τ → ⊥)
        → (class_of a ≡ C) ⊎ (class_of b ≡ C) → (ρ : Run) × (start a n i σ ≡ passed ρ) × (start b (n + size a) i ρ ≡ passed τ) → ⊥
    go ha hb (inl c') p = ha c' p.0 p.1
    go ha hb (inr c') p = hb c' p.0 p.2

-- Numbers.

pub size_pos : (s : Stmt) → 1 ≤ size s
unfolding size
size_pos (act a) = omega arith
size_pos wait = omega arith
size_pos (if_then e a) = omega arith
size_pos (if_else e a b) = omega arith
size_pos (while e b) = omega arith
size_pos (seq a b) = omega (arith, size_pos a)

pub or_case : {P : Type 0} (a b : Bool) → (a || b) ≡ true → (a ≡ true → P) → (b ≡ true → P) → P
or_case true b h f g = f refl
or_case false b h f g = g h

-- a wait of s has a number of s
pub has_below : (s : Stmt) (n p : ℕ) → has s n p ≡ true → (n ≤ p) × (p < n + size s)
unfolding has size
has_below (act a) n p h = false_true h
has_below wait n p h = let e = eqb-true p n h in (omega arith, omega arith)
has_below (if_then e a) n p h = let q = has_below a (suc n) p h in (omega arith, omega arith)
has_below (if_else e a b) n p h =
    or_case (has a (suc n) p) _ h
    (λ w. let q = has_below a (suc n) p w in (omega arith, omega arith))
    (λ w. let q = has_below b (suc n + size a) p w in (omega arith, omega arith))
has_below (while e b) n p h = let q = has_below b (suc n) p h in (omega arith, omega arith)
has_below (seq a b) n p h =
    or_case (has a n p) _ h
    (λ w. let q = has_below a n p w in (omega arith, omega arith))
    (λ w. let q = has_below b (n + size a) p w in (omega arith, omega arith))
