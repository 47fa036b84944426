-- Every wait of a statement, by its number, is a control state of its published meaning: by induction on the statement; class A has no waits. Assumes nothing.
use Prim.Native.Nat.{ℕ, suc, ◌+◌}
use native.Mathlib.Omega.{arith}
use mathlib.Core.Path.{◌≡◌, refl, sym, ap, ◌∙◌}
use mathlib.Core.Bool.{true}
use mathlib.Core.Option.{Option, none, some}
use mathlib.Core.Logic.{◌⊎◌, inl, inr, ⊎_elim}
use Rattle.spec_design.specs.Statement.{Stmt, act, wait, if_then, if_else, while, seq, size, has, Class, A, B, C, seq_class, if_class, class_of}
use Rattle.spec_semantics.specs.Equations.{Place, beginning, at}
use Rattle.spec_semantics.specs.Waits.{seq_waits, seq_part, if_waits, if_part, Waits, number_of}
use Rattle.spec_semantics.specs.Correspondence.{place_of}
use Rattle.spec_semantics.specs.Answer.{Placed}
use Rattle.spec_semantics.proofs.Basic.{false_true, eqb-true}
use Rattle.spec_semantics.proofs.Results.{or_case}

B_A : {P : Type 0} → B ≡ A → P
B_A e = absurd (let z : ◌≡◌ {A = ℕ} 0 1 = cc in omega arith)

C_A : {P : Type 0} → C ≡ A → P
C_A e = absurd (let z : ◌≡◌ {A = ℕ} 0 1 = cc in omega arith)

-- the waits of a sequence or an if of class A, and, in reverse to `seq_part` and `if_part`, those of a part that is not of class A
module _ (γ δ : Type 0) where
  seq_A : (x y : Class) → seq_class x y ≡ A → seq_waits x y γ δ → ⊥
  unfolding seq_class
  seq_A A A e v = v
  seq_A A B e v = B_A e
  seq_A A C e v = C_A e
  seq_A B A e v = B_A e
  seq_A B B e v = B_A e
  seq_A B C e v = C_A e
  seq_A C A e v = C_A e
  seq_A C B e v = C_A e
  seq_A C C e v = C_A e

  if_A : (x y : Class) → if_class x y ≡ A → if_waits x y γ δ → ⊥
  unfolding if_class
  if_A A A e v = v
  if_A A B e v = B_A e
  if_A A C e v = B_A e
  if_A B A e v = B_A e
  if_A B B e v = B_A e
  if_A B C e v = B_A e
  if_A C A e v = B_A e
  if_A C B e v = B_A e
  if_A C C e v = C_A e

  seq_in : (x y : Class) → (x ≡ A → γ → ⊥) → (y ≡ A → δ → ⊥) → (z : γ ⊎ δ) → (v : seq_waits x y γ δ) × (seq_part x y γ δ v ≡ z)
  seq_in A A f g (inl u) = absurd (f refl u)
  seq_in A A f g (inr u) = absurd (g refl u)
  seq_in A B f g (inl u) = absurd (f refl u)
  seq_in A B f g (inr u) = (u, refl)
  seq_in A C f g (inl u) = absurd (f refl u)
  seq_in A C f g (inr u) = (u, refl)
  seq_in B A f g (inl u) = (u, refl)
  seq_in B A f g (inr u) = absurd (g refl u)
  seq_in B B f g z = (z, refl)
  seq_in B C f g z = (z, refl)
  seq_in C A f g (inl u) = (u, refl)
  seq_in C A f g (inr u) = absurd (g refl u)
  seq_in C B f g z = (z, refl)
  seq_in C C f g z = (z, refl)

  if_in : (x y : Class) → (x ≡ A → γ → ⊥) → (y ≡ A → δ → ⊥) → (z : γ ⊎ δ) → (v : if_waits x y γ δ) × (if_part x y γ δ v ≡ z)
  if_in A A f g (inl u) = absurd (f refl u)
  if_in A A f g (inr u) = absurd (g refl u)
  if_in A B f g (inl u) = absurd (f refl u)
  if_in A B f g (inr u) = (u, refl)
  if_in A C f g (inl u) = absurd (f refl u)
  if_in A C f g (inr u) = (u, refl)
  if_in B A f g (inl u) = (u, refl)
  if_in B A f g (inr u) = absurd (g refl u)
  if_in B B f g z = (z, refl)
  if_in B C f g z = (z, refl)
  if_in C A f g (inl u) = (u, refl)
  if_in C A f g (inr u) = absurd (g refl u)
  if_in C B f g (inl u) = (inr u, refl)
  if_in C B f g (inr u) = (inl u, refl)
  if_in C C f g z = (z, refl)

no_waits_A : (s : Stmt) → class_of s ≡ A → Waits s → ⊥
unfolding class_of
no_waits_A (act a) e v = v
no_waits_A wait e v = C_A e
no_waits_A (if_then c a) e v = if_A (Waits a) ⊥ (class_of a) A e v
no_waits_A (if_else c a b) e v = if_A (Waits a) (Waits b) (class_of a) (class_of b) e v
no_waits_A (while c b) e v = B_A e
no_waits_A (seq a b) e v = seq_A (Waits a) (Waits b) (class_of a) (class_of b) e v

-- The wait with the number p of s has a control state.
pub wait_state : (s : Stmt) (n p : ℕ) → has s n p ≡ true → (v : Waits s) × (number_of s n v ≡ p)
unfolding has
wait_state (act a) n p h = false_true h
wait_state wait n p h = (tt, sym (eqb-true p n h))
wait_state (if_then e a) n p h =
    let u = wait_state a (suc n) p h in
    let v = if_in (Waits a) ⊥ (class_of a) A (no_waits_A a) (λ c w. w) (inl u.0) in
    (v.0, ap (⊎_elim (number_of a (suc n)) (λ w. absurd w)) v.1 ∙ u.1)
wait_state (if_else e a b) n p h =
    or_case (has a (suc n) p) _ h
    (λ w. (let u = wait_state a (suc n) p w in into (inl u.0) u.1))
    (λ w. (let u = wait_state b (suc n + size a) p w in into (inr u.0) u.1))
  where
    into : (z : Waits a ⊎ Waits b) → ⊎_elim (number_of a (suc n)) (number_of b (suc n + size a)) z ≡ p
        → (v : Waits (if_else e a b)) × (number_of (if_else e a b) n v ≡ p)
    into z q =
        let v = if_in (Waits a) (Waits b) (class_of a) (class_of b) (no_waits_A a) (no_waits_A b) z in
        (v.0, ap (⊎_elim (number_of a (suc n)) (number_of b (suc n + size a))) v.1 ∙ q)
wait_state (while e b) n p h = wait_state b (suc n) p h
wait_state (seq a b) n p h =
    or_case (has a n p) _ h
    (λ w. (let u = wait_state a n p w in into (inl u.0) u.1))
    (λ w. (let u = wait_state b (n + size a) p w in into (inr u.0) u.1))
  where
    into : (z : Waits a ⊎ Waits b) → ⊎_elim (number_of a n) (number_of b (n + size a)) z ≡ p → (v : Waits (seq a b)) × (number_of (seq a b) n v ≡ p)
    into z q =
        let v = seq_in (Waits a) (Waits b) (class_of a) (class_of b) (no_waits_A a) (no_waits_A b) z in
        (v.0, ap (⊎_elim (number_of a n) (number_of b (n + size a))) v.1 ∙ q)

-- Every place of the body is a control state's.
pub place_state : (s : Stmt) (q : Place) → Placed s q → (ss : Option (Waits s)) × (place_of s ss ≡ q)
unfolding Placed
place_state s beginning h = (none, refl)
place_state s (at p) h = let v = wait_state s 0 p h in (some v.0, ap at v.1)
