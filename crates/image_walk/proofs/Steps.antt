-- What the functions' own steps come to, over plain variables. Assumes nothing.
use Prim.Native.Nat.{ℕ}
use mathlib.Core.Path.{◌≡◌, refl, sym, ◌∙◌}
use mathlib.Core.Bool.{Bool, true, false, cond}
use mathlib.Core.List.{List}
use lib.ListN.{set}
use lib.IntN.{ℤ}
use lib.Dec.{eqb}
use borrow.Author.Tests.{eq-eqb, ne_eqb}
use Rattle.spec_semantics.specs.Evaluation.{is_one}
use Rattle.image_evaluator.specs.declared.Found.{Found}
use Rattle.spec_design.specs.Expression.{Out, fine, fault}
use Rattle.image_walk.specs.declared.Move.{Move}
use Rattle.image_walk.specs.declared.Move.TheVariants.{Wait, Next}
use Rattle.image_walk.specs.Fields.{kind_at, target_at, next_at, other_at}
use Rattle.image_walk.specs.Moves.{move_of, move_at, stored_of, stored_at, Valued, Performs}
use Rattle.image_evaluator.specs.Value.{machine_for, part_value, evaluated_of}

-- a test that is answered by o
pub when_true : {A : Type 0} (o b : Bool) (r f g : A) → o ≡ b → o ≡ true → r ≡ f → r ≡ cond b f g
when_true o b r f g e h q = rw (sym e ∙ h) q

pub when_false : {A : Type 0} (o b : Bool) (r f g : A) → o ≡ b → o ≡ false → r ≡ g → r ≡ cond b f g
when_false o b r f g e h q = rw (sym e ∙ h) q

-- a part of the code section, its start and its size as they were read
pub part_read : (is vs : List ℕ) (i v : List ℤ) (s : List ℕ) (k k' n n' : ℕ) (r : Out Found) → k ≡ k' → n ≡ n'
    → r ≡ evaluated_of (part_value (machine_for is vs i v) s k n) → r ≡ evaluated_of (part_value (machine_for is vs i v) s k' n')
part_read is vs i v s k k' n n' r a b e = rw (← a, ← b) e

-- Storing: the row of another kind is as it was; a place that the row has not changes nothing.

pub other_kind : (k w : ℕ) (l a : List ℤ) → (k ≡ w → ⊥) → l ≡ cond (eqb k w) a l
other_kind k w l a h = rw (ne_eqb k w h)

pub this_kind : (k w : ℕ) (l a b : List ℤ) → k ≡ w → a ≡ b → a ≡ cond (eqb k w) b l
this_kind k w l a b h e = rw (eq-eqb k w h) e

-- a line whose kind is read as neither 0 nor 4
pub has_value : {l : List ℕ} {x k : ℕ} → k ≡ kind_at l x → (k ≡ 0 → ⊥) → (k ≡ 4 → ⊥) → Valued l x
has_value a h g = record { no_wait = λ e. h (a ∙ e); no_null = λ e. g (a ∙ e) }

-- The ways through a line, each with its test: the line x of the lines section l with the value E of its code, over outputs o and variables v.
module _ {l : List ℕ} {x : ℕ} {o v : List ℤ} where
  told : {E : Out Found} {r : Out Move} {o' v' : List ℤ} → (r ≡ move_at l x E) × ((o' ≡ stored_at 1 l x E o) × (v' ≡ stored_at 2 l x E v)) → Performs l x E o v r o' v'
  told t = record { move = t.0; outputs = t.1.0; variables = t.1.1 }

  pub wait_at : {E : Out Found} {k : ℕ} → k ≡ kind_at l x → k ≡ 0 → Performs l x E o v (fine Wait) o v
  wait_at {E} a h = told (let z : kind_at l x ≡ 0 = sym a ∙ h in rw z (go E))
    where
      go : (e : Out Found) → (fine Wait ≡ move_of 0 e (next_at l x) (other_at l x)) × ((o ≡ stored_of 1 0 (target_at l x) e o) × (v ≡ stored_of 2 0 (target_at l x) e v))
      go (fine y) = (refl, (refl, refl))
      go (fault q) = (refl, (refl, refl))

  pub null_at : {E : Out Found} {k m : ℕ} → k ≡ kind_at l x → k ≡ 4 → m ≡ next_at l x → Performs l x E o v (fine (Next m)) o v
  null_at {E} {k} {m} a h b = told (let z : kind_at l x ≡ 4 = sym a ∙ h in rw (z, ← b) (go E))
    where
      go : (e : Out Found) → (fine (Next m) ≡ move_of 4 e m (other_at l x)) × ((o ≡ stored_of 1 4 (target_at l x) e o) × (v ≡ stored_of 2 4 (target_at l x) e v))
      go (fine y) = (refl, (refl, refl))
      go (fault q) = (refl, (refl, refl))

  pub fault_at : {E e : Out Found} {q : ℕ} → Valued l x → e ≡ E → e ≡ fault q → Performs l x E o v (fault q) o v
  fault_at {E} {e} {q} w b d =
      let z : E ≡ fault q = sym b ∙ d in
      told (rw (z, ne_eqb (kind_at l x) 0 w.no_wait, ne_eqb (kind_at l x) 4 w.no_null) (go (eqb (kind_at l x) 3), (refl, refl)))
    where
      go : (b : Bool) → ◌≡◌ {A = Out Move} (fault q) (cond b (fault q) (fault q))
      go true = refl
      go false = refl

  pub value_at_lem : {E e e' : Out Found} {m : Out Move} {o' v' : List ℤ} → e ≡ E → e ≡ e' → Performs l x e' o v m o' v' → Performs l x E o v m o' v'
  value_at_lem b d p = rw (sym b ∙ d) p

  pub branch_at : {f : Found} {k m : ℕ} → k ≡ kind_at l x → k ≡ 3 → m ≡ cond (is_one f.value) (next_at l x) (other_at l x)
      → Performs l x (fine f) o v (fine (Next m)) o v
  branch_at a h q = told (let y : kind_at l x ≡ 3 = sym a ∙ h in rw (y, ← q) (refl, (refl, refl)))

  pub store_at : {f : Found} {k m n : ℕ} {o' v' : List ℤ} → k ≡ kind_at l x → Valued l x → (k ≡ 3 → ⊥) → m ≡ next_at l x → n ≡ target_at l x
      → o' ≡ cond (eqb k 1) (set o n f.value) o → v' ≡ cond (eqb k 2) (set v n f.value) v → Performs l x (fine f) o v (fine (Next m)) o' v'
  store_at {f} {k} a w h p r s u =
      told (rw (← a, ne_eqb k 0 (λ e. w.no_wait (sym a ∙ e)), ne_eqb k 4 (λ e. w.no_null (sym a ∙ e)), ne_eqb k 3 h, ← p, ← r) (refl, (s, u)))
