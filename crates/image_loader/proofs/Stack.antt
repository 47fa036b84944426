-- A stack of type tags in an array: a tag pushed, an operator of one and of two operands. Assumes nothing.
use Prim.Native.Nat.{ℕ, zero, suc, ◌+◌, ◌≤◌, ◌<◌}
use native.Mathlib.Omega.{arith}
use mathlib.Core.Path.{◌≡◌, refl, ◌∙◌}
use mathlib.Core.List.{List}
use lib.ListN.{length, get_or, set, length-set}
use borrow.Author.Tests.{eq-eqb, ne_eqb}
use Rattle.spec_design.specs.Types.{Ty, ExprTy}
use Rattle.base_codes.specs.Operation.{operands_of}
use Rattle.std.specs.Prelude.{None, Some, IfSome}
use Rattle.std.specs.Prelude as Code
use Rattle.std.proofs.Math.Option.{Option, none, some}
use native.Mathlib.Numerals.{add-one}
use Rattle.base_codes.specs.Types.{tag_or, unary_type_for, binary_type_for}
use Rattle.base_codes.proofs.TypeLaws.{tag_there}
use Rattle.base_codes.specs.Limit.{ITEMS}
use Rattle.base_codes.specs.Stack.{stack_of}
use Rattle.base_codes.proofs.StackLaws.{stack_push}
use Rattle.image_loader.specs.Code.{Tag, tagged, tag_known, leaf_tag, pushed, unary_step, binary_step, step_at, Stepped}

-- A tag is pushed; where there is none, the run ends.

pub push_none : (d : ℕ) (a : List ℕ) → length a ≡ ITEMS → Stepped (pushed None (stack_of 0 a d)) d a None
push_none d a z = record { same = refl; depth = tt; size = z }

pub push_some : (t d : ℕ) (a : List ℕ) → d < ITEMS → length a ≡ ITEMS → Stepped (pushed (Some t) (stack_of 0 a d)) d (set a d t) (Some (d + 1))
push_some t d a l z =
    let i : d < length a = omega arith in
    record { same = rw (stack_push 0 a d t i); depth = omega arith; size = length-set a d t ∙ z }

-- the tag of what an operator makes, by its number
pub known : (o : Option ExprTy) {t : ℕ} → t ≡ tag_or o → tag_known t ≡ tagged o
known none e = rw e
known (some t) e = rw (e, tag_there t)

-- the depth that is left of a deeper stack
deeper : {d x : ℕ} (r : Code.Option ℕ) → x ≤ d → IfSome r (λ n. n ≤ x + 1) → IfSome r (λ n. n ≤ d + 1)
deeper None h p = tt
deeper (Some n) h p = omega arith

-- One operand.

pub unary_none : (k d : ℕ) (a : List ℕ) → ¬ (1 ≤ d) → length a ≡ ITEMS → Stepped (unary_step k (stack_of 0 a d)) d a None
unfolding unary_step stack_of
unary_none k zero a h z = record { same = refl; depth = tt; size = z }
unary_none k (suc d) a h z = absurd (h (omega arith))

pub unary_some : (k x d : ℕ) (a : List ℕ) {b : List ℕ} {t : Tag} {r : Code.Option ℕ} → d ≡ suc x → t ≡ tagged (unary_type_for k (get_or a x 0))
    → Stepped (pushed t (stack_of 0 a x)) x b r → Stepped (unary_step k (stack_of 0 a d)) d b r
unfolding unary_step stack_of
unary_some k x d a {r = r} m e p = rw m (record { same = p.same ∙ rw e; depth = deeper r (omega arith) p.depth; size = p.size })

-- Two operands.

pub binary_none : (k d : ℕ) (a : List ℕ) → ¬ (2 ≤ d) → length a ≡ ITEMS → Stepped (binary_step k (stack_of 0 a d)) d a None
unfolding binary_step stack_of
binary_none k zero a h z = record { same = refl; depth = tt; size = z }
binary_none k (suc zero) a h z = record { same = refl; depth = tt; size = z }
binary_none k (suc (suc d)) a h z = absurd (h (omega arith))

pub binary_differ : (k x d : ℕ) (a : List ℕ) → d ≡ suc (suc x) → (get_or a x 0 ≡ get_or a (x + 1) 0 → ⊥) → length a ≡ ITEMS
    → Stepped (binary_step k (stack_of 0 a d)) d a None
unfolding binary_step stack_of
binary_differ k x d a m n z =
    let q : get_or a x 0 ≡ get_or a (suc x) 0 → ⊥ = rw add-one at n in
    rw m (record { same = rw (ne_eqb (get_or a x 0) (get_or a (suc x) 0) q); depth = tt; size = z })

pub binary_some : (k x d : ℕ) (a : List ℕ) {b : List ℕ} {t : Tag} {r : Code.Option ℕ} → d ≡ suc (suc x) → get_or a x 0 ≡ get_or a (x + 1) 0
    → t ≡ tagged (binary_type_for k (get_or a x 0))
    → Stepped (pushed t (stack_of 0 a x)) x b r → Stepped (binary_step k (stack_of 0 a d)) d b r
unfolding binary_step stack_of
binary_some k x d a {r = r} m n e p =
    let q : get_or a x 0 ≡ get_or a (suc x) 0 = rw add-one at n in
    rw m (record { same = p.same ∙ rw (eq-eqb (get_or a x 0) (get_or a (suc x) 0) q, e); depth = deeper r (omega arith) p.depth; size = p.size })

-- One operation, by its first byte.

module _ (is vs : List Ty) (s : List ℕ) (at d : ℕ) (a : List ℕ) {b : List ℕ} {k n : ℕ} {r : Code.Option ℕ} (e : k ≡ get_or s at 0) (o : n ≡ operands_of k) where
  pub step_leaf : {t : Tag} → n ≡ 0 → t ≡ leaf_tag is vs s at k → Stepped (pushed t (stack_of 0 a d)) d b r
      → Stepped (step_at is vs s at (get_or s at 0) (stack_of 0 a d)) d b r
  unfolding step_at
  step_leaf {t} h q p = record { same = p.same ∙ rw (← e, ← o, eq-eqb n 0 h, q); depth = p.depth; size = p.size }

  pub step_unary : (n ≡ 0 → ⊥) → n ≡ 1 → Stepped (unary_step k (stack_of 0 a d)) d b r → Stepped (step_at is vs s at (get_or s at 0) (stack_of 0 a d)) d b r
  unfolding step_at
  step_unary h l p = record { same = p.same ∙ rw (← e, ← o, ne_eqb n 0 h, eq-eqb n 1 l); depth = p.depth; size = p.size }

  pub step_binary : (n ≡ 0 → ⊥) → (n ≡ 1 → ⊥) → Stepped (binary_step k (stack_of 0 a d)) d b r
      → Stepped (step_at is vs s at (get_or s at 0) (stack_of 0 a d)) d b r
  unfolding step_at
  step_binary h l p = record { same = p.same ∙ rw (← e, ← o, ne_eqb n 0 h, ne_eqb n 1 l); depth = p.depth; size = p.size }
