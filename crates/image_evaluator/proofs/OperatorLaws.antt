-- The operators of the one table, on values with types: what it answers is what the typed machine says. By cases on the operator that a code has, and on
-- its result's type. Assumes nothing.
use Prim.Native.Nat.{ℕ, ◌+◌}
use mathlib.Core.Path.{◌≡◌, refl, sym, ap, ◌∙◌}
use mathlib.Core.Bool.{Bool, true, false}
use mathlib.Core.Option.{Option, none, some, map}
use mathlib.Core.List.{List, [], ◌∷◌}
use native.Mathlib.Omega.{arith}
use borrow.Author.Tests.{ne_eqb}
use lib.ListN.{get_or}
use lib.IntN.{ℤ}
use Rattle.spec_design.specs.Types.{ExprTy, same_type}
use Rattle.spec_design.specs.Expression.{Unary, Binary, type_of_unary, type_of_binary, Out, fine, fault, bind}
use Rattle.spec_design.proofs.Types.{same_type_eq, same_type_refl}
use Rattle.spec_semantics.specs.Evaluation.{apply_unary, apply_binary}
use Rattle.spec_semantics.proofs.Basic.{some_injective}
use Rattle.base_codes.specs.Operation.{unary_for, binary_for, count_or, operands_of}
use Rattle.base_codes.specs.Types.{tag_of, type_of_tag, result_for}
use Rattle.base_codes.proofs.OperationLaws.{unary_is, binary_is}
use Rattle.base_codes.proofs.TypeLaws.{tag_type, unary_result_lem, binary_result_lem}
use Rattle.spec_format.specs.Code.{Operation, applying, with_type}
use Rattle.base_operators.specs.Operators.{judged, unary_by, binary_by, unary_on, binary_on}
use Rattle.image_evaluator.specs.Position.{ROOM, next_of, fetch_at}
use Rattle.image_evaluator.specs.Value.{Cell, machine_for, found, evaluated_of}
use Rattle.image_evaluator.specs.Operators.{unary_of, binary_of, unary_next, binary_next}
use Rattle.image_evaluator.proofs.StackLaws.{valued_of}

-- a result with its type, or 13 where it has none
result_told : (w : Option ExprTy) (v : Out ℤ) (r : ℕ) → ((t : ExprTy) → w ≡ some t → r ≡ tag_of t) → valued_of r (judged w v) ≡ evaluated_of (with_type w v)
unfolding with_type bind
result_told none v r f = refl
result_told (some t) (fine z) r f = ap (λ (k : ℕ). found k z) (f t refl)
result_told (some t) (fault q) r f = refl

-- an operator of one operand of the type u, whose number is t
pub unary_told : (k t r : ℕ) (u : ExprTy) (x : ℤ) → t ≡ tag_of u → r ≡ result_for k t → valued_of r (unary_on k t x) ≡ evaluated_of (unary_of (unary_for k) (u, x))
unfolding unary_on
unary_told k t r u x e h = rw (e, tag_type u) (go (unary_for k) refl)
  where
    typed : (o : Unary) (w : ExprTy) → unary_for k ≡ some o → type_of_unary o u ≡ some w → r ≡ tag_of w
    typed o w p q = h ∙ rw (e, unary_is k o p) (unary_result_lem o u w q)

    go : (b : Option Unary) → unary_for k ≡ b → valued_of r (unary_by b (some u) x) ≡ evaluated_of (unary_of b (u, x))
    go none p = refl
    go (some o) p = result_told (type_of_unary o u) (apply_unary o u x) r (λ w q. typed o w p q)

-- an operator of two operands of the type u
pub binary_told : (k t r : ℕ) (u : ExprTy) (x y : ℤ) → t ≡ tag_of u → r ≡ result_for k t
    → valued_of r (binary_on k t x y) ≡ evaluated_of (binary_of (binary_for k) (u, x) (u, y))
unfolding binary_on
binary_told k t r u x y e h = rw (e, tag_type u) (go (binary_for k) refl)
  where
    typed : (o : Binary) (w : ExprTy) → binary_for k ≡ some o → type_of_binary o u ≡ some w → r ≡ tag_of w
    typed o w p q = h ∙ rw (e, binary_is k o p) (binary_result_lem o u w q)

    go : (b : Option Binary) → binary_for k ≡ b → valued_of r (binary_by b (some u) x y) ≡ evaluated_of (binary_of b (u, x) (u, y))
    go none p = refl
    go (some o) p = rw (same_type_refl u) (result_told (type_of_binary o u) (apply_binary o u x y) r (λ w q. typed o w p q))

-- one type for each number
pub tag_one : (u w : ExprTy) → tag_of u ≡ tag_of w → u ≡ w
tag_one u w e = some_injective u w (sym (tag_type u) ∙ (ap type_of_tag e ∙ tag_type w))

-- operands of two types: no operator takes them
pub types_differ : (k : ℕ) (u w : ExprTy) (x y : ℤ) → (tag_of u ≡ tag_of w → ⊥) → binary_of (binary_for k) (u, x) (w, y) ≡ fault 13
types_differ k u w x y f = go (binary_for k)
  where
    other : (b : Bool) → same_type u w ≡ b → same_type u w ≡ false
    other true e = absurd (f (ap tag_of (same_type_eq u w e)))
    other false e = e

    go : (b : Option Binary) → binary_of b (u, x) (w, y) ≡ fault 13
    go none = refl
    go (some o) = rw (other (same_type u w) refl)

abbrev fetched : Option Operation → Option (Operation × ℕ)
fetched o = map (λ i. (i, 1)) o

-- The operators of one operand are told by their number of operands; what is left has two operands or is no operation.
module _ (is vs : List ℕ) (i v : List ℤ) (at : ℕ) where
  unary_next_lem : (o : Option Unary) (b : Option Binary) (st : List Cell) → count_or o b ≡ 1
      → next_of (machine_for is vs i v) ROOM (fetched (applying o b)) at st ≡ unary_next o (at + 1) st
  unfolding count_or
  unary_next_lem (some o) b [] h = refl
  unary_next_lem (some o) b (x ∷ st) h = refl
  unary_next_lem none (some o) st h = absurd (omega arith)
  unary_next_lem none none st h = absurd (omega arith)

  binary_next_lem : (o : Option Unary) (b : Option Binary) (st : List Cell) → (count_or o b ≡ 1 → ⊥)
      → next_of (machine_for is vs i v) ROOM (fetched (applying o b)) at st ≡ binary_next b (at + 1) st
  unfolding count_or
  binary_next_lem (some o) b st h = absurd (h refl)
  binary_next_lem none (some o) [] h = refl
  binary_next_lem none (some o) (y ∷ []) h = refl
  binary_next_lem none (some o) (y ∷ x ∷ st) h = refl
  binary_next_lem none none [] h = refl
  binary_next_lem none none (y ∷ []) h = refl
  binary_next_lem none none (y ∷ x ∷ st) h = refl

  -- the operation at the byte k of the code s, by its first byte
  pub at_unary : (s : List ℕ) (st : List Cell)
      → (get_or s at 0 ≡ 1 → ⊥) → (get_or s at 0 ≡ 2 → ⊥) → (get_or s at 0 ≡ 3 → ⊥) → (get_or s at 0 ≡ 4 → ⊥) → operands_of (get_or s at 0) ≡ 1
      → next_of (machine_for is vs i v) ROOM (fetch_at s at) at st ≡ unary_next (unary_for (get_or s at 0)) (at + 1) st
  unfolding fetch_at operands_of
  at_unary s st a b c d h =
      rw (ne_eqb _ 1 a, ne_eqb _ 2 b, ne_eqb _ 3 c, ne_eqb _ 4 d) (unary_next_lem (unary_for (get_or s at 0)) (binary_for (get_or s at 0)) st h)

  pub at_binary : (s : List ℕ) (st : List Cell)
      → (get_or s at 0 ≡ 1 → ⊥) → (get_or s at 0 ≡ 2 → ⊥) → (get_or s at 0 ≡ 3 → ⊥) → (get_or s at 0 ≡ 4 → ⊥) → (operands_of (get_or s at 0) ≡ 1 → ⊥)
      → next_of (machine_for is vs i v) ROOM (fetch_at s at) at st ≡ binary_next (binary_for (get_or s at 0)) (at + 1) st
  unfolding fetch_at operands_of
  at_binary s st a b c d h =
      rw (ne_eqb _ 1 a, ne_eqb _ 2 b, ne_eqb _ 3 c, ne_eqb _ 4 d) (binary_next_lem (unary_for (get_or s at 0)) (binary_for (get_or s at 0)) st h)
