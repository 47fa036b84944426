-- The number of an operator's refusal is never 0, which is that of no refusal. Assumes nothing.
use Prim.Native.Nat.{ℕ}
use native.Mathlib.Omega.{arith}
use mathlib.Core.Path.{◌≡◌}
use mathlib.Core.List.{[]}
use mathlib.Core.Option.{Option, none, some}
use lib.IntN.{ℤ}
use Rattle.spec_design.specs.Types.{ExprTy}
use Rattle.spec_design.specs.Expression.{Unary, Binary, leaf, int, unary, binary, Out, fault, bind, fold, type_of_unary, type_of_binary}
use Rattle.spec_semantics.specs.Evaluation.{apply_unary, apply_binary, leaf_value, evaluate}
use Rattle.spec_semantics.proofs.Basic.{fault_injective}
use Rattle.spec_semantics.proofs.Faults.{operator_number, fault_number}
use Rattle.base_codes.specs.Operation.{unary_for, binary_for}
use Rattle.base_codes.specs.Types.{type_of_tag}
use Rattle.base_operators.specs.Operators.{judged, unary_by, binary_by, unary_on, binary_on}

judged_number : (w : Option ExprTy) (v : Out ℤ) → (v ≡ fault 0 → ⊥) → judged w v ≡ fault 0 → ⊥
judged_number none v f e = let z = fault_injective {X = ℤ} 13 0 e in omega arith
judged_number (some t) v f e = f e

-- an operator on two literals
unary_not_0 : (o : Unary) (u : ExprTy) (x : ℤ) → apply_unary o u x ≡ fault 0 → ⊥
unfolding evaluate fold bind leaf_value
unary_not_0 o u x e = let z = operator_number 0 (fault_number [] [] (unary o u (leaf (int x))) 0 e) in omega (arith, z.0)

binary_not_0 : (o : Binary) (u : ExprTy) (x y : ℤ) → apply_binary o u x y ≡ fault 0 → ⊥
unfolding evaluate fold bind leaf_value
binary_not_0 o u x y e = let z = operator_number 0 (fault_number [] [] (binary o u (leaf (int x)) (leaf (int y))) 0 e) in omega (arith, z.0)

unary_by_number : (b : Option Unary) (w : Option ExprTy) (x : ℤ) → unary_by b w x ≡ fault 0 → ⊥
unary_by_number none w x e = let z = fault_injective {X = ℤ} 13 0 e in omega arith
unary_by_number (some o) none x e = let z = fault_injective {X = ℤ} 13 0 e in omega arith
unary_by_number (some o) (some u) x e = judged_number (type_of_unary o u) (apply_unary o u x) (unary_not_0 o u x) e

binary_by_number : (b : Option Binary) (w : Option ExprTy) (x y : ℤ) → binary_by b w x y ≡ fault 0 → ⊥
binary_by_number none w x y e = let z = fault_injective {X = ℤ} 13 0 e in omega arith
binary_by_number (some o) none x y e = let z = fault_injective {X = ℤ} 13 0 e in omega arith
binary_by_number (some o) (some u) x y e = judged_number (type_of_binary o u) (apply_binary o u x y) (binary_not_0 o u x y) e

pub unary_number : (k t : ℕ) (x : ℤ) → unary_on k t x ≡ fault 0 → ⊥
unfolding unary_on
unary_number k t x e = unary_by_number (unary_for k) (type_of_tag t) x e

pub binary_number : (k t : ℕ) (x y : ℤ) → binary_on k t x y ≡ fault 0 → ⊥
unfolding binary_on
binary_number k t x y e = binary_by_number (binary_for k) (type_of_tag t) x y e
