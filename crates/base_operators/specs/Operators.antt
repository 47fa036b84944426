-- Operators by number, on operands of a type by number (document 01, "Types", "Image, form 1"): what they give, by design's types and semantics' values.
-- Assumes nothing.
use Rattle.std.specs.Prelude.{◌≡◌, List, ℕ, set, ℤ, Result, Err, IsOk}
use Rattle.base_codes.specs.declared.fault.Fault.{Fault}
use Rattle.base_codes.specs.Fault.{number_of}
use Rattle.std.proofs.Math.Option.{Option, none, some}
use Rattle.spec_design.specs.Types.{ExprTy}
use Rattle.spec_design.specs.Expression.{Unary, Binary, type_of_unary, type_of_binary, Out, fine, fault}
use Rattle.spec_semantics.specs.Evaluation.{apply_unary, apply_binary}
use Rattle.base_codes.specs.Operation.{unary_for, binary_for}
use Rattle.base_codes.specs.Types.{type_of_tag}

-- a value where the result has a type; 13 where the operator does not take its operands
abbrev pub judged : Option ExprTy → Out ℤ → Out ℤ
judged none v = fault 13
judged (some t) v = v

-- an operator on operands of a type; 13 where there is no such operator or no such type
abbrev pub unary_by : Option Unary → Option ExprTy → ℤ → Out ℤ
unary_by none u x = fault 13
unary_by (some o) none x = fault 13
unary_by (some o) (some u) x = judged (type_of_unary o u) (apply_unary o u x)

-- for the left operand x and the right operand y
abbrev pub binary_by : Option Binary → Option ExprTy → ℤ → ℤ → Out ℤ
binary_by none u x y = fault 13
binary_by (some o) none x y = fault 13
binary_by (some o) (some u) x y = judged (type_of_binary o u) (apply_binary o u x y)

-- the operator with the code op on operands of the type with the number t
unfoldable pub unary_on : ℕ → ℕ → ℤ → Out ℤ
unary_on op t x = unary_by (unary_for op) (type_of_tag t) x

unfoldable pub binary_on : ℕ → ℕ → ℤ → ℤ → Out ℤ
binary_on op t x y = binary_by (binary_for op) (type_of_tag t) x y

-- an operator that gives o has been applied at i of the stack a, which leaves b, with the answer r: its value stands at i; or it is refused, and the stack is
-- as it was
pub record Applied (o : Out ℤ) (a : List ℤ) (i : ℕ) (b : List ℤ) (r : Result Unit Fault) : Type 0 where
  pub value : IsOk r → (v : ℤ) × (o ≡ fine v) × (b ≡ set a i v)
  pub refused : (q : Fault) → r ≡ Err q → (o ≡ fault (number_of q)) × (b ≡ a)
