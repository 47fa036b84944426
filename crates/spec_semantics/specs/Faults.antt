-- Refusals 16 and 18 of an expression, without a method: which operator is refused, operands before operators, left before right. Assumes nothing.
use Rattle.std.specs.Prelude.{◌≡◌, false, List, ℕ, ℤ, neg_ℤ}
use Rattle.spec_design.specs.Types.{ExprTy, in_range}
use Rattle.spec_design.specs.Expression.{Unary, sign, Binary, Expr, unary, binary, fine}
use Rattle.spec_semantics.specs.Evaluation.{OperatorRefused, evaluate}

-- over the input row i and the variables v the expression is refused by q; a right operand is reached where the left has a value
pub data Faults (i v : List ℤ) : Expr → ℕ → Type 0 where
  in_operand : {o : Unary} {t : ExprTy} {a : Expr} {q : ℕ} → Faults i v a q → Faults i v (unary o t a) q
  at_sign : {t : ExprTy} {a : Expr} (x : ℤ) → evaluate a i v ≡ fine x → in_range (neg_ℤ x) ≡ false → Faults i v (unary sign t a) 16
  in_left : {o : Binary} {t : ExprTy} {a b : Expr} {q : ℕ} → Faults i v a q → Faults i v (binary o t a b) q
  in_right : {o : Binary} {t : ExprTy} {a b : Expr} {q : ℕ} (x : ℤ) → evaluate a i v ≡ fine x → Faults i v b q → Faults i v (binary o t a b) q
  at_operator : {o : Binary} {t : ExprTy} {a b : Expr} {q : ℕ} (x y : ℤ) → evaluate a i v ≡ fine x → evaluate b i v ≡ fine y → OperatorRefused o t x y q
      → Faults i v (binary o t a b) q
