-- An expression is refused by a number exactly where `Faults` says so: by induction on the expression. Assumes nothing.
use Prim.Native.Nat.{ℕ, ◌≤◌}
use mathlib.Core.Path.{◌≡◌, refl, sym, ◌∙◌}
use mathlib.Core.Logic.{◌↔◌, inl, inr}
use mathlib.Core.Bool.{Bool, true, false, cond}
use mathlib.Core.List.{List}
use native.Mathlib.Omega.{arith}
use lib.IntN.{ℤ, pos, ◌+ℤ◌, ◌-ℤ◌, ◌*ℤ◌, neg_ℤ}
use lib.Signed.{quot_z}
use Rattle.spec_design.specs.Types.{ExprTy, eq_z, in_range}
use Rattle.spec_design.specs.Expression.{Leaf, Unary, sign, invert, Binary, plus, minus, equal, unequal, less, at_most, greater, at_least, and, or, xor, times}
use Rattle.spec_design.specs.Expression.{divide, modulo, remainder, Expr, leaf, unary, binary, Out, fine, fault, bind, fold}
use Rattle.spec_semantics.specs.Division.{by_nonzero}
use Rattle.spec_semantics.specs.Evaluation.{unary_result, binary_result, as_integer, apply_unary, apply_binary, evaluate, OperatorNumber, OperatorRefused, sum}
use Rattle.spec_semantics.specs.Evaluation.{difference, product, quotient, divided_by_0, modulo_0, remainder_by_0}
use Rattle.spec_semantics.specs.Faults.{Faults, in_operand, at_sign, in_left, in_right, at_operator}
use Rattle.spec_semantics.proofs.Basic.{fault_fine, fault_injective}

as_integer_fault : (z : ℤ) (q : ℕ) → as_integer z ≡ fault q → (in_range z ≡ false) × (q ≡ 16)
unfolding as_integer
as_integer_fault z q e = go (in_range z) refl e
  where
    go : (b : Bool) → in_range z ≡ b → cond b (fine z) (fault 16) ≡ fault q → (in_range z ≡ false) × (q ≡ 16)
    go true h e = fault_fine q z (sym e)
    go false h e = (h, sym (fault_injective {X = ℤ} 16 q e))

outside_as_integer : (z : ℤ) → in_range z ≡ false → as_integer z ≡ fault 16
unfolding as_integer
outside_as_integer z e = rw e

-- a number's refusal told by the integer, over what holds of the refusal
refused_integer : (P : ℕ → Type 0) (z : ℤ) (q : ℕ) → as_integer z ≡ fault q → (in_range z ≡ false → P 16) → P q
refused_integer P z q e f = let r = as_integer_fault z q e in rw r.1 (f r.0)

-- a divisor: 0 is refused by 18, any other leaves what comes of the operands
refused_divisor : (P : ℕ → Type 0) (y : ℤ) (o : Out ℤ) (q : ℕ) → by_nonzero y o ≡ fault q → (eq_z y (pos 0) ≡ true → P 18)
    → (eq_z y (pos 0) ≡ false → o ≡ fault q → P q) → P q
unfolding by_nonzero
refused_divisor P y o q e f g = go (eq_z y (pos 0)) refl e
  where
    go : (b : Bool) → eq_z y (pos 0) ≡ b → cond b (fault 18) o ≡ fault q → P q
    go true h e = rw (← fault_injective {X = ℤ} 18 q e) (f h)
    go false h e = g h e

pub by_0 : (y : ℤ) (o : Out ℤ) → eq_z y (pos 0) ≡ true → by_nonzero y o ≡ fault 18
unfolding by_nonzero
by_0 y o e = rw e

pub by_other : (y : ℤ) (o : Out ℤ) → eq_z y (pos 0) ≡ false → by_nonzero y o ≡ o
unfolding by_nonzero
by_other y o e = rw e

-- an operator is refused exactly where `OperatorRefused` says so
binary_refused : (o : Binary) (t : ExprTy) (x y : ℤ) (q : ℕ) → apply_binary o t x y ≡ fault q → OperatorRefused o t x y q
unfolding apply_binary binary_result
binary_refused plus t x y q e = refused_integer (OperatorRefused plus t x y) (x +ℤ y) q e sum
binary_refused minus t x y q e = refused_integer (OperatorRefused minus t x y) (x -ℤ y) q e difference
binary_refused equal t x y q e = fault_fine q _ (sym e)
binary_refused unequal t x y q e = fault_fine q _ (sym e)
binary_refused less t x y q e = fault_fine q _ (sym e)
binary_refused at_most t x y q e = fault_fine q _ (sym e)
binary_refused greater t x y q e = fault_fine q _ (sym e)
binary_refused at_least t x y q e = fault_fine q _ (sym e)
binary_refused and t x y q e = fault_fine q _ (sym e)
binary_refused or t x y q e = fault_fine q _ (sym e)
binary_refused xor t x y q e = fault_fine q _ (sym e)
binary_refused times t x y q e = refused_integer (OperatorRefused times t x y) (x *ℤ y) q e product
binary_refused divide t x y q e =
    refused_divisor (OperatorRefused divide t x y) y (as_integer (quot_z x y)) q e divided_by_0
    (λ h f. refused_integer (OperatorRefused divide t x y) (quot_z x y) q f (quotient h))
binary_refused modulo t x y q e = refused_divisor (OperatorRefused modulo t x y) y _ q e modulo_0 (λ h f. fault_fine q _ (sym f))
binary_refused remainder t x y q e = refused_divisor (OperatorRefused remainder t x y) y _ q e remainder_by_0 (λ h f. fault_fine q _ (sym f))

refused_binary : (o : Binary) (t : ExprTy) (x y : ℤ) (q : ℕ) → OperatorRefused o t x y q → apply_binary o t x y ≡ fault q
unfolding apply_binary binary_result
refused_binary o t x y q (sum e) = outside_as_integer (x +ℤ y) e
refused_binary o t x y q (difference e) = outside_as_integer (x -ℤ y) e
refused_binary o t x y q (product e) = outside_as_integer (x *ℤ y) e
refused_binary o t x y q (quotient h e) = by_other y (as_integer (quot_z x y)) h ∙ outside_as_integer (quot_z x y) e
refused_binary o t x y q (divided_by_0 h) = by_0 y _ h
refused_binary o t x y q (modulo_0 h) = by_0 y _ h
refused_binary o t x y q (remainder_by_0 h) = by_0 y _ h

-- the two numbers stand behind 15 in the table
pub operator_number : (q : ℕ) → OperatorNumber q → (16 ≤ q) × (q ≤ 18)
operator_number q (inl e) = (omega arith, omega arith)
operator_number q (inr e) = (omega arith, omega arith)

refused_number : (o : Binary) (t : ExprTy) (x y : ℤ) (q : ℕ) → OperatorRefused o t x y q → OperatorNumber q
refused_number o t x y q (sum e) = inl refl
refused_number o t x y q (difference e) = inl refl
refused_number o t x y q (product e) = inl refl
refused_number o t x y q (quotient h e) = inl refl
refused_number o t x y q (divided_by_0 h) = inr refl
refused_number o t x y q (modulo_0 h) = inr refl
refused_number o t x y q (remainder_by_0 h) = inr refl

module _ (i v : List ℤ) where
  -- the equations of evaluation
  pub evaluate_unary : (o : Unary) (t : ExprTy) (a : Expr) → evaluate (unary o t a) i v ≡ bind (evaluate a i v) (λ x. apply_unary o t x)
  unfolding evaluate fold
  evaluate_unary o t a = refl

  pub evaluate_binary : (o : Binary) (t : ExprTy) (a b : Expr)
      → evaluate (binary o t a b) i v ≡ bind (evaluate a i v) (λ x. bind (evaluate b i v) (λ y. apply_binary o t x y))
  unfolding evaluate fold
  evaluate_binary o t a b = refl

  unary_faults : (o : Unary) (t : ExprTy) (a : Expr) (x : ℤ) (q : ℕ) → evaluate a i v ≡ fine x → apply_unary o t x ≡ fault q → Faults i v (unary o t a) q
  unfolding apply_unary unary_result
  unary_faults sign t a x q h e = refused_integer (Faults i v (unary sign t a)) (neg_ℤ x) q e (at_sign x h)
  unary_faults invert t a x q h e = fault_fine q _ (sym e)

  leaf_fine : (l : Leaf) (q : ℕ) → evaluate (leaf l) i v ≡ fault q → Faults i v (leaf l) q
  unfolding evaluate fold
  leaf_fine l q e = fault_fine q _ (sym e)

  pub fault_faults : (e : Expr) (q : ℕ) → evaluate e i v ≡ fault q → Faults i v e q
  unfolding bind
  fault_faults (leaf l) q h = leaf_fine l q h
  fault_faults (unary o t a) q h = go (evaluate a i v) refl (sym (evaluate_unary o t a) ∙ h) (fault_faults a)
    where
      go : (r : Out ℤ) → evaluate a i v ≡ r → bind r (λ x. apply_unary o t x) ≡ fault q → ((q : ℕ) → evaluate a i v ≡ fault q → Faults i v a q)
          → Faults i v (unary o t a) q
      go (fine x) g m ia = unary_faults o t a x q g m
      go (fault n) g m ia = rw (← fault_injective {X = ℤ} n q m) (in_operand (ia n g))
  fault_faults (binary o t a b) q h = go (evaluate a i v) refl (sym (evaluate_binary o t a b) ∙ h) (fault_faults a) (fault_faults b)
    where
      go : (r : Out ℤ) → evaluate a i v ≡ r → bind r (λ x. bind (evaluate b i v) (λ y. apply_binary o t x y)) ≡ fault q
          → ((q : ℕ) → evaluate a i v ≡ fault q → Faults i v a q) → ((q : ℕ) → evaluate b i v ≡ fault q → Faults i v b q) → Faults i v (binary o t a b) q
      go (fault n) g m ia ib = rw (← fault_injective {X = ℤ} n q m) (in_left (ia n g))
      go (fine x) g m ia ib = right (evaluate b i v) refl m
        where
          right : (r : Out ℤ) → evaluate b i v ≡ r → bind r (λ y. apply_binary o t x y) ≡ fault q → Faults i v (binary o t a b) q
          right (fine y) g' m' = at_operator x y g g' (binary_refused o t x y q m')
          right (fault n) g' m' = rw (← fault_injective {X = ℤ} n q m') (in_right x g (ib n g'))

  pub faults_fault : (e : Expr) (q : ℕ) → Faults i v e q → evaluate e i v ≡ fault q
  unfolding bind apply_unary unary_result
  faults_fault e q (in_operand {o = o} {t = t} {a = a} h) = evaluate_unary o t a ∙ rw (faults_fault a q h)
  faults_fault e q (at_sign {t = t} {a = a} x h f) = evaluate_unary sign t a ∙ rw h (outside_as_integer (neg_ℤ x) f)
  faults_fault e q (in_left {o = o} {t = t} {a = a} {b = b} h) = evaluate_binary o t a b ∙ rw (faults_fault a q h)
  faults_fault e q (in_right {o = o} {t = t} {a = a} {b = b} x h g) = evaluate_binary o t a b ∙ rw (h, faults_fault b q g)
  faults_fault e q (at_operator {o = o} {t = t} {a = a} {b = b} x y h g r) = evaluate_binary o t a b ∙ rw (h, g) (refused_binary o t x y q r)

  -- An expression is refused by q exactly where `Faults` says so.
  pub fault_exactly : (e : Expr) (q : ℕ) → (evaluate e i v ≡ fault q) ↔ Faults i v e q
  fault_exactly e q = (fault_faults e q, faults_fault e q)

  -- 16 and 18 alone arise.
  pub faults_number : (e : Expr) (q : ℕ) → Faults i v e q → OperatorNumber q
  faults_number e q (in_operand {a = a} h) = faults_number a q h
  faults_number e q (at_sign x h f) = inl refl
  faults_number e q (in_left {a = a} h) = faults_number a q h
  faults_number e q (in_right {b = b} x h g) = faults_number b q g
  faults_number e q (at_operator {o = o} {t = t} x y h g r) = refused_number o t x y q r

  pub fault_number : (e : Expr) (q : ℕ) → evaluate e i v ≡ fault q → OperatorNumber q
  fault_number e q h = faults_number e q (fault_faults e q h)
