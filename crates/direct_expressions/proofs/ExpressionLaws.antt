-- The stack machine on the operations of an expression is the expression's fold: they leave its value on top, or its refusal. Assumes nothing.
use Prim.Native.Nat.{ℕ, ◌+◌, ◌-◌, ◌≤◌, ◌<◌}
use mathlib.Core.Path.{◌≡◌, refl, sym, ap, ◌∙◌}
use mathlib.Core.Bool.{true, false}
use mathlib.Core.Option.{some}
use mathlib.Core.List.{List, [], ◌∷◌, ◌++◌}
use native.Mathlib.Omega.{arith}
use borrow.Author.Tests.{lt-ltb}
use lib.ListN.{length}
use lib.IntN.{ℤ, pos}
use Rattle.spec_design.specs.Types.{Ty, std_logic, integer, ExprTy, plain, boolean}
use Rattle.spec_design.specs.Expression.{Leaf, int, bit, input, variable, Unary, sign, invert, Binary, plus, minus, equal, unequal, less, at_most, greater}
use Rattle.spec_design.specs.Expression.{at_least, and, or, xor, times, divide, modulo, remainder, Expr, leaf, unary, binary, items, Out, fine, fault, bind}
use Rattle.spec_design.specs.Expression.{Algebra, fold, type_of_unary, type_of_binary, type_of}
use Rattle.spec_design.proofs.Postfix.{stack_law}
use Rattle.spec_semantics.specs.Evaluation.{leaf_value, values, evaluate}
use Rattle.base_ir.specs.Operations.{Op, op, leaf_op, ops}
use Rattle.base_codes.specs.Operation.{SIGN, NOT, unary_code, binary_code, count_or, operands_of}
use Rattle.base_codes.specs.Types.{tag_of}
use Rattle.base_ir.specs.Arrays.{ops_from}
use Rattle.base_ir.proofs.Laid.{unary_op, binary_op, ops_laid}
use Rattle.base_operators.specs.Operators.{unary_on, binary_on}
use Rattle.base_operators.proofs.Laws.{unary_taken, binary_taken}
use Rattle.direct_expressions.specs.Machine.{kind_of, pushed, step_of, run_ops, top_of, value_in, Performable}
use Rattle.spec_semantics.proofs.Typed.{bind_cong, given_some, given2_some}

-- NUMBERS

-- a number pushed
pushed_is : (o : Out ℤ) (st : List ℤ) → pushed o st ≡ bind o (λ z. fine (z ∷ st))
unfolding bind
pushed_is (fine z) st = refl
pushed_is (fault q) st = refl

-- an operator's argument is the number of its operands' type
kind_tag : (t : ExprTy) → kind_of (pos (tag_of t)) ≡ tag_of t
kind_tag (plain std_logic) = refl
kind_tag (plain integer) = refl
kind_tag boolean = refl

module _ (i v : List ℤ) where
  step_leaf : (l : Leaf) (st : List ℤ) → length st < 64 → step_of i v (leaf_op l) st ≡ bind ((values i v).of_leaf l) (λ x. fine (x ∷ st))
  unfolding step_of leaf_value bind
  step_leaf (int z) st h = rw (lt-ltb (length st) 64 h)
  step_leaf (bit true) st h = rw (lt-ltb (length st) 64 h)
  step_leaf (bit false) st h = rw (lt-ltb (length st) 64 h)
  step_leaf (input k) st h = rw (lt-ltb (length st) 64 h)
  step_leaf (variable k) st h = rw (lt-ltb (length st) 64 h)

  -- operators by their codes and the numbers of types, as the operations have them
  abbrev by_number : Algebra ℤ
  by_number =
      record { of_leaf = (values i v).of_leaf; of_unary = λ o t x. unary_on (unary_code o) (tag_of t) x; of_binary = λ o t x y. binary_on (binary_code o) (tag_of t) x y }

  -- operators take their operands from the stack
  step_unary : (o : Unary) (t : ExprTy) (x : ℤ) (st : List ℤ)
      → step_of i v (unary_op o t) (x ∷ st) ≡ bind (unary_on (unary_code o) (tag_of t) x) (λ z. fine (z ∷ st))
  step_unary o t x st = by_code o ∙ pushed_is (unary_on (unary_code o) (tag_of t) x) st
    where
      by_code : (o : Unary) → step_of i v (unary_op o t) (x ∷ st) ≡ pushed (unary_on (unary_code o) (tag_of t) x) st
      by_code sign = unfold step_of operands_of count_or in ap (λ (k : ℕ). pushed (unary_on SIGN k x) st) (kind_tag t)
      by_code invert = unfold step_of operands_of count_or in ap (λ (k : ℕ). pushed (unary_on NOT k x) st) (kind_tag t)

  by_code : (o : Binary) (z x y : ℤ) (st : List ℤ) → step_of i v (op (binary_code o) z) (y ∷ x ∷ st) ≡ pushed (binary_on (binary_code o) (kind_of z) x y) st
  unfolding step_of operands_of count_or
  by_code plus z x y st = refl
  by_code minus z x y st = refl
  by_code equal z x y st = refl
  by_code unequal z x y st = refl
  by_code less z x y st = refl
  by_code at_most z x y st = refl
  by_code greater z x y st = refl
  by_code at_least z x y st = refl
  by_code and z x y st = refl
  by_code or z x y st = refl
  by_code xor z x y st = refl
  by_code times z x y st = refl
  by_code divide z x y st = refl
  by_code modulo z x y st = refl
  by_code remainder z x y st = refl

  step_binary : (o : Binary) (t : ExprTy) (x y : ℤ) (st : List ℤ)
      → step_of i v (binary_op o t) (y ∷ x ∷ st) ≡ bind (binary_on (binary_code o) (tag_of t) x y) (λ z. fine (z ∷ st))
  step_binary o t x y st =
      by_code o (pos (tag_of t)) x y st
      ∙ (ap (λ (k : ℕ). pushed (binary_on (binary_code o) k x y) st) (kind_tag t) ∙ pushed_is (binary_on (binary_code o) (tag_of t) x y) st)

  -- an operation that pushes an outcome, then the others
  run_pushed : (o : Op) (os : List Op) (st st' : List ℤ) (r : Out ℤ) → step_of i v o st ≡ bind r (λ z. fine (z ∷ st'))
      → run_ops (step_of i v) (o ∷ os) st ≡ bind r (λ z. run_ops (step_of i v) os (z ∷ st'))
  unfolding run_ops bind
  run_pushed o os st st' (fine x) e = rw e
  run_pushed o os st st' (fault q) e = rw e

  -- the operations of an expression, then others, on a stack that has room for them: the law of postfix items
  run_numbers : (e : Expr) (os : List Op) (st : List ℤ) → length st + items e ≤ 64
      → run_ops (step_of i v) (ops e ++ os) st ≡ bind (fold by_number e) (λ z. run_ops (step_of i v) os (z ∷ st))
  run_numbers e os st h =
      stack_law by_number leaf_op unary_op binary_op ops ops_laid 64 (run_ops (step_of i v))
      (λ l k s f. run_pushed (leaf_op l) k s s ((values i v).of_leaf l) (step_leaf l s f))
      (λ o t k x s. run_pushed (unary_op o t) k (x ∷ s) s (unary_on (unary_code o) (tag_of t) x) (step_unary o t x s))
      (λ o t k x y s. run_pushed (binary_op o t) k (y ∷ x ∷ s) s (binary_on (binary_code o) (tag_of t) x y) (step_binary o t x y s))
      e os st h

  -- an operator that takes the type it stands with gives what it gives for that type
  fold_numbers : (is vs : List Ty) (e : Expr) (t : ExprTy) → type_of is vs e ≡ some t → fold by_number e ≡ fold (values i v) e
  unfolding type_of fold
  fold_numbers is vs (leaf l) t h = refl
  fold_numbers is vs (unary o s a) t h =
      let p = given_some (type_of_unary o) s t (type_of is vs a) h in
      ap (λ z. bind z (λ x. unary_on (unary_code o) (tag_of s) x)) (fold_numbers is vs a s p.0)
      ∙ bind_cong (fold (values i v) a) _ _ (λ x. unary_taken o s t x p.1)
  fold_numbers is vs (binary o s a b) t h =
      let p = given2_some (type_of_binary o) s t (type_of is vs a) (type_of is vs b) h in
      ap (λ z. bind z (λ x. bind (fold by_number b) (λ y. binary_on (binary_code o) (tag_of s) x y))) (fold_numbers is vs a s p.0)
      ∙ bind_cong (fold (values i v) a) _ _ (λ x.
      ap (λ z. bind z (λ y. binary_on (binary_code o) (tag_of s) x y)) (fold_numbers is vs b s p.1)
      ∙ bind_cong (fold (values i v) b) _ _ (λ y. binary_taken o s t x y p.2))

  run_expr : (e : Expr) (os : List Op) (st : List ℤ) → length st + items e ≤ 64 → Performable e
      → run_ops (step_of i v) (ops e ++ os) st ≡ bind (evaluate e i v) (λ z. run_ops (step_of i v) os (z ∷ st))
  unfolding evaluate
  run_expr e os st h p =
      run_numbers e os st h ∙ ap (λ (r : Out ℤ). bind r (λ z. run_ops (step_of i v) os (z ∷ st))) (fold_numbers p.inputs p.variables e p.type p.typed)

  one : (r : Out ℤ) → bind (bind r (λ z. run_ops (step_of i v) [] (z ∷ []))) top_of ≡ r
  unfolding bind run_ops
  one (fine z) = refl
  one (fault q) = refl

  append-nil : (l : List Op) → l ++ [] ≡ l
  append-nil [] = refl
  append-nil (x ∷ l) = ap (λ (r : List Op). x ∷ r) (append-nil l)

  -- the value of an expression that the arrays hold from operation m on
  pub value_expr : (codes : List ℕ) (args : List ℤ) (m : ℕ) (e : Expr) → ops_from codes args m (length (ops e)) ≡ ops e → Performable e
      → value_in codes args m (m + length (ops e)) i v ≡ evaluate e i v
  unfolding value_in
  value_expr codes args m e h n =
      let z : m + length (ops e) - m ≡ length (ops e) = omega arith in
      rw (z, h) (ap (λ (l : List Op). bind (run_ops (step_of i v) l []) top_of) (sym (append-nil (ops e)))
      ∙ (ap (λ (r : Out (List ℤ)). bind r top_of) (run_expr e [] [] (omega (arith, n.short)) n) ∙ one (evaluate e i v)))

  -- an answer for what the operations leave is one for the expression's value
  pub value_told : (codes : List ℕ) (args : List ℤ) (m n : ℕ) (r : Out ℤ) → r ≡ value_in codes args m n i v → (e : Expr)
      → ops_from codes args m (length (ops e)) ≡ ops e → n ≡ m + length (ops e) → Performable e → r ≡ evaluate e i v
  value_told codes args m n r q e h k l =
      q ∙ (ap (λ (y : ℕ). value_in codes args m y i v) k ∙ value_expr codes args m e h l)
