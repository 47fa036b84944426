-- A typed expression reads declared variables only, so that its value over a state's 32 slots is its value over the slots that are used. By induction
-- on the expression. Assumes nothing.
use Prim.Native.Nat.{ℕ, ◌<◌}
use native.Mathlib.Omega.{arith}
use mathlib.Core.Path.{◌≡◌, refl, sym}
use mathlib.Core.Bool.{Bool, true, false, cond, ◌||◌}
use mathlib.Core.Option.{Option, none, some}
use mathlib.Core.List.{List}
use lib.ListN.{length, take}
use lib.Seq.{get_or-take}
use lib.IntN.{ℤ, pos}
use Rattle.spec_design.specs.Types.{Ty, ExprTy, same_type}
use Rattle.spec_design.specs.Expression.{Leaf, int, bit, input, variable, Expr, leaf, unary, binary, nth, plainly, leaf_type, type_of_unary, type_of_binary, given}
use Rattle.spec_design.specs.Expression.{given2, type_of}
use Rattle.spec_semantics.specs.Evaluation.{evaluate}
use Rattle.spec_semantics.specs.Names.{leaf_reads_variable, reads_variable}
use Rattle.spec_semantics.proofs.Basic.{false_true, none_some, eqb-true}
use Rattle.spec_semantics.proofs.Names.{depends_only}
use Rattle.spec_semantics.proofs.Typed.{nth_below}

plainly_some : (o : Option Ty) (t : ExprTy) → plainly o ≡ some t → (u : Ty) × (o ≡ some u)
unfolding plainly
plainly_some none t e = none_some t e
plainly_some (some u) t e = (u, refl)

-- an operator's operands are typed
given_operand : (f : ExprTy → Option ExprTy) (s t : ExprTy) (o : Option ExprTy) → given f s o ≡ some t → (u : ExprTy) × (o ≡ some u)
unfolding given
given_operand f s t none e = none_some t e
given_operand f s t (some u) e = (u, refl)

given2_operands : (f : ExprTy → Option ExprTy) (s t : ExprTy) (o q : Option ExprTy) → given2 f s o q ≡ some t
    → ((u : ExprTy) × (o ≡ some u)) × ((u : ExprTy) × (q ≡ some u))
unfolding given2
given2_operands f s t none q e = none_some t e
given2_operands f s t (some u) q e = ((u, refl), pick (same_type s u) e)
  where
    pick : (b : Bool) → cond b (given f s q) none ≡ some t → (w : ExprTy) × (q ≡ some w)
    pick true h = given_operand f s t q h
    pick false h = none_some t h

either : {P : Type 0} (x y : Bool) → (x ≡ true → P) → (y ≡ true → P) → (x || y) ≡ true → P
either true y f g r = f refl
either false y f g r = g r

module _ (is vs : List Ty) where
  leaf_declared : (l : Leaf) (t : ExprTy) (k : ℕ) → leaf_type is vs l ≡ some t → leaf_reads_variable l k ≡ true → k < length vs
  unfolding leaf_type leaf_reads_variable
  leaf_declared (int z) t k h r = false_true r
  leaf_declared (bit b) t k h r = false_true r
  leaf_declared (input j) t k h r = false_true r
  leaf_declared (variable j) t k h r =
      let p = plainly_some (nth vs j) t h in
      let b = nth_below vs j p.0 p.1 in
      let e = eqb-true j k r in
      omega arith

  -- a variable that a typed expression reads is declared
  declared : (e : Expr) (t : ExprTy) (k : ℕ) → type_of is vs e ≡ some t → reads_variable e k ≡ true → k < length vs
  unfolding type_of reads_variable
  declared (leaf l) t k h r = leaf_declared l t k h r
  declared (unary o s a) t k h r = let p = given_operand (type_of_unary o) s t (type_of is vs a) h in declared a p.0 k p.1 r
  declared (binary o s a b) t k h r =
      let p = given2_operands (type_of_binary o) s t (type_of is vs a) (type_of is vs b) h in
      either (reads_variable a k) (reads_variable b k) (λ q. declared a p.0.0 k p.0.1 q) (λ q. declared b p.1.0 k p.1.1 q) r

  pub value_slots : (e : Expr) (t : ExprTy) (i v : List ℤ) → type_of is vs e ≡ some t → evaluate e i v ≡ evaluate e i (take (length vs) v)
  value_slots e t i v h =
      depends_only i i v (take (length vs) v) e (λ k r. refl) (λ k r. sym (get_or-take (length vs) v k (pos 0) (declared e t k h r)))
