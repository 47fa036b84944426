-- Evaluation depends only on the inputs and variables that the expression names: by induction on the expression. Assumes nothing.
use Prim.Native.Nat.{ℕ}
use mathlib.Core.Path.{◌≡◌, refl, ap}
use mathlib.Core.Bool.{true}
use mathlib.Core.List.{List}
use lib.ListN.{get_or}
use lib.IntN.{ℤ, pos}
use Rattle.spec_design.specs.Expression.{Leaf, int, bit, input, variable, Expr, leaf, unary, binary, fine, fold}
use Rattle.spec_semantics.specs.Evaluation.{leaf_value, evaluate}
use Rattle.spec_semantics.specs.Names.{leaf_reads_input, leaf_reads_variable, reads_input, reads_variable}
use Rattle.spec_semantics.proofs.Basic.{eqb_same, or_left, or_right}

module _ (i i' v v' : List ℤ) where
  leaf_depends : (l : Leaf) → ((k : ℕ) → leaf_reads_input l k ≡ true → get_or i k (pos 0) ≡ get_or i' k (pos 0))
      → ((k : ℕ) → leaf_reads_variable l k ≡ true → get_or v k (pos 0) ≡ get_or v' k (pos 0)) → leaf_value i v l ≡ leaf_value i' v' l
  unfolding leaf_value leaf_reads_input leaf_reads_variable
  leaf_depends (int z) hi hv = refl
  leaf_depends (bit b) hi hv = refl
  leaf_depends (input k) hi hv = hi k (eqb_same k)
  leaf_depends (variable k) hi hv = hv k (eqb_same k)

  -- Two rows and two lists of variables that agree on what the expression names give the same result, refusals included.
  pub depends_only : (e : Expr) → ((k : ℕ) → reads_input e k ≡ true → get_or i k (pos 0) ≡ get_or i' k (pos 0))
      → ((k : ℕ) → reads_variable e k ≡ true → get_or v k (pos 0) ≡ get_or v' k (pos 0)) → evaluate e i v ≡ evaluate e i' v'
  unfolding evaluate fold reads_input reads_variable
  depends_only (leaf l) hi hv = ap fine (leaf_depends l hi hv)
  depends_only (unary o t a) hi hv = rw (depends_only a hi hv)
  depends_only (binary o t a b) hi hv =
      rw (
        depends_only a (λ k h. hi k (or_left _ _ h)) (λ k h. hv k (or_left _ _ h)),
        depends_only b (λ k h. hi k (or_right (reads_input a k) _ h)) (λ k h. hv k (or_right (reads_variable a k) _ h)),
      )
