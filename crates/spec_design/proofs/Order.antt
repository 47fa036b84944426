-- "Both operands are always evaluated, left first": over any algebra the first refusal, from left to right, is the operator's. It shows where
-- operators are refused by several numbers, as by 16 and 18. Assumes nothing.
use mathlib.Core.Path.{◌≡◌, refl}
use Prim.Native.Nat.{ℕ}
use Rattle.spec_design.specs.Types.{ExprTy, plain, integer}
use Rattle.spec_design.specs.Expression.{Leaf, int, bit, input, variable, Binary, plus, Expr, leaf, binary, Out, fine, fault, Algebra, fold, bind}

-- the left operand's refusal decides, whatever the right one gives
pub left_first : {X : Type 0} (A : Algebra X) (o : Binary) (t : ExprTy) (a b : Expr) (n : ℕ) → fold A a ≡ fault n → fold A (binary o t a b) ≡ fault n
unfolding fold bind
left_first A o t a b n e = rw e

-- the right operand's refusal decides where the left one has none
pub right_second : {X : Type 0} (A : Algebra X) (o : Binary) (t : ExprTy) (a b : Expr) (x : X) (n : ℕ) → fold A a ≡ fine x → fold A b ≡ fault n
    → fold A (binary o t a b) ≡ fault n
unfolding fold bind
right_second A o t a b x n e f = rw (e, f)

-- an algebra that refuses the k-th input by the number k
refuses : Leaf → Out ℕ
refuses (int z) = fine 0
refuses (bit b) = fine 0
refuses (input k) = fault k
refuses (variable k) = fine 0

by_input : Algebra ℕ
by_input = record { of_leaf = refuses; of_unary = λ o t x. fine x; of_binary = λ o t x y. fine x }

-- input 1 + input 2 is refused by 1
left_decides : fold by_input (binary plus (plain integer) (leaf (input 1)) (leaf (input 2))) ≡ fault 1
unfolding fold bind by_input refuses
left_decides = refl
