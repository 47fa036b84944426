-- Expressions with their names resolved, the types of their operators, and recursion over them. Assumes nothing.
use Rattle.std.specs.Prelude.{Bool, cond, List, [], ◌∷◌, ℕ, zero, suc, ◌+◌, ℤ}
use Rattle.std.proofs.Math.Option.{Option, none, some}
use Rattle.spec_design.specs.Types.{Ty, std_logic, integer, ExprTy, plain, boolean, same_type, in_range}

-- an integer literal; '0' or '1'; the k-th data input or the k-th variable, counted from 0 in declared order
pub data Leaf : Type 0 where
  int : ℤ → Leaf
  bit : Bool → Leaf
  input : ℕ → Leaf
  variable : ℕ → Leaf

-- the sign -; not
pub data Unary : Type 0 where
  sign invert : Unary

-- + - = /= < <= > >= and or xor; * / mod rem
pub data Binary : Type 0 where
  plus minus equal unequal less at_most greater at_least and or xor times divide modulo remainder : Binary

-- an operator stands with the type of its operands; the left operand comes first
pub data Expr : Type 0 where
  leaf : Leaf → Expr
  unary : Unary → ExprTy → Expr → Expr
  binary : Binary → ExprTy → Expr → Expr → Expr

-- "64 literals, names and operators in an expression": how many an expression has
unfoldable pub items : Expr → ℕ
items (leaf l) = 1
items (unary o t a) = suc (items a)
items (binary o t a b) = suc (items a + items b)

-- Types of operators: the result's type from the type of the operands, or none.

-- "+ - .. take integers", and so does the sign
unfoldable pub sum_type : ExprTy → Option ExprTy
sum_type (plain std_logic) = none
sum_type (plain integer) = some (plain integer)
sum_type boolean = none

-- ".. and the orders take integers"
unfoldable pub order_type : ExprTy → Option ExprTy
order_type (plain std_logic) = none
order_type (plain integer) = some boolean
order_type boolean = none

-- "= /= two integers or two std_logics"
unfoldable pub equality_type : ExprTy → Option ExprTy
equality_type (plain t) = some boolean
equality_type boolean = none

-- "and or xor not booleans or std_logics"
unfoldable pub logical_type : ExprTy → Option ExprTy
logical_type (plain std_logic) = some (plain std_logic)
logical_type (plain integer) = none
logical_type boolean = some boolean

unfoldable pub type_of_unary : Unary → ExprTy → Option ExprTy
type_of_unary sign t = sum_type t
type_of_unary invert t = logical_type t

unfoldable pub type_of_binary : Binary → ExprTy → Option ExprTy
type_of_binary plus t = sum_type t
type_of_binary minus t = sum_type t
type_of_binary equal t = equality_type t
type_of_binary unequal t = equality_type t
type_of_binary less t = order_type t
type_of_binary at_most t = order_type t
type_of_binary greater t = order_type t
type_of_binary at_least t = order_type t
type_of_binary and t = logical_type t
type_of_binary or t = logical_type t
type_of_binary xor t = logical_type t
type_of_binary times t = sum_type t
type_of_binary divide t = sum_type t
type_of_binary modulo t = sum_type t
type_of_binary remainder t = sum_type t

-- Recursion over an expression: what an algebra makes of the leaves and, left operand first, of the operators. A fault is a refusal's number.
pub data Out (X : Type 0) : Type 0 where
  fine : X → Out X
  fault : ℕ → Out X

unfoldable pub bind : {X Y : Type 0} → Out X → (X → Out Y) → Out Y
bind (fine x) k = k x
bind (fault n) k = fault n

pub record Algebra (X : Type 0) : Type 0 where
  pub of_leaf : Leaf → Out X
  pub of_unary : Unary → ExprTy → X → Out X
  pub of_binary : Binary → ExprTy → X → X → Out X

unfoldable pub fold : {X : Type 0} → Algebra X → Expr → Out X
fold A (leaf l) = A.of_leaf l
fold A (unary o t a) = bind (fold A a) (λ x. A.of_unary o t x)
fold A (binary o t a b) = bind (fold A a) (λ x. bind (fold A b) (λ y. A.of_binary o t x y))

-- The type of an expression over the types of the data inputs and of the variables; none where a name, a literal or an operator is wrong.
unfoldable pub nth : {X : Type 0} → List X → ℕ → Option X
nth [] k = none
nth (x ∷ l) zero = some x
nth (x ∷ l) (suc k) = nth l k

unfoldable pub plainly : Option Ty → Option ExprTy
plainly none = none
plainly (some t) = some (plain t)

unfoldable pub leaf_type : List Ty → List Ty → Leaf → Option ExprTy
leaf_type is vs (int z) = cond (in_range z) (some (plain integer)) none
leaf_type is vs (bit b) = some (plain std_logic)
leaf_type is vs (input k) = plainly (nth is k)
leaf_type is vs (variable k) = plainly (nth vs k)

-- an operand of the type t gives the type f t
unfoldable pub given : (ExprTy → Option ExprTy) → ExprTy → Option ExprTy → Option ExprTy
given f t none = none
given f t (some u) = cond (same_type t u) (f t) none

unfoldable pub given2 : (ExprTy → Option ExprTy) → ExprTy → Option ExprTy → Option ExprTy → Option ExprTy
given2 f t none q = none
given2 f t (some u) q = cond (same_type t u) (given f t q) none

unfoldable pub type_of : List Ty → List Ty → Expr → Option ExprTy
type_of is vs (leaf l) = leaf_type is vs l
type_of is vs (unary o t a) = given (type_of_unary o) t (type_of is vs a)
type_of is vs (binary o t a b) = given2 (type_of_binary o) t (type_of is vs a) (type_of is vs b)
