-- Operations of an expression run on a stack of numbers: what each does by its code, and what they leave. Assumes nothing.
use Rattle.std.specs.Prelude.{cond, ◌≡◌, List, [], ◌∷◌, ℕ, ◌-◌, ◌≤◌, length, get_or, ℤ, pos, eqb, ltb}
use Rattle.std.proofs.Math.Option.{some}
use Rattle.spec_design.specs.Types.{Ty, ExprTy}
use Rattle.spec_design.specs.Expression.{Expr, items, type_of, Out, fine, fault, bind}
use Rattle.spec_semantics.specs.Twos.{unsigned32}
use Rattle.base_codes.specs.Operation.{INPUT, VARIABLE, operands_of}
use Rattle.base_codes.specs.Types.{NONE}
use Rattle.base_operators.specs.Operators.{unary_on, binary_on}
use Rattle.base_ir.specs.Operations.{Op}
use Rattle.base_ir.specs.Arrays.{ops_from}

-- the number of a type that an operator's operation has as its argument; 255, no type's, where it has none
abbrev pub kind_of : ℤ → ℕ
kind_of z = cond (ltb (unsigned32 z) NONE) (unsigned32 z) NONE

-- a number, if there is one, goes on the stack, whose top is first
abbrev pub pushed : Out ℤ → List ℤ → Out (List ℤ)
pushed (fine z) st = fine (z ∷ st)
pushed (fault q) st = fault q

-- a number goes on a stack that has room for 64
abbrev pub pushed_within : ℤ → List ℤ → Out (List ℤ)
pushed_within z st = cond (ltb (length st) 64) (fine (z ∷ st)) (fault 13)

-- the operator with the code k for operands of the type with the number t, on the stack; 13 where there are too few
abbrev pub unary_next : ℕ → ℕ → List ℤ → Out (List ℤ)
unary_next k t [] = fault 13
unary_next k t (x ∷ st) = pushed (unary_on k t x) st

-- an operator of two operands, the right one on top
abbrev pub binary_next : ℕ → ℕ → List ℤ → Out (List ℤ)
binary_next k t [] = fault 13
binary_next k t (y ∷ []) = fault 13
binary_next k t (y ∷ x ∷ st) = pushed (binary_on k t x y) st

-- one operation on the stack, over the input row i and the variables v: literals, inputs and variables are pushed, operators applied
unfoldable pub step_of : List ℤ → List ℤ → Op → List ℤ → Out (List ℤ)
step_of i v o st =
    cond (ltb o.code INPUT) (pushed_within o.arg st)
    (cond (eqb o.code INPUT) (pushed_within (get_or i (unsigned32 o.arg) (pos 0)) st)
    (cond (eqb o.code VARIABLE) (pushed_within (get_or v (unsigned32 o.arg) (pos 0)) st)
    (cond (eqb (operands_of o.code) 1) (unary_next o.code (kind_of o.arg) st) (binary_next o.code (kind_of o.arg) st))))

-- operations one after another, each as `step` has it; the first refusal ends them
unfoldable pub run_ops : {X : Type 0} → (Op → List X → Out (List X)) → List Op → List X → Out (List X)
run_ops step [] st = fine st
run_ops step (o ∷ os) st = bind (step o st) (λ u. run_ops step os u)

-- the number on top; 13 where there is none
abbrev pub top_of : List ℤ → Out ℤ
top_of [] = fault 13
top_of (x ∷ st) = fine x

-- what the operations from .. to leave
unfoldable pub value_in : List ℕ → List ℤ → ℕ → ℕ → List ℤ → List ℤ → Out ℤ
value_in codes args from to i v = bind (run_ops (step_of i v) (ops_from codes args from (to - from)) []) top_of

-- an expression that operations can perform: "64 literals, names and operators in an expression", and every operator takes the type that it stands with
pub record Performable (e : Expr) : Type 0 where
  pub short : items e ≤ 64
  pub inputs : List Ty
  pub variables : List Ty
  pub type : ExprTy
  pub typed : type_of inputs variables e ≡ some type
