-- Expressions of a design as lists of operations, each behind its operands: a code and an argument. Assumes nothing.
use Rattle.std.specs.Prelude.{Bool, true, false, cond, List, [], ◌∷◌, ◌++◌, ℕ, ℤ, pos, eqb}
use Rattle.spec_design.specs.Expression.{Leaf, int, bit, input, variable, Expr, leaf, unary, binary}
use Rattle.base_codes.specs.Types.{tag_of}
use Rattle.base_codes.specs.Operation.{INTEGER, STD_LOGIC, INPUT, VARIABLE, unary_code, binary_code, operands_of}

-- an operation: its code, and a literal's value, a name's index, or the number of the type of an operator's operands
pub record Op : Type 0 where
  pub code : ℕ
  pub arg : ℤ

abbrev pub op : ℕ → ℤ → Op
op c z = record { code = c; arg = z }

-- '0' and '1'
abbrev pub bit_arg : Bool → ℤ
bit_arg true = pos 1
bit_arg false = pos 0

-- a literal or a name
abbrev pub leaf_op : Leaf → Op
leaf_op (int z) = op INTEGER z
leaf_op (bit b) = op STD_LOGIC (bit_arg b)
leaf_op (input k) = op INPUT (pos k)
leaf_op (variable k) = op VARIABLE (pos k)

-- left operand first
unfoldable pub ops : Expr → List Op
ops (leaf l) = leaf_op l ∷ []
ops (unary o t a) = ops a ++ (op (unary_code o) (pos (tag_of t)) ∷ [])
ops (binary o t a b) = ops a ++ (ops b ++ (op (binary_code o) (pos (tag_of t)) ∷ []))

-- an operation with t for the number of its operands' type; one that is pushed has no operands and keeps its argument
abbrev pub arg_with : ℕ → ℤ → ℕ → ℤ
arg_with c z t = cond (eqb (operands_of c) 0) z (pos t)

unfoldable pub with_type : ℕ → Op → Op
with_type t o = op o.code (arg_with o.code o.arg t)

-- an operation before the type of its operands is told: 0 in its place
abbrev pub bare_op : Op → Op
bare_op o = with_type 0 o
