-- Types by number: the type byte of an image, which is design's; 254 for boolean, which no name has; 255 for no type. Assumes nothing.
use Rattle.std.specs.Prelude.{Bool, true, false, cond, List, [], ◌∷◌, ℕ, eqb}
use Rattle.std.proofs.Math.Option.{Option, none, some, map, bind}
use Rattle.spec_design.specs.Types.{Ty, ExprTy, plain, boolean, type_byte, type_of_byte}
use Rattle.spec_design.specs.Expression.{type_of_unary, type_of_binary}
use Rattle.base_codes.specs.Token.{one_of}
use Rattle.base_codes.specs.Operation.{EQ, NE, LT, LE, GT, GE, unary_for, binary_for}

abbrev pub BOOLEAN : ℕ
BOOLEAN = 254

abbrev pub NONE : ℕ
NONE = 255

-- a number that is a type byte
abbrev pub is_there : Option Ty → Bool
is_there none = false
is_there (some t) = true

unfoldable pub is_type_byte : ℕ → Bool
is_type_byte k = is_there (type_of_byte k)

-- the type that a type byte stands for, of an expression
abbrev pub declared_type : ℕ → Option ExprTy
declared_type k = map plain (type_of_byte k)

-- the number of a type; of none
abbrev pub tag_of : ExprTy → ℕ
tag_of (plain t) = type_byte t
tag_of boolean = BOOLEAN

abbrev pub tag_or : Option ExprTy → ℕ
tag_or none = NONE
tag_or (some t) = tag_of t

-- the type that has a number
unfoldable pub type_of_tag : ℕ → Option ExprTy
type_of_tag k = cond (eqb k BOOLEAN) (some boolean) (declared_type k)

-- what an operator of one operand and of two does with the type of its operands, by its code; none where there is no such operator
unfoldable pub unary_of : ℕ → ExprTy → Option ExprTy
unary_of op t = bind (unary_for op) (λ o. type_of_unary o t)

unfoldable pub binary_of : ℕ → ExprTy → Option ExprTy
binary_of op t = bind (binary_for op) (λ o. type_of_binary o t)

-- the type of a result from the number of the operands' type; none where that is no type's or the operator does not take it
abbrev pub type_after : (ExprTy → Option ExprTy) → ℕ → Option ExprTy
type_after f t = bind (type_of_tag t) f

abbrev pub unary_type_for : ℕ → ℕ → Option ExprTy
unary_type_for op t = type_after (unary_of op) t

abbrev pub binary_type_for : ℕ → ℕ → Option ExprTy
binary_type_for op t = type_after (binary_of op) t

-- the operators that compare
abbrev pub comparing : List ℕ
comparing = EQ ∷ NE ∷ LT ∷ LE ∷ GT ∷ GE ∷ []

-- the same where the operator takes its operands: a comparison gives boolean, every other operator the type that it takes
unfoldable pub result_for : ℕ → ℕ → ℕ
result_for op t = cond (one_of op comparing) BOOLEAN t
