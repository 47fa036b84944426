-- The value of an expression over an input row and the variables (document 01, "Types"): what each operator gives, and where it is refused. Values are integers
-- of ℤ. Assumes nothing.
use Rattle.std.specs.Prelude.{◌≡◌, ◌⊎◌, Bool, true, false, cond, not, ◌&&◌, ◌||◌, List, ℕ, get_or, ℤ, pos, ◌+ℤ◌, ◌-ℤ◌, ◌*ℤ◌, neg_ℤ}
use Rattle.std.specs.Int.Signed.{le_z, lt_z, quot_z, rem_z}
use Rattle.spec_design.specs.Types.{ExprTy, eq_z, in_range}
use Rattle.spec_design.specs.Expression.{Leaf, int, bit, input, variable, Unary, sign, invert, Binary, plus, minus, equal, unequal, less, at_most, greater, at_least, and, or, xor, times, divide, modulo, remainder, Expr, leaf, unary, binary, Out, fine, fault, Algebra, fold}
use Rattle.spec_semantics.specs.Division.{mod_z, by_nonzero}

-- "std_logic (0, 1)"; a boolean is 0 where it is false, 1 where it is true
abbrev pub bit_of : Bool → ℤ
bit_of true = pos 1
bit_of false = pos 0

-- a std_logic or boolean value is 1
abbrev pub is_one : ℤ → Bool
is_one z = eq_z z (pos 1)

-- xor of two truth values
abbrev pub differ : Bool → Bool → Bool
differ true b = not b
differ false b = b

-- the result of the sign -, of not
unfoldable pub unary_result : Unary → ℤ → ℤ
unary_result sign x = neg_ℤ x
unary_result invert x = bit_of (not (is_one x))

-- the result of + - = /= < <= > >= and or xor, for the left operand x and the right operand y
unfoldable pub binary_result : Binary → ℤ → ℤ → ℤ
binary_result plus x y = x +ℤ y
binary_result minus x y = x -ℤ y
binary_result equal x y = bit_of (eq_z x y)
binary_result unequal x y = bit_of (not (eq_z x y))
binary_result less x y = bit_of (lt_z x y)
binary_result at_most x y = bit_of (le_z x y)
binary_result greater x y = bit_of (lt_z y x)
binary_result at_least x y = bit_of (le_z y x)
binary_result and x y = bit_of (is_one x && is_one y)
binary_result or x y = bit_of (is_one x || is_one y)
binary_result xor x y = bit_of (differ (is_one x) (is_one y))
binary_result times x y = x *ℤ y
binary_result divide x y = quot_z x y
binary_result modulo x y = mod_z x y
binary_result remainder x y = rem_z x y

-- 16: "result of `+`, `-` or sign outside integer"; "A product outside integer and the least integer divided by -1 get 16"
unfoldable pub as_integer : ℤ → Out ℤ
as_integer z = cond (in_range z) (fine z) (fault 16)

-- the sign can be refused by 16, not cannot; t is the type of the operand
unfoldable pub apply_unary : Unary → ExprTy → ℤ → Out ℤ
apply_unary sign t x = as_integer (unary_result sign x)
apply_unary invert t x = fine (unary_result invert x)

-- + - * / can be refused by 16, / mod rem by 18, no other operator can; "the latter's `mod` and `rem` by -1 are 0"; t is the type of the operands
unfoldable pub apply_binary : Binary → ExprTy → ℤ → ℤ → Out ℤ
apply_binary plus t x y = as_integer (binary_result plus x y)
apply_binary minus t x y = as_integer (binary_result minus x y)
apply_binary equal t x y = fine (binary_result equal x y)
apply_binary unequal t x y = fine (binary_result unequal x y)
apply_binary less t x y = fine (binary_result less x y)
apply_binary at_most t x y = fine (binary_result at_most x y)
apply_binary greater t x y = fine (binary_result greater x y)
apply_binary at_least t x y = fine (binary_result at_least x y)
apply_binary and t x y = fine (binary_result and x y)
apply_binary or t x y = fine (binary_result or x y)
apply_binary xor t x y = fine (binary_result xor x y)
apply_binary times t x y = as_integer (binary_result times x y)
apply_binary divide t x y = by_nonzero y (as_integer (binary_result divide x y))
apply_binary modulo t x y = by_nonzero y (fine (binary_result modulo x y))
apply_binary remainder t x y = by_nonzero y (fine (binary_result remainder x y))

-- the numbers by which an operator can be refused
abbrev pub OperatorNumber : ℕ → Type 0
OperatorNumber q = (q ≡ 16) ⊎ (q ≡ 18)

-- Without a method, beside `apply_binary`: an operator at the type t on the operands x and y is refused by q: 16, "result of `+`, `-`, `*`, `/` .. outside integer"; 18, "a zero divisor"
pub data OperatorRefused : Binary → ExprTy → ℤ → ℤ → ℕ → Type 0 where
  sum : {t : ExprTy} {x y : ℤ} → in_range (x +ℤ y) ≡ false → OperatorRefused plus t x y 16
  difference : {t : ExprTy} {x y : ℤ} → in_range (x -ℤ y) ≡ false → OperatorRefused minus t x y 16
  product : {t : ExprTy} {x y : ℤ} → in_range (x *ℤ y) ≡ false → OperatorRefused times t x y 16
  quotient : {t : ExprTy} {x y : ℤ} → eq_z y (pos 0) ≡ false → in_range (quot_z x y) ≡ false → OperatorRefused divide t x y 16
  divided_by_0 : {t : ExprTy} {x y : ℤ} → eq_z y (pos 0) ≡ true → OperatorRefused divide t x y 18
  modulo_0 : {t : ExprTy} {x y : ℤ} → eq_z y (pos 0) ≡ true → OperatorRefused modulo t x y 18
  remainder_by_0 : {t : ExprTy} {x y : ℤ} → eq_z y (pos 0) ≡ true → OperatorRefused remainder t x y 18

-- "Inputs and variables may be read": i is the input row, v are the variables
unfoldable pub leaf_value : List ℤ → List ℤ → Leaf → ℤ
leaf_value i v (int z) = z
leaf_value i v (bit b) = bit_of b
leaf_value i v (input k) = get_or i k (pos 0)
leaf_value i v (variable k) = get_or v k (pos 0)

-- how values are made of values, for `fold`
abbrev pub values : List ℤ → List ℤ → Algebra ℤ
values i v = record { of_leaf = λ l. fine (leaf_value i v l); of_unary = apply_unary; of_binary = apply_binary }

-- "Both operands are always evaluated, left first": `fold` binds the left operand before the right
unfoldable pub evaluate : Expr → List ℤ → List ℤ → Out ℤ
evaluate e i v = fold (values i v) e

-- the exact value over unbounded integers, without refusals
unfoldable pub exact_value : Expr → List ℤ → List ℤ → ℤ
exact_value (leaf l) i v = leaf_value i v l
exact_value (unary o t a) i v = unary_result o (exact_value a i v)
exact_value (binary o t a b) i v = binary_result o (exact_value a i v) (exact_value b i v)
