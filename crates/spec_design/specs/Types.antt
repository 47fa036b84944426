-- The types of document 01 and their values. A value of any type is an integer of ℤ. Assumes nothing.
use Rattle.std.specs.Prelude.{Bool, true, false, cond, ◌&&◌, ◌||◌, ℕ, ℤ, pos, negsuc, eqb}
use Rattle.std.proofs.Math.Option.{Option, none, some}
use Rattle.std.specs.Int.Signed.{le_z}

-- "Types: std_logic and integer": what a port or a variable can be declared as
pub data Ty : Type 0 where
  std_logic integer : Ty

-- "boolean occurs only inside expressions": what an expression can be
pub data ExprTy : Type 0 where
  plain : Ty → ExprTy
  boolean : ExprTy

unfoldable pub same_ty : Ty → Ty → Bool
same_ty std_logic std_logic = true
same_ty std_logic integer = false
same_ty integer std_logic = false
same_ty integer integer = true

unfoldable pub same_type : ExprTy → ExprTy → Bool
same_type (plain t) (plain u) = same_ty t u
same_type (plain t) boolean = false
same_type boolean (plain u) = false
same_type boolean boolean = true

abbrev pub eq_z : ℤ → ℤ → Bool
eq_z (pos a) (pos b) = eqb a b
eq_z (pos a) (negsuc b) = false
eq_z (negsuc a) (pos b) = false
eq_z (negsuc a) (negsuc b) = eqb a b

-- "integer (-2147483648 to 2147483647)"; negsuc n is -(n + 1)
unfoldable pub in_range : ℤ → Bool
in_range z = le_z (negsuc 2147483647) z && le_z z (pos 2147483647)

-- z is a value of the type: "std_logic (0, 1)"
unfoldable pub in_type : Ty → ℤ → Bool
in_type std_logic z = eq_z z (pos 0) || eq_z z (pos 1)
in_type integer z = in_range z

-- a type as a number, "0 std_logic, 1 integer": the type byte of an image, and the same number in every array
abbrev pub type_byte : Ty → ℕ
type_byte std_logic = 0
type_byte integer = 1

-- the type that has a number, and no other number has one
abbrev pub type_of_byte : ℕ → Option Ty
type_of_byte k = cond (eqb k 0) (some std_logic) (cond (eqb k 1) (some integer) none)
