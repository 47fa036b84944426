-- The tests on types decide equality, and no two types have one number. Assumes nothing.
use mathlib.Core.Path.{◌≡◌, refl, sym, ◌∙◌, ap}
use mathlib.Core.Bool.{true, false}
use mathlib.Core.Option.{Option, none, some}
use Prim.Native.Nat.{ℕ}
use native.Mathlib.Omega.{arith}
use Rattle.spec_design.specs.Types.{Ty, std_logic, integer, ExprTy, plain, boolean, same_ty, same_type, type_byte, type_of_byte}

clash : {A : Type 0} → false ≡ true → A
clash e = absurd (let z : ◌≡◌ {A = ℕ} 0 1 = cc in omega arith)

pub same_ty_eq : (t u : Ty) → same_ty t u ≡ true → t ≡ u
unfolding same_ty
same_ty_eq std_logic std_logic e = refl
same_ty_eq std_logic integer e = clash e
same_ty_eq integer std_logic e = clash e
same_ty_eq integer integer e = refl

pub same_ty_refl : (t : Ty) → same_ty t t ≡ true
unfolding same_ty
same_ty_refl std_logic = refl
same_ty_refl integer = refl

pub same_type_eq : (t u : ExprTy) → same_type t u ≡ true → t ≡ u
unfolding same_type
same_type_eq (plain t) (plain u) e = ap plain (same_ty_eq t u e)
same_type_eq (plain t) boolean e = clash e
same_type_eq boolean (plain u) e = clash e
same_type_eq boolean boolean e = refl

pub same_type_refl : (t : ExprTy) → same_type t t ≡ true
unfolding same_type
same_type_refl (plain t) = same_ty_refl t
same_type_refl boolean = refl

-- reading a type's number gives the type
pub byte_type : (t : Ty) → type_of_byte (type_byte t) ≡ some t
byte_type std_logic = refl
byte_type integer = refl

some_one : {A : Type 0} (x y : A) → some x ≡ some y → x ≡ y
some_one x y e = ap (λ (o : Option _). or x o) e
  where
    or : {A : Type 0} → A → Option A → A
    or z none = z
    or z (some u) = u

-- THE LAW: "0 std_logic, 1 integer" are two numbers
pub byte_injective : (t u : Ty) → type_byte t ≡ type_byte u → t ≡ u
byte_injective t u e = some_one t u (sym (byte_type t) ∙ (ap (λ (k : ℕ). type_of_byte k) e ∙ byte_type u))
