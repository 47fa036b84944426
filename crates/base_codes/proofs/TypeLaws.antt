-- Types by number: each type has its own, none has the number of no type, and the type of a result by number is that of the operator. Assumes nothing.
use mathlib.Core.Path.{◌≡◌, refl, sym, ◌∙◌, ap}
use mathlib.Core.Logic.{◌⊎◌, inl, inr}
use mathlib.Core.Bool.{Bool, true, false, ◌&&◌}
use mathlib.Core.Option.{Option, none, some, bind}
use Prim.Native.Nat.{ℕ, ◌+◌, ◌≤◌, ◌<◌}
use native.Mathlib.Omega.{arith}
use lib.Dec.{eqb}
use borrow.Author.Tests.{eqb-true, ne_eqb}
use Rattle.spec_design.specs.Types.{Ty, std_logic, integer, ExprTy, plain, boolean, same_ty, same_type, type_byte}
use Rattle.spec_design.specs.Expression.{Unary, sign, invert, Binary, plus, minus, equal, unequal, less, at_most, greater, at_least, and, or, xor, times}
use Rattle.spec_design.specs.Expression.{divide, modulo, remainder, sum_type, order_type, equality_type, logical_type, type_of_unary, type_of_binary}
use Rattle.base_codes.specs.Token.{one_of}
use Rattle.base_codes.specs.Operation.{SIGN, NOT, unary_code, binary_code, unary_for, binary_for}
use Rattle.base_codes.specs.Types.{BOOLEAN, NONE, comparing, result_for, tag_of, tag_or, type_of_tag, declared_type, unary_of, binary_of, type_after, unary_type_for}
use Rattle.base_codes.specs.Types.{binary_type_for}
use Rattle.base_codes.proofs.Finite.{all, first, rest, within}

-- Numbers of types.

-- a type is read back from its number
pub tag_type : (t : ExprTy) → type_of_tag (tag_of t) ≡ some t
unfolding type_of_tag
tag_type (plain std_logic) = refl
tag_type (plain integer) = refl
tag_type boolean = refl

pub type_of_none : type_of_tag NONE ≡ none
unfolding type_of_tag
type_of_none = refl

-- the number of a type or of none, read back
pub type_of_or : (o : Option ExprTy) → type_of_tag (tag_or o) ≡ o
type_of_or none = type_of_none
type_of_or (some t) = tag_type t

-- so two that have one number are the same
pub tag_or_injective : (o p : Option ExprTy) → tag_or o ≡ tag_or p → o ≡ p
tag_or_injective o p e = sym (type_of_or o) ∙ ap type_of_tag e ∙ type_of_or p

pub tag_injective : (t u : ExprTy) → tag_of t ≡ tag_of u → t ≡ u
tag_injective t u e = let z : some t ≡ some u = tag_or_injective (some t) (some u) e in cc

-- a declared type has its number
pub declared_type_lem : (t : Ty) → declared_type (type_byte t) ≡ some (plain t)
declared_type_lem std_logic = refl
declared_type_lem integer = refl

-- a type has another number than no type
pub tag_some : (t : ExprTy) → tag_of t ≡ NONE → ⊥
tag_some (plain std_logic) e = omega arith
tag_some (plain integer) e = omega arith
tag_some boolean e = omega arith

pub tag_there : (t : ExprTy) → eqb (tag_of t) NONE ≡ false
tag_there t = ne_eqb (tag_of t) NONE (tag_some t)

pub none_apart : (t : ExprTy) → eqb NONE (tag_of t) ≡ false
none_apart t = ne_eqb NONE (tag_of t) (λ e. tag_some t (sym e))

-- two numbers are the same as the types are
pub same_tag : (t u : ExprTy) → eqb (tag_of t) (tag_of u) ≡ same_type t u
unfolding same_type same_ty
same_tag (plain std_logic) (plain std_logic) = refl
same_tag (plain std_logic) (plain integer) = refl
same_tag (plain std_logic) boolean = refl
same_tag (plain integer) (plain std_logic) = refl
same_tag (plain integer) (plain integer) = refl
same_tag (plain integer) boolean = refl
same_tag boolean (plain std_logic) = refl
same_tag boolean (plain integer) = refl
same_tag boolean boolean = refl

-- Types of results.

-- no type where there are no operands of one
pub after_none : (f : ExprTy → Option ExprTy) → type_after f NONE ≡ none
unfolding bind
after_none f = ap (λ z. bind z f) type_of_none

-- by a type's number, what the operator does with the type
pub after_tag : (f : ExprTy → Option ExprTy) (t : ExprTy) → type_after f (tag_of t) ≡ f t
unfolding bind
after_tag f t = ap (λ z. bind z f) (tag_type t)

-- the operator that has a code
pub unary_type_is : (k : ℕ) (o : Unary) → unary_for k ≡ some o → (t : ℕ) → unary_type_for k t ≡ type_after (type_of_unary o) t
unfolding unary_of bind
unary_type_is k o e t = ap (λ z. bind (type_of_tag t) (λ u. bind z (λ p. type_of_unary p u))) e

pub binary_type_is : (k : ℕ) (o : Binary) → binary_for k ≡ some o → (t : ℕ) → binary_type_for k t ≡ type_after (type_of_binary o) t
unfolding binary_of bind
binary_type_is k o e t = ap (λ z. bind (type_of_tag t) (λ u. bind z (λ p. type_of_binary p u))) e

pub unary_tag : (k : ℕ) (o : Unary) → unary_for k ≡ some o → (t : ExprTy) → unary_type_for k (tag_of t) ≡ type_of_unary o t
unary_tag k o e t = unary_type_is k o e (tag_of t) ∙ after_tag (type_of_unary o) t

pub binary_tag : (k : ℕ) (o : Binary) → binary_for k ≡ some o → (t : ExprTy) → binary_type_for k (tag_of t) ≡ type_of_binary o t
binary_tag k o e t = binary_type_is k o e (tag_of t) ∙ after_tag (type_of_binary o) t

-- a code that no operator has: no type
empty : (o : Option ExprTy) → ◌≡◌ {A = Option ExprTy} (bind o (λ t. none)) none
unfolding bind
empty none = refl
empty (some t) = refl

pub unary_type_no : (k : ℕ) → unary_for k ≡ none → (t : ℕ) → unary_type_for k t ≡ none
unfolding unary_of bind
unary_type_no k e t = ap (λ z. bind (type_of_tag t) (λ u. bind z (λ p. type_of_unary p u))) e ∙ empty (type_of_tag t)

pub binary_type_no : (k : ℕ) → binary_for k ≡ none → (t : ℕ) → binary_type_for k t ≡ none
unfolding binary_of bind
binary_type_no k e t = ap (λ z. bind (type_of_tag t) (λ u. bind z (λ p. type_of_binary p u))) e ∙ empty (type_of_tag t)

-- A stretch of codes whose operators do the same with types: one computed test.

-- f and g do the same with each type
unfoldable pub agrees : (ExprTy → Option ExprTy) → (ExprTy → Option ExprTy) → Bool
agrees f g = at (plain std_logic) && (at (plain integer) && at boolean)
  where
    at : ExprTy → Bool
    at t = eqb (tag_or (f t)) (tag_or (g t))

same : (f g : ExprTy → Option ExprTy) → agrees f g ≡ true → (o : Option ExprTy) → tag_or (bind o f) ≡ tag_or (bind o g)
unfolding agrees bind
same f g e none = refl
same f g e (some t) = by t
  where
    is : ExprTy → Bool
    is t = eqb (tag_or (f t)) (tag_or (g t))

    others : (is (plain integer) && is boolean) ≡ true
    others = rest (is (plain std_logic)) (is (plain integer) && is boolean) e

    by : (t : ExprTy) → tag_or (f t) ≡ tag_or (g t)
    by (plain std_logic) = eqb-true _ _ (first (is (plain std_logic)) (is (plain integer) && is boolean) e)
    by (plain integer) = eqb-true _ _ (first (is (plain integer)) (is boolean) others)
    by boolean = eqb-true _ _ (rest (is (plain integer)) (is boolean) others)

-- what f makes of the operands' type is what the table makes of it at each code of the stretch
pub stretch : (f : ExprTy → Option ExprTy) (table : ℕ → ExprTy → Option ExprTy) (n j : ℕ) → all (λ (k : ℕ). agrees f (table k)) j n ≡ true
    → (k : ℕ) → j ≤ k → k < j + n → (t : ℕ) → tag_or (type_after f t) ≡ tag_or (type_after (table k) t)
stretch f table n j e k h l t = same f (table k) (within (λ (k : ℕ). agrees f (table k)) n j e k h l) (type_of_tag t)

-- no code of the stretch has an operator
pub stretch_none : (table : ℕ → ExprTy → Option ExprTy) (n j : ℕ) → all (λ (k : ℕ). agrees (λ t. none) (table k)) j n ≡ true
    → (k : ℕ) → j ≤ k → k < j + n → (t : ℕ) → NONE ≡ tag_or (type_after (table k) t)
stretch_none table n j e k h l t = ap tag_or (sym (empty (type_of_tag t))) ∙ stretch (λ t. none) table n j e k h l t

-- one way or the other
pub either : {A B C : Type 0} → A ⊎ B → (A → C) → (B → C) → C
either (inl a) f g = f a
either (inr b) f g = g b

-- The type of a result, where the operator takes its operands.

pub result_boolean : (k t : ℕ) → true ≡ one_of k comparing → BOOLEAN ≡ result_for k t
unfolding result_for
result_boolean k t e = rw (← e)

pub result_kept : (k t : ℕ) → false ≡ one_of k comparing → t ≡ result_for k t
unfolding result_for
result_kept k t e = rw (← e)

-- it is r, where there is one
abbrev gives : ℕ → Option ExprTy → Bool
gives r none = true
gives r (some u) = eqb r (tag_of u)

-- so for operands of each type
unfoldable results : ℕ → (ExprTy → Option ExprTy) → Bool
results k f = at (plain std_logic) && (at (plain integer) && at boolean)
  where
    at : ExprTy → Bool
    at t = gives (result_for k (tag_of t)) (f t)

result_by : (k : ℕ) (f : ExprTy → Option ExprTy) → results k f ≡ true → (t u : ExprTy) → f t ≡ some u → result_for k (tag_of t) ≡ tag_of u
unfolding results
result_by k f e t u h = eqb-true _ _ (rw h at (by t))
  where
    is : ExprTy → Bool
    is t = gives (result_for k (tag_of t)) (f t)

    others : (is (plain integer) && is boolean) ≡ true
    others = rest (is (plain std_logic)) (is (plain integer) && is boolean) e

    by : (t : ExprTy) → gives (result_for k (tag_of t)) (f t) ≡ true
    by (plain std_logic) = first (is (plain std_logic)) (is (plain integer) && is boolean) e
    by (plain integer) = first (is (plain integer)) (is boolean) others
    by boolean = rest (is (plain integer)) (is boolean) others

-- by the operator
pub unary_result_lem : (o : Unary) (t u : ExprTy) → type_of_unary o t ≡ some u → result_for (unary_code o) (tag_of t) ≡ tag_of u
unfolding results result_for one_of type_of_unary sum_type logical_type
unary_result_lem sign = result_by SIGN (type_of_unary sign) refl
unary_result_lem invert = result_by NOT (type_of_unary invert) refl

pub binary_result_lem : (o : Binary) (t u : ExprTy) → type_of_binary o t ≡ some u → result_for (binary_code o) (tag_of t) ≡ tag_of u
unfolding results result_for one_of type_of_binary sum_type order_type equality_type logical_type
binary_result_lem plus = result_by (binary_code plus) (type_of_binary plus) refl
binary_result_lem minus = result_by (binary_code minus) (type_of_binary minus) refl
binary_result_lem equal = result_by (binary_code equal) (type_of_binary equal) refl
binary_result_lem unequal = result_by (binary_code unequal) (type_of_binary unequal) refl
binary_result_lem less = result_by (binary_code less) (type_of_binary less) refl
binary_result_lem at_most = result_by (binary_code at_most) (type_of_binary at_most) refl
binary_result_lem greater = result_by (binary_code greater) (type_of_binary greater) refl
binary_result_lem at_least = result_by (binary_code at_least) (type_of_binary at_least) refl
binary_result_lem and = result_by (binary_code and) (type_of_binary and) refl
binary_result_lem or = result_by (binary_code or) (type_of_binary or) refl
binary_result_lem xor = result_by (binary_code xor) (type_of_binary xor) refl
binary_result_lem times = result_by (binary_code times) (type_of_binary times) refl
binary_result_lem divide = result_by (binary_code divide) (type_of_binary divide) refl
binary_result_lem modulo = result_by (binary_code modulo) (type_of_binary modulo) refl
binary_result_lem remainder = result_by (binary_code remainder) (type_of_binary remainder) refl
