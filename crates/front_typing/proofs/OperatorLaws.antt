-- The types of operators by number are those of the language, and so are the offences. Assumes nothing.
use mathlib.Core.Path.{◌≡◌, refl, ap}
use mathlib.Core.Bool.{Bool, true, false, cond}
use mathlib.Core.Option.{Option, none, some}
use Prim.Native.Nat.{ℕ}
use Rattle.spec_grammar.specs.Reader.{choose}
use Rattle.spec_design.specs.Types.{ExprTy, same_type}
use Rattle.spec_design.specs.Expression.{Unary, Binary, type_of_unary}
use Rattle.spec_language.specs.Lists.{unless}
use Rattle.spec_language.specs.Typing.{result_of, on_one, on_two, wrong1, wrong2, wants}
use Rattle.base_codes.specs.Operation.{binary_code, unary_for, operator_of, code_or, operation_of, count_or, operands_of}
use Rattle.base_codes.specs.Types.{NONE, tag_of, tag_or, unary_of, binary_of, unary_type_for, binary_type_for}
use Rattle.base_codes.proofs.OperationLaws.{binary_code_lem}
use Rattle.base_codes.proofs.TypeLaws.{tag_there, none_apart, same_tag, after_none, unary_tag, binary_tag, binary_type_no}
use Rattle.front_offences.specs.Kinded.{OperatorKind}
use Rattle.front_offences.proofs.Operators.{each_operator}
use Rattle.front_typing.specs.Operators as P
use Rattle.front_typing.specs.Operators.{right_one, right_two, fits_code}

-- an operator of one operand
pub unary_law : (k : ℕ) (o : Unary) → unary_for k ≡ some o → (a : Option ExprTy) → tag_or (unary_type_for k (tag_or a)) ≡ tag_or (on_one (type_of_unary o) a)
unfolding on_one
unary_law k o e none = ap tag_or (after_none (unary_of k))
unary_law k o e (some t) = ap tag_or (unary_tag k o e t)

-- an operator of two operands, by its token
pub two_operands : (k : ℕ) → OperatorKind k → operands_of (operation_of k) ≡ 2
unfolding operation_of operator_of code_or operands_of count_or
two_operands = each_operator (λ (k : ℕ). operands_of (operation_of k) ≡ 2) refl refl refl refl refl refl refl refl refl refl refl refl refl refl refl

result_law : (p : Option Binary) (t : ExprTy) → binary_type_for (code_or p) (tag_of t) ≡ result_of p t
unfolding result_of code_or
result_law none t = binary_type_no 0 refl (tag_of t)
result_law (some o) t = binary_tag (binary_code o) o (binary_code_lem o) t

pub binary_law : (k : ℕ) (a b : Option ExprTy) → P.binary_code (operation_of k) (tag_or a) (tag_or b) ≡ tag_or (on_two (result_of (operator_of k)) a b)
unfolding P.binary_code on_two operation_of
binary_law k none none = ap tag_or (after_none (binary_of (operation_of k)))
binary_law k none (some u) = rw (none_apart u)
binary_law k (some t) none = rw (tag_there t)
binary_law k (some t) (some u) = rw (same_tag t u) (go (same_type t u))
  where
    go : (b : Bool) → choose b (tag_or (binary_type_for (operation_of k) (tag_of t))) NONE ≡ tag_or (cond b (result_of (operator_of k) t) none)
    go true = ap tag_or (result_law (operator_of k) t)
    go false = refl

-- Offences.
pub wrong1_law : (a r : Option ExprTy) (p : ℕ) → unless (right_one (tag_or a) (tag_or r)) p ≡ wrong1 a r p
unfolding unless wrong1
wrong1_law none r p = refl
wrong1_law (some t) none p = rw (tag_there t)
wrong1_law (some t) (some r) p = rw (tag_there t, tag_there r)

pub wrong2_law : (a b r : Option ExprTy) (p : ℕ) → unless (right_two (tag_or a) (tag_or b) (tag_or r)) p ≡ wrong2 a b r p
unfolding unless wrong2
wrong2_law none b r p = refl
wrong2_law (some t) b r p = rw (tag_there t) (wrong1_law b r p)

pub wants_law : (a b : Option ExprTy) (p : ℕ) → unless (fits_code (tag_or a) (tag_or b)) p ≡ wants a b p
unfolding unless wants
wants_law none b p = refl
wants_law (some t) none p = rw (tag_there t)
wants_law (some t) (some u) p = rw (tag_there t, tag_there u, same_tag t u)
