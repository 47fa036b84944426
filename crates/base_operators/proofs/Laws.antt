-- The operators by their codes, type by type: an arm at an operator's code gives what the operator gives, and every other code is refused. By cases on the
-- operator that a code has. Assumes nothing.
use Prim.Native.Nat.{ℕ, ◌≤◌, ◌<◌}
use native.Mathlib.Omega.{arith}
use mathlib.Core.Path.{◌≡◌, refl, sym, ap, ◌∙◌}
use mathlib.Core.Bool.{Bool, true, false, cond, not, beq}
use mathlib.Core.Logic.{◌⊎◌, inl, inr}
use mathlib.Core.Option.{Option, none, some}
use borrow.Author.Tests.{ne_eqb, eqb-true, eqb-false}
use lib.IntN.{ℤ, ◌+ℤ◌, ◌-ℤ◌}
use lib.Dec.{eqb}
use Rattle.spec_design.specs.Types.{std_logic, integer, ExprTy, plain, boolean}
use Rattle.spec_design.specs.Expression.{Unary, sign, invert, Binary, plus, minus, equal, unequal, less, at_most, greater, at_least, and, or, xor, times}
use Rattle.spec_design.specs.Expression.{divide, modulo, remainder, Out, fault}
use Rattle.spec_design.specs.Expression.{sum_type, order_type, equality_type, logical_type, type_of_unary, type_of_binary}
use Rattle.spec_semantics.specs.Evaluation.{as_integer, differ, binary_result, apply_unary, apply_binary}
use Rattle.base_codes.specs.Operation.{PLUS, AND, NOT, unary_code, binary_code, unary_for, binary_for}
use Rattle.base_codes.specs.Types.{tag_of, type_of_tag}
use Rattle.base_codes.proofs.OperationLaws.{unary_code_lem, binary_code_lem, unary_is, binary_is}
use Rattle.base_codes.proofs.TypeLaws.{tag_type}
use Rattle.base_operators.specs.Operators.{unary_by, binary_by, unary_on, binary_on}

-- a code is no operator's, or that of one operator
pub by_unary : (P : Option Unary → Type 0) (k : ℕ) → P none → ((o : Unary) → k ≡ unary_code o → P (some o)) → P (unary_for k)
by_unary P k n f = go (unary_for k) refl
  where
    go : (b : Option Unary) → unary_for k ≡ b → P b
    go none e = n
    go (some o) e = f o (unary_is k o e)

pub by_binary : (P : Option Binary → Type 0) (k : ℕ) → P none → ((o : Binary) → k ≡ binary_code o → P (some o)) → P (binary_for k)
by_binary P k n f = go (binary_for k) refl
  where
    go : (b : Option Binary) → binary_for k ≡ b → P b
    go none e = n
    go (some o) e = f o (binary_is k o e)

-- AN ARM OF THE CODE AT AN OPERATOR'S CODE

pub unary_arm : (o : Unary) (u : ExprTy) (k : ℕ) (x : ℤ) {r : Out ℤ} → k ≡ unary_code o → r ≡ unary_by (some o) (some u) x
    → r ≡ unary_by (unary_for k) (some u) x
unary_arm o u k x h e = e ∙ sym (ap (λ (i : Option Unary). unary_by i (some u) x) (ap (λ (n : ℕ). unary_for n) h ∙ unary_code_lem o))

pub binary_arm : (o : Binary) (u : ExprTy) (k : ℕ) (x y : ℤ) {r : Out ℤ} → k ≡ binary_code o → r ≡ binary_by (some o) (some u) x y
    → r ≡ binary_by (binary_for k) (some u) x y
binary_arm o u k x y h e = e ∙ sym (ap (λ (i : Option Binary). binary_by i (some u) x y) (ap (λ (n : ℕ). binary_for n) h ∙ binary_code_lem o))

-- + and - in one arm
pub sum_arm : (k : ℕ) (x y : ℤ) {r : Out ℤ} → 18 ≤ k → k < 20 → r ≡ as_integer (cond (eqb k 19) (x -ℤ y) (x +ℤ y))
    → r ≡ binary_by (binary_for k) (some (plain integer)) x y
unfolding type_of_binary sum_type apply_binary binary_result
sum_arm k x y {r} a b e = go (eqb k 19) refl
  where
    go : (t : Bool) → eqb k 19 ≡ t → r ≡ binary_by (binary_for k) (some (plain integer)) x y
    go true h = binary_arm minus (plain integer) k x y (eqb-true k 19 h) (rw h at e)
    go false h = binary_arm plus (plain integer) k x y (omega (arith, eqb-false k 19 h)) (rw h at e)

-- EVERY OTHER CODE

pub multiplied_other : (k : ℕ) (x y : ℤ) → (PLUS ≤ k → AND ≤ k) → (k ≡ 29 → ⊥) → (k ≡ 30 → ⊥) → (k ≡ 31 → ⊥) → (k ≡ 32 → ⊥)
    → fault 13 ≡ binary_by (binary_for k) (some (plain integer)) x y
unfolding type_of_binary logical_type
multiplied_other k x y h a b c d = by_binary (λ o. fault 13 ≡ binary_by o (some (plain integer)) x y) k refl two
  where
    low : {P : Type 0} → 18 ≤ k → k < 26 → P
    low l m = let z = h l in absurd (omega arith)

    two : (o : Binary) → k ≡ binary_code o → fault 13 ≡ binary_by (some o) (some (plain integer)) x y
    two plus q = low (omega arith) (omega arith)
    two minus q = low (omega arith) (omega arith)
    two equal q = low (omega arith) (omega arith)
    two unequal q = low (omega arith) (omega arith)
    two less q = low (omega arith) (omega arith)
    two at_most q = low (omega arith) (omega arith)
    two greater q = low (omega arith) (omega arith)
    two at_least q = low (omega arith) (omega arith)
    two and q = refl
    two or q = refl
    two xor q = refl
    two times q = absurd (a q)
    two divide q = absurd (b q)
    two modulo q = absurd (c q)
    two remainder q = absurd (d q)

pub logical_other : (k : ℕ) (x y : ℤ) → (k ≡ 26 → ⊥) → (k ≡ 27 → ⊥) → (k ≡ 28 → ⊥) → fault 13 ≡ binary_by (binary_for k) (some boolean) x y
unfolding type_of_binary sum_type order_type equality_type
logical_other k x y a b c = by_binary (λ o. fault 13 ≡ binary_by o (some boolean) x y) k refl two
  where
    two : (o : Binary) → k ≡ binary_code o → fault 13 ≡ binary_by (some o) (some boolean) x y
    two plus q = refl
    two minus q = refl
    two equal q = refl
    two unequal q = refl
    two less q = refl
    two at_most q = refl
    two greater q = refl
    two at_least q = refl
    two and q = absurd (a q)
    two or q = absurd (b q)
    two xor q = absurd (c q)
    two times q = refl
    two divide q = refl
    two modulo q = refl
    two remainder q = refl

-- std_logics are truth values, but for = and /=
pub bits_other : (k : ℕ) (x y : ℤ) → (k ≡ 20 → ⊥) → (k ≡ 21 → ⊥)
    → binary_by (binary_for k) (some boolean) x y ≡ binary_by (binary_for k) (some (plain std_logic)) x y
unfolding type_of_binary sum_type order_type equality_type logical_type apply_binary
bits_other k x y a b =
    by_binary (λ o. binary_by o (some boolean) x y ≡ binary_by o (some (plain std_logic)) x y) k refl two
  where
    two : (o : Binary) → k ≡ binary_code o → binary_by (some o) (some boolean) x y ≡ binary_by (some o) (some (plain std_logic)) x y
    two plus q = refl
    two minus q = refl
    two equal q = absurd (a q)
    two unequal q = absurd (b q)
    two less q = refl
    two at_most q = refl
    two greater q = refl
    two at_least q = refl
    two and q = refl
    two or q = refl
    two xor q = refl
    two times q = refl
    two divide q = refl
    two modulo q = refl
    two remainder q = refl

-- the sign is an integer's, not is a truth value's
pub integer_other : (k : ℕ) (x : ℤ) → (k ≡ 16 → ⊥) → fault 13 ≡ unary_by (unary_for k) (some (plain integer)) x
unfolding type_of_unary logical_type
integer_other k x a = by_unary (λ o. fault 13 ≡ unary_by o (some (plain integer)) x) k refl one
  where
    one : (o : Unary) → k ≡ unary_code o → fault 13 ≡ unary_by (some o) (some (plain integer)) x
    one sign q = absurd (a q)
    one invert q = refl

pub truth_other : (k : ℕ) (x : ℤ) → (k ≡ 17 → ⊥) → fault 13 ≡ unary_by (unary_for k) (some boolean) x
unfolding type_of_unary sum_type
truth_other k x a = by_unary (λ o. fault 13 ≡ unary_by o (some boolean) x) k refl one
  where
    one : (o : Unary) → k ≡ unary_code o → fault 13 ≡ unary_by (some o) (some boolean) x
    one sign q = refl
    one invert q = absurd (a q)

pub one_bit : (k : ℕ) (x : ℤ) → unary_by (unary_for k) (some boolean) x ≡ unary_by (unary_for k) (some (plain std_logic)) x
unfolding type_of_unary sum_type logical_type apply_unary
one_bit k x = by_unary (λ o. unary_by o (some boolean) x ≡ unary_by o (some (plain std_logic)) x) k refl one
  where
    one : (o : Unary) → k ≡ unary_code o → unary_by (some o) (some boolean) x ≡ unary_by (some o) (some (plain std_logic)) x
    one sign q = refl
    one invert q = refl

-- THE TYPE BY ITS NUMBER

pub unary_tag : (u : ExprTy) (k t : ℕ) (x : ℤ) {r : Out ℤ} → t ≡ tag_of u → r ≡ unary_by (unary_for k) (some u) x → r ≡ unary_on k t x
unfolding unary_on
unary_tag u k t x h e = e ∙ sym (ap (λ (w : Option ExprTy). unary_by (unary_for k) w x) (ap type_of_tag h ∙ tag_type u))

-- not, of what is no integer
pub not_on : (u : ExprTy) (t : ℕ) (x : ℤ) → t ≡ tag_of u → (t ≡ tag_of (plain integer) → ⊥) → unary_on NOT t x ≡ unary_by (some invert) (some boolean) x
not_on (plain std_logic) t x h f = sym (unary_tag (plain std_logic) NOT t x h (one_bit NOT x))
not_on (plain integer) t x h f = absurd (f h)
not_on boolean t x h f = sym (unary_tag boolean NOT t x h refl)

pub binary_tag : (u : ExprTy) (k t : ℕ) (x y : ℤ) {r : Out ℤ} → t ≡ tag_of u → r ≡ binary_by (binary_for k) (some u) x y
    → r ≡ binary_on k t x y
unfolding binary_on
binary_tag u k t x y h e = e ∙ sym (ap (λ (w : Option ExprTy). binary_by (binary_for k) w x y) (ap type_of_tag h ∙ tag_type u))

pub integer_on : (k : ℕ) (x y : ℤ) → binary_on k 1 x y ≡ binary_by (binary_for k) (some (plain integer)) x y
integer_on k x y = sym (binary_tag (plain integer) k 1 x y refl refl)

no_type : (t : ℕ) → (t ≡ 0 → ⊥) → (t ≡ 1 → ⊥) → (t ≡ 254 → ⊥) → type_of_tag t ≡ none
unfolding type_of_tag
no_type t a b c = rw (ne_eqb t 254 c, ne_eqb t 0 a, ne_eqb t 1 b)

pub unary_no_tag : (k t : ℕ) (x : ℤ) → (t ≡ 0 → ⊥) → (t ≡ 1 → ⊥) → (t ≡ 254 → ⊥) → fault 13 ≡ unary_on k t x
unfolding unary_on
unary_no_tag k t x a b c = rw (no_type t a b c) (by_unary (λ o. fault 13 ≡ unary_by o none x) k refl (λ o q. refl))

pub binary_no_tag : (k t : ℕ) (x y : ℤ) → (t ≡ 0 → ⊥) → (t ≡ 1 → ⊥) → (t ≡ 254 → ⊥) → fault 13 ≡ binary_on k t x y
unfolding binary_on
binary_no_tag k t x y a b c = rw (no_type t a b c) (by_binary (λ o. fault 13 ≡ binary_by o none x y) k refl (λ o q. refl))

-- an operator that takes the type it stands with
pub unary_taken : (o : Unary) (u w : ExprTy) (x : ℤ) → type_of_unary o u ≡ some w → unary_on (unary_code o) (tag_of u) x ≡ apply_unary o u x
unfolding unary_on
unary_taken o u w x h = rw (unary_code_lem o, tag_type u, h)

pub binary_taken : (o : Binary) (u w : ExprTy) (x y : ℤ) → type_of_binary o u ≡ some w → binary_on (binary_code o) (tag_of u) x y ≡ apply_binary o u x y
unfolding binary_on
binary_taken o u w x y h = rw (binary_code_lem o, tag_type u, h)

-- past the codes of + and - and of the comparisons
pub past : (k : ℕ) → 20 ≤ k → (k ≡ 20 → ⊥) → (k ≡ 21 → ⊥) → (k ≡ 22 → ⊥) → (k ≡ 23 → ⊥) → (k ≡ 24 → ⊥) → (k ≡ 25 → ⊥) → AND ≤ k
past k h a b c d e f = omega arith

-- two truth values that are not the same
pub differ_is : (a b : Bool) → not (beq a b) ≡ differ a b
differ_is true b = elim b as (λ w. not (beq true w) ≡ differ true w) [ true ↦ refl | false ↦ refl ]
differ_is false b = elim b as (λ w. not (beq false w) ≡ differ false w) [ true ↦ refl | false ↦ refl ]

-- one of two ways
pub either : {A B P : Type 0} → A ⊎ B → (A → P) → (B → P) → P
either (inl a) f g = f a
either (inr b) f g = g b
