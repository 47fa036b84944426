-- The tables of operations by number, row by row. Assumes nothing.
use mathlib.Core.Path.{◌≡◌, refl, sym, ap, ◌∙◌}
use mathlib.Core.Bool.{Bool, true, false, cond}
use mathlib.Core.Option.{Option, none, some}
use Prim.Native.Nat.{ℕ, ◌<◌}
use lib.Dec.{eqb}
use native.Mathlib.Omega.{arith}
use borrow.Author.Tests.{ne_eqb, eqb-true}
use Rattle.spec_design.specs.Expression.{Unary, sign, invert, Binary, plus, minus, equal, unequal, less, at_most, greater, at_least, and, or, xor, times}
use Rattle.spec_design.specs.Expression.{divide, modulo, remainder}
use Rattle.base_codes.specs.Operation.{PLUS, unary_code, binary_code, unary_for, binary_for, operator_of, code_or, operation_of, count_or, operands_of}
use Rattle.base_codes.proofs.Finite.{all, answers}

-- a kind that is no operator's
pub no_operation : (k : ℕ) → (k ≡ 11 → ⊥) → (k ≡ 12 → ⊥) → (k ≡ 13 → ⊥) → (k ≡ 14 → ⊥) → (k ≡ 15 → ⊥) → (k ≡ 16 → ⊥) → (k ≡ 17 → ⊥) → (k ≡ 18 → ⊥)
    → (k ≡ 19 → ⊥) → (k ≡ 20 → ⊥) → (k ≡ 21 → ⊥) → (k ≡ 44 → ⊥) → (k ≡ 45 → ⊥) → (k ≡ 46 → ⊥) → (k ≡ 47 → ⊥) → 0 ≡ operation_of k
unfolding operation_of operator_of code_or
no_operation k h0 h1 h2 h3 h4 h5 h6 h7 h8 h9 h10 h11 h12 h13 h14 =
    rw (
      ne_eqb k 11 h0,
      ne_eqb k 12 h1,
      ne_eqb k 13 h2,
      ne_eqb k 14 h3,
      ne_eqb k 15 h4,
      ne_eqb k 16 h5,
      ne_eqb k 17 h6,
      ne_eqb k 18 h7,
      ne_eqb k 19 h8,
      ne_eqb k 20 h9,
      ne_eqb k 21 h10,
      ne_eqb k 44 h11,
      ne_eqb k 45 h12,
      ne_eqb k 46 h13,
      ne_eqb k 47 h14,
    )

-- EACH OPERATOR HAS ITS CODE

pub unary_code_lem : (o : Unary) → unary_for (unary_code o) ≡ some o
unary_code_lem sign = refl
unary_code_lem invert = refl

pub binary_code_lem : (o : Binary) → binary_for (binary_code o) ≡ some o
binary_code_lem plus = refl
binary_code_lem minus = refl
binary_code_lem equal = refl
binary_code_lem unequal = refl
binary_code_lem less = refl
binary_code_lem at_most = refl
binary_code_lem greater = refl
binary_code_lem at_least = refl
binary_code_lem and = refl
binary_code_lem or = refl
binary_code_lem xor = refl
binary_code_lem times = refl
binary_code_lem divide = refl
binary_code_lem modulo = refl
binary_code_lem remainder = refl

-- an operator of two operands has no code of a leaf, of the sign or of not: no code below that of + is in the table
code_apart : (o : Option Binary) (c : ℕ) → 0 < c → c < PLUS → code_or o ≡ c → ⊥
unfolding all code_or
code_apart none c l h e = omega arith
code_apart (some o) c l h e =
    let z : 0 ≡ code_or (binary_for c) = answers (λ (k : ℕ). code_or (binary_for k)) 0 18 0 refl c (omega arith) h in
    let w : code_or (binary_for c) ≡ c = ap (λ (k : ℕ). code_or (binary_for k)) (sym e) ∙ (ap code_or (binary_code_lem o) ∙ e) in omega arith

pub operation_apart : (k c : ℕ) → 0 < c → c < PLUS → eqb (operation_of k) c ≡ false
unfolding operation_of
operation_apart k c l h = ne_eqb (code_or (operator_of k)) c (code_apart (operator_of k) c l h)

pub operation_none : (k c : ℕ) → 0 < c → c < PLUS → operation_of k ≡ c → ⊥
unfolding operation_of
operation_none k c l h e = code_apart (operator_of k) c l h e

-- AND NO OTHER HAS IT

row : {X : Type 0} (code : X → ℕ) {k : ℕ} (n : ℕ) (x : X) {y : X} {r : Option X} → cond (eqb k n) (some x) r ≡ some y → n ≡ code x → (r ≡ some y → k ≡ code y)
    → k ≡ code y
row {X} code {k} n x {y} {r} e q f = go (eqb k n) refl e
  where
    go : (b : Bool) → eqb k n ≡ b → cond b (some x) r ≡ some y → k ≡ code y
    go true h m = let z : x ≡ y = cc in eqb-true k n h ∙ (q ∙ ap code z)
    go false h m = f m

no_row : {X : Type 0} {P : Type 0} (y : X) → none ≡ some y → P
no_row y e = absurd (let z : ◌≡◌ {A = ℕ} 0 1 = cc in omega arith)

pub unary_is : (k : ℕ) (o : Unary) → unary_for k ≡ some o → k ≡ unary_code o
unary_is k o e = row unary_code 16 sign e refl (λ e. row unary_code 17 invert e refl (λ e. no_row o e))

pub binary_is : (k : ℕ) (o : Binary) → binary_for k ≡ some o → k ≡ binary_code o
binary_is k o e =
    row binary_code 18 plus e refl (λ e. row binary_code 19 minus e refl (λ e. row binary_code 20 equal e refl (λ e. row binary_code 21 unequal e refl
    (λ e. row binary_code 22 less e refl (λ e. row binary_code 23 at_most e refl (λ e. row binary_code 24 greater e refl (λ e. row binary_code 25 at_least e refl
    (λ e. row binary_code 26 and e refl (λ e. row binary_code 27 or e refl (λ e. row binary_code 28 xor e refl
    (λ e. row binary_code 29 times e refl (λ e. row binary_code 30 divide e refl
    (λ e. row binary_code 31 modulo e refl (λ e. row binary_code 32 remainder e refl (λ e. no_row o e)))))))))))))))

-- HOW MANY OPERANDS

pub one_operand : (k : ℕ) (o : Unary) → unary_for k ≡ some o → operands_of k ≡ 1
unfolding operands_of count_or
one_operand k o e = ap (λ z. count_or z (binary_for k)) e

pub two_operands : (k : ℕ) (o : Binary) → unary_for k ≡ none → binary_for k ≡ some o → operands_of k ≡ 2
unfolding operands_of count_or
two_operands k o e q = ap (λ z. count_or z (binary_for k)) e ∙ ap (count_or none) q

pub no_operands : (k : ℕ) → unary_for k ≡ none → binary_for k ≡ none → operands_of k ≡ 0
unfolding operands_of count_or
no_operands k e q = ap (λ z. count_or z (binary_for k)) e ∙ ap (count_or none) q

pub unary_operands : (o : Unary) → operands_of (unary_code o) ≡ 1
unary_operands o = one_operand (unary_code o) o (unary_code_lem o)

pub binary_operands : (o : Binary) → operands_of (binary_code o) ≡ 2
unfolding code_or
binary_operands o = two_operands (binary_code o) o (rw (apart 16 (omega arith) (omega arith), apart 17 (omega arith) (omega arith))) (binary_code_lem o)
  where
    apart : (c : ℕ) → 0 < c → c < PLUS → eqb (binary_code o) c ≡ false
    apart c l h = ne_eqb (binary_code o) c (code_apart (some o) c l h)
