-- What the evaluator computes is the value of the expression: for the code of every typed expression of at most 64 literals, names and operators,
-- the run by position is `evaluate`; and it comes to a value for no other bytes. From the laws of any algebra's typed machine. Assumes nothing.
use Prim.Native.Nat.{ℕ, ◌+◌, ◌≤◌}
use mathlib.Core.Path.{◌≡◌, refl, ap, ◌∙◌}
use mathlib.Core.Logic.{◌↔◌}
use mathlib.Core.Option.{some}
use mathlib.Core.List.{List, [], ◌∷◌}
use lib.ListN.{length, take, drop}
use lib.IntN.{ℤ}
use borrow.Author.Tests.{le-leb}
use Rattle.spec_design.specs.Types.{Ty, std_logic, integer, ExprTy}
use Rattle.spec_design.specs.Expression.{Expr, items, fine, bind, type_of}
use Rattle.spec_semantics.specs.Evaluation.{values, evaluate}
use Rattle.spec_format.specs.Words.{Bytes}
use Rattle.spec_format.specs.Code.{code, typed, decode}
use Rattle.spec_format.specs.Signature.{type_bytes}
use Rattle.spec_format.proofs.Decoding.{decode_back}
use Rattle.image_evaluator.specs.Value.{types_for, machine_for, code_value, part_value}
use Rattle.image_evaluator.proofs.Exact.{run_code_at, code_exactly}

module _ (is vs : List Ty) where
  -- "Both operands are always evaluated, left first": the value, or the first fault, of a typed expression.
  pub value_of_code : (e : Expr) (t : ExprTy) (i v : List ℤ) → type_of is vs e ≡ some t → items e ≤ 64
      → code_value (typed is vs (values i v)) (code e) ≡ bind (evaluate e i v) (λ z. fine (t, z))
  unfolding code_value evaluate
  value_of_code e t i v h b = run_code_at is vs (values i v) 64 e t h b

  -- The same of any bytes that are an expression's code: what the loader has checked is evaluated, and never answers 13.
  pub value_decoded : (s : List ℕ) (e : Expr) (t : ExprTy) (i v : List ℤ) → Bytes s → decode is vs s ≡ some (t, e) → items e ≤ 64
      → code_value (typed is vs (values i v)) s ≡ bind (evaluate e i v) (λ z. fine (t, z))
  value_decoded s e t i v w d b =
      let k = decode_back is vs s t e w d in
      ap (code_value (typed is vs (values i v))) k.0 ∙ value_of_code e t i v k.1 b

  -- And no other bytes come to a value: a value is that of the expression whose code they are.
  pub value_exactly : (s : List ℕ) (t : ExprTy) (z : ℤ) (i v : List ℤ) → Bytes s
      → (code_value (typed is vs (values i v)) s ≡ fine (t, z)) ↔ ((e : Expr) × (decode is vs s ≡ some (t, e)) × (items e ≤ 64) × (evaluate e i v ≡ fine z))
  unfolding code_value evaluate
  value_exactly s t z i v w = code_exactly is vs (values i v) 64 s t z w

-- the types of type bytes
pub types_of_bytes : (l : List Ty) → types_for (type_bytes l) ≡ l
unfolding types_for type_bytes
types_of_bytes [] = refl
types_of_bytes (std_logic ∷ l) = ap (λ r. std_logic ∷ r) (types_of_bytes l)
types_of_bytes (integer ∷ l) = ap (λ r. integer ∷ r) (types_of_bytes l)

-- A line's part of the code section, over the signature's type bytes: `image_evaluator::evaluate` answers the value of the line's expression.
pub value_of_line : (is vs : List Ty) (s : List ℕ) (k n : ℕ) (e : Expr) (t : ExprTy) (i v : List ℤ)
    → k + n ≤ length s → Bytes (take n (drop k s)) → decode is vs (take n (drop k s)) ≡ some (t, e) → items e ≤ 64
    → part_value (machine_for (type_bytes is) (type_bytes vs) i v) s k n ≡ bind (evaluate e i v) (λ z. fine (t, z))
unfolding part_value
value_of_line is vs s k n e t i v h w d b =
    rw (le-leb (k + n) (length s) h, types_of_bytes is, types_of_bytes vs) (value_decoded is vs (take n (drop k s)) e t i v w d b)
