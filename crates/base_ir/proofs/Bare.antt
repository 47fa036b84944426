-- Operations before the types of operands are told: the same rows, and in an operator's place its code. Assumes nothing.
use mathlib.Core.Path.{◌≡◌, refl, sym}
use mathlib.Core.List.{List, [], ◌∷◌, map, map-append}
use Prim.Native.Nat.{ℕ, ◌+◌}
use lib.ListN.{length, length-map}
use lib.IntN.{pos}
use Rattle.spec_design.specs.Expression.{Leaf, int, bit, input, variable, Unary, Binary}
use Rattle.base_codes.specs.Operation.{unary_code, binary_code, count_or, operands_of}
use Rattle.base_codes.proofs.OperationLaws.{unary_operands, binary_operands}
use Rattle.base_ir.specs.Operations.{op, leaf_op, with_type, bare_op}
use Rattle.base_ir.specs.Entries.{Entry, entry_ops, bare_entry}
use Rattle.base_ir.specs.Arrays.{rows_of}

-- TYPES TOLD

-- a leaf's operation keeps its argument, and an operator's has the type
pub leaf_with : (t : ℕ) (l : Leaf) → with_type t (leaf_op l) ≡ leaf_op l
unfolding with_type operands_of count_or
leaf_with t (int z) = refl
leaf_with t (bit b) = refl
leaf_with t (input k) = refl
leaf_with t (variable k) = refl

pub unary_with : (t : ℕ) (o : Unary) (z : _) → with_type t (op (unary_code o) z) ≡ op (unary_code o) (pos t)
unfolding with_type
unary_with t o z = rw (unary_operands o)

pub binary_with : (t : ℕ) (o : Binary) (z : _) → with_type t (op (binary_code o) z) ≡ op (binary_code o) (pos t)
unfolding with_type
binary_with t o z = rw (binary_operands o)

-- STATEMENTS

pub bare_ops : (es : List Entry) → entry_ops (map bare_entry es) ≡ map bare_op (entry_ops es)
unfolding entry_ops
bare_ops [] = refl
bare_ops (e ∷ es) = rw (bare_ops es) (sym (map-append bare_op e.ops (entry_ops es)))

-- rows say how many operations there are, and not which
pub bare_rows : (s m : ℕ) (es : List Entry) → rows_of s m (map bare_entry es) ≡ rows_of s m es
unfolding rows_of
bare_rows s m [] = refl
bare_rows s m (e ∷ es) = rw (length-map e.ops bare_op, bare_rows (s + 1) (m + length e.ops) es)
