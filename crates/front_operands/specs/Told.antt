-- Operations with the types of their operands, told from the first on: the type of what ends at each operation, and what the arrays hold behind the pass.
-- Assumes nothing.
use Rattle.std.specs.Prelude.{cond, ◌≡◌, List, [], ◌∷◌, map, ℕ, eqb, ltb, length, get_or, ℤ}
use Rattle.spec_design.specs.Types.{std_logic, integer, type_byte}
use Rattle.spec_design.specs.Process.{Process, WellFormed, source_types, slot_types}
use Rattle.base_codes.specs.Limit.{TEXT, VARIABLES}
use Rattle.base_codes.specs.Operation.{INTEGER, STD_LOGIC, INPUT, VARIABLE, operands_of}
use Rattle.base_codes.specs.Types.{NONE, result_for}
use Rattle.spec_semantics.specs.Twos.{unsigned32}
use Rattle.base_ir.specs.Operations.{Op, with_type, bare_op}
use Rattle.base_ir.specs.Entries.{entries, entry_ops}
use Rattle.base_ir.specs.Arrays.{OpsIn, TypesIn}

-- the number of a name's type, by its index
abbrev pub tag_at : List ℕ → ℕ → ℕ
tag_at l k = cond (ltb k VARIABLES) (get_or l k 0) NONE

-- of a literal's or a name's
unfoldable pub leaf_tag : List ℕ → List ℕ → ℕ → ℤ → ℕ
leaf_tag is vs c z =
    cond (eqb c INTEGER) (type_byte integer) (cond (eqb c STD_LOGIC) (type_byte std_logic)
    (cond (eqb c INPUT) (tag_at is (unsigned32 z)) (cond (eqb c VARIABLE) (tag_at vs (unsigned32 z)) NONE)))

-- of what ends at an operation, where t is that of what ends before it
unfoldable pub tag_after : List ℕ → List ℕ → Op → ℕ → ℕ
tag_after is vs o t =
    cond (eqb (operands_of o.code) 0) (leaf_tag is vs o.code o.arg) (result_for o.code t)

-- operations with the types of their operands, where t is the number of the type of what ends before the first
unfoldable pub told : List ℕ → List ℕ → ℕ → List Op → List Op
told is vs t [] = []
told is vs t (o ∷ os) = with_type t o ∷ told is vs (tag_after is vs o t) os

-- the arguments after the call (₁) from those before it (₀): arrays that held the operations of a well-formed process before the types of operands were told,
-- and the types of its names, hold its operations
pub record Tells (codes : List ℕ) (k : ℕ) (is vs : List ℕ) (args₀ args₁ : List ℤ) : Type 0 where
  pub holds : (p : Process) (i v : ℕ) → WellFormed p → length args₀ ≡ TEXT → TypesIn (source_types p.inputs) is i → TypesIn (slot_types p.variables) vs v
      → OpsIn (map bare_op (entry_ops (entries p.body))) codes args₀ k → OpsIn (entry_ops (entries p.body)) codes args₁ k
