-- The signature section of an image (document 01, "Image, form 1"). Assumes nothing.
use Rattle.std.specs.Prelude.{◌≡◌, true, ◌&&◌, List, [], ◌∷◌, ◌++◌, map, ℕ, zero, suc, ◌≤◌, length, ℤ, leb}
use Rattle.std.proofs.Math.Option.{Option, none, some, bind}
use Rattle.spec_design.specs.Types.{Ty, in_type, type_byte, type_of_byte}
use Rattle.spec_format.specs.Words.{word4, bytes4, only_if}
use Rattle.spec_semantics.specs.Twos.{signed32, unsigned32}

-- "for each output, then variable, type and 4-byte initial value"
pub record Cell : Type 0 where
  pub type : Ty
  pub initial : ℤ

-- data inputs, outputs and variables in declared order; "The clock is omitted."
pub record Signature : Type 0 where
  pub inputs : List Ty
  pub outputs : List Cell
  pub variables : List Cell

-- the types of outputs or variables
abbrev pub types : List Cell → List Ty
types l = map (λ (c : Cell). c.type) l

-- the initial values of outputs or variables
abbrev pub initials : List Cell → List ℤ
initials l = map (λ (c : Cell). c.initial) l

-- "a type byte per input"
unfoldable pub type_bytes : List Ty → List ℕ
type_bytes [] = []
type_bytes (t ∷ l) = type_byte t ∷ type_bytes l

-- "type and 4-byte initial value" of each
unfoldable pub cell_bytes : List Cell → List ℕ
cell_bytes [] = []
cell_bytes (c ∷ l) = type_byte c.type ∷ (bytes4 (unsigned32 c.initial) ++ cell_bytes l)

-- "bytes for the counts of data inputs .., outputs, variables ..; a type byte per input ..; for each output, then variable, type and .. initial value"
unfoldable pub signature_bytes : Signature → List ℕ
signature_bytes σ =
    length σ.inputs ∷ length σ.outputs ∷ length σ.variables
    ∷ (type_bytes σ.inputs ++ (cell_bytes σ.outputs ++ cell_bytes σ.variables))

-- every initial value is of its type
unfoldable pub Initialised : List Cell → Type 0
Initialised [] = Unit {0}
Initialised (c ∷ l) = (in_type c.type c.initial ≡ true) × Initialised l

-- "data inputs (at most 16), outputs, variables (at most 16, 32)"; a std_logic initial value is 0 or 1, an integer one any 32-bit integer
pub record GoodSignature (σ : Signature) : Type 0 where
  pub inputs : length σ.inputs ≤ 16
  pub outputs : length σ.outputs ≤ 16
  pub variables : length σ.variables ≤ 32
  pub initial_outputs : Initialised σ.outputs
  pub initial_variables : Initialised σ.variables

-- Reading: n types or cells and the bytes after them, or none where the bytes are no such.

-- n types
unfoldable pub read_types : ℕ → List ℕ → Option (List Ty × List ℕ)
read_types zero s = some ([], s)
read_types (suc n) [] = none
read_types (suc n) (k ∷ s) = bind (type_of_byte k) (λ t. bind (read_types n s) (λ p. some (t ∷ p.0, p.1)))

-- a type and an initial value of that type
abbrev pub read_cell : List ℕ → Option (Cell × List ℕ)
read_cell [] = none
read_cell (k ∷ []) = none
read_cell (k ∷ a ∷ []) = none
read_cell (k ∷ a ∷ b ∷ []) = none
read_cell (k ∷ a ∷ b ∷ c ∷ []) = none
read_cell (k ∷ a ∷ b ∷ c ∷ d ∷ s) =
    bind (type_of_byte k) (λ t. only_if (in_type t (signed32 (word4 a b c d))) (some (record { type = t; initial = signed32 (word4 a b c d) }, s)))

-- n types with their initial values
unfoldable pub read_cells : ℕ → List ℕ → Option (List Cell × List ℕ)
read_cells zero s = some ([], s)
read_cells (suc n) s = bind (read_cell s) (λ q. bind (read_cells n q.1) (λ p. some (q.0 ∷ p.0, p.1)))

-- x where no byte is left
abbrev pub at_end : {X : Type 0} → List ℕ → X → Option X
at_end [] x = some x
at_end (k ∷ s) x = none

-- the signature of the section's bytes; none is refusal 12
unfoldable pub signature_of : List ℕ → Option Signature
signature_of [] = none
signature_of (i ∷ []) = none
signature_of (i ∷ o ∷ []) = none
signature_of (i ∷ o ∷ v ∷ s) =
    only_if (leb i 16 && (leb o 16 && leb v 32))
    (bind (read_types i s) (λ p. bind (read_cells o p.1) (λ q. bind (read_cells v q.1) (λ r.
    at_end r.1 (record { inputs = p.0; outputs = q.0; variables = r.0 })))))
