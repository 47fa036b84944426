-- A design in arrays, by position: what stands at each index, and which design the arrays hold. Assumes nothing.
use Rattle.std.specs.Prelude.{◌≡◌, List, [], ◌∷◌, map, ℕ, zero, suc, ◌+◌, ◌*◌, ◌≤◌, length, get_or, take, ℤ, pos}
use Rattle.spec_design.specs.Types.{Ty, type_byte}
use Rattle.spec_design.specs.Statement.{Stmt, size}
use Rattle.spec_design.specs.Process.{Process, source_types, slot_types, initials}
use Rattle.base_codes.specs.Limit.{TEXT, STATEMENTS, INPUTS, OUTPUTS, VARIABLES}
use Rattle.base_codes.specs.Statement.{ROW, TARGET, FROM, TO, OTHER, END}
use Rattle.base_ir.specs.declared.Declared.{Declared}
use Rattle.base_ir.specs.Operations.{Op, op, bare_op}
use Rattle.base_ir.specs.Entries.{Entry, entries, entry_ops, Block}

-- Operations: those from index m on, c of them
unfoldable pub ops_from : List ℕ → List ℤ → ℕ → ℕ → List Op
ops_from codes args m zero = []
ops_from codes args m (suc c) = op (get_or codes m 0) (get_or args m (pos 0)) ∷ ops_from codes args (m + 1) c

-- the arrays hold k operations, which are these
pub record OpsIn (os : List Op) (codes : List ℕ) (args : List ℤ) (k : ℕ) : Type 0 where
  pub count : length os ≡ k
  pub short : k ≤ TEXT
  pub are : ops_from codes args 0 k ≡ os

-- A statement as the array has it: kind, target, its operations from and to, its second part's first statement, the one after its last
pub record Row : Type 0 where
  pub kind : ℕ
  pub target : ℕ
  pub from : ℕ
  pub to : ℕ
  pub other : ℕ
  pub end : ℕ

-- row j, and those from row j on, c of them
abbrev pub row_in : List ℕ → ℕ → Row
row_in rows j =
    record {
      kind = get_or rows (ROW * j) 0;
      target = get_or rows (ROW * j + TARGET) 0;
      from = get_or rows (ROW * j + FROM) 0;
      to = get_or rows (ROW * j + TO) 0;
      other = get_or rows (ROW * j + OTHER) 0;
      end = get_or rows (ROW * j + END) 0;
    }

unfoldable pub rows_from : List ℕ → ℕ → ℕ → List Row
rows_from rows j zero = []
rows_from rows j (suc c) = row_in rows j ∷ rows_from rows (j + 1) c

-- the rows of statements from number s on, where m operations stand before theirs
unfoldable pub rows_of : ℕ → ℕ → List Entry → List Row
rows_of s m [] = []
rows_of s m (e ∷ es) =
    record { kind = e.kind; target = e.target; from = m; to = m + length e.ops; other = s + 1 + e.part; end = s + 1 + e.inside } ∷ rows_of (s + 1)
    (m + length e.ops) es

-- the array holds s statements, which are these
pub record RowsIn (es : List Entry) (rows : List ℕ) (s : ℕ) : Type 0 where
  pub count : length es ≡ s
  pub short : s ≤ STATEMENTS
  pub are : rows_from rows 0 s ≡ rows_of 0 0 es

-- Declarations: the arrays begin with the types of n names; they begin with their initial values
abbrev pub TypesIn : List Ty → List ℕ → ℕ → Type 0
TypesIn ts types n = (length ts ≡ n) × (take n types ≡ map type_byte ts)

abbrev pub ValuesIn : List ℤ → List ℤ → ℕ → Type 0
ValuesIn zs values n = (length zs ≡ n) × (take n values ≡ zs)

-- the arrays hold the statement s from row j on, where m operations stand before its own
pub record At (codes : List ℕ) (args : List ℤ) (rows : List ℕ) (s : Stmt) (j m : ℕ) : Type 0 where
  pub lines : rows_from rows j (size s) ≡ rows_of j m (entries s)
  pub code : ops_from codes args m (length (entry_ops (entries s))) ≡ entry_ops (entries s)

-- the arrays hold the statements and expressions of a process's body, as a text has them
pub record BodyIn (p : Process) (codes : List ℕ) (args : List ℤ) (rows : List ℕ) (k s : ℕ) : Type 0 where
  pub block : Block p.body
  pub code : OpsIn (entry_ops (entries p.body)) codes args k
  pub lines : RowsIn (entries p.body) rows s

-- the same before the types of operands are told
pub record BareIn (p : Process) (codes : List ℕ) (args : List ℤ) (rows : List ℕ) (k s : ℕ) : Type 0 where
  pub block : Block p.body
  pub code : OpsIn (map bare_op (entry_ops (entries p.body))) codes args k
  pub lines : RowsIn (entries p.body) rows s

-- what is declared is what a process declares: types of its inputs; types and initial values of its outputs and of its variables
pub record NamesIn (p : Process) (d : Declared) : Type 0 where
  pub inputs : TypesIn (source_types p.inputs) d.inputs.types d.inputs.count
  pub outputs : TypesIn (slot_types p.outputs) d.outputs.types d.outputs.count
  pub variables : TypesIn (slot_types p.variables) d.variables.types d.variables.count
  pub first_outputs : ValuesIn (initials p.outputs) d.outputs.values d.outputs.count
  pub first_variables : ValuesIn (initials p.variables) d.variables.values d.variables.count

-- THE BORDER: the struct and the arrays hold the process p
pub record Holds (p : Process) (d : Declared) (codes : List ℕ) (args : List ℤ) (rows : List ℕ) : Type 0 where
  pub body : BodyIn p codes args rows d.operations d.statements
  pub declared : NamesIn p d

-- "Limits": counts that a design can have; a text of 16,384 bytes has no more operations
abbrev pub Bounded : Declared → Type 0
Bounded d = (d.operations ≤ TEXT) × (d.statements ≤ STATEMENTS) × (d.inputs.count ≤ INPUTS) × (d.outputs.count ≤ OUTPUTS)
    × (d.variables.count ≤ VARIABLES)
