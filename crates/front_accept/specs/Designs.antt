-- What the front end hands out of an accepted text: the struct and the arrays of its design, and the spelling of its names. Assumes nothing.
use Rattle.std.specs.Prelude.{◌≡◌, List, [], ◌∷◌, map, ℕ, zero, suc, ◌+◌, ◌*◌, min, length, get_or, replicate, ℤ}
use Rattle.base_codes.specs.Limit.{TEXT, STATEMENTS, NAMES}
use Rattle.base_codes.specs.Declaration.{IN, OUT, VARIABLE}
use Rattle.base_codes.specs.Statement.{ROW}
use Rattle.spec_design.specs.Spelling.{name_bytes}
use Rattle.spec_design.specs.Process.{Source, Slot, Process}
use Rattle.spec_language.specs.Bytes.{lower}
use Rattle.spec_semantics.specs.Twos.{unsigned32}
use Rattle.front_token.specs.Places.{part}
use Rattle.front_offences.specs.declared.Shape.{Shape}
use Rattle.front_layout.specs.Rows.{store_rows}
use Rattle.front_operands.specs.Told.{Tells}
use Rattle.front_elaborator.specs.Positions.{code_of, arg_of, Places, rows_at}
use Rattle.front_elaborator.specs.Names.{slots_after, Heads, Gathers}
use Rattle.base_ir.specs.declared.Names.{Names}
use Rattle.base_ir.specs.declared.Declared.{Declared}
use Rattle.base_ir.specs.Arrays.{Holds}

-- the arrays that are lent have their sizes
pub record Sized (ops : List ℕ) (args : List ℤ) (lines : List ℕ) : Type 0 where
  pub ops_size : length ops ≡ TEXT
  pub args_size : length args ≡ TEXT
  pub line_cells : length lines ≡ ROW * STATEMENTS

-- the bytes of the text at these places, in lower case: from index k on, c of them
unfoldable pub spellings : List ℕ → List ℕ → List ℕ → ℕ → ℕ → List (List ℕ)
spellings text starts sizes k zero = []
spellings text starts sizes k (suc c) = map lower (part text (get_or starts k 0) (get_or sizes k 0)) ∷ spellings text starts sizes (k + 1) c

-- the places of declared names have the bytes of these names
abbrev pub SpelledIn : List ℕ → Names → List ℕ → Type 0
SpelledIn text d ns = spellings text d.starts d.sizes 0 d.count ≡ map name_bytes ns

-- those of a process's inputs, outputs and variables
pub record Spelled (text : List ℕ) (p : Process) (d : Declared) : Type 0 where
  pub inputs : SpelledIn text d.inputs (map (λ (s : Source). s.name) p.inputs)
  pub outputs : SpelledIn text d.outputs (map (λ (s : Slot). s.name) p.outputs)
  pub variables : SpelledIn text d.variables (map (λ (s : Slot). s.name) p.variables)

-- THE BORDER: what is handed out of a text that means the process p
pub record Border (text : List ℕ) (p : Process) (d : Declared) (ops : List ℕ) (args : List ℤ) (lines : List ℕ) : Type 0 where
  pub holds : Holds p d ops args lines
  pub spelled : Spelled text p d

-- what the design of a parsed text declares, by its declared names; the clock's number among them
pub record Declares (text kinds starts sizes : List ℕ) (p : Shape) (decls : List ℕ) (clock : ℕ) (d : Declared) : Type 0 where
  pub statements : d.statements ≡ p.statements
  pub operations : d.operations ≡ p.items
  pub inputs : Heads starts sizes decls p.names clock IN d.inputs
  pub outputs : Gathers text starts sizes kinds decls p.names clock OUT d.outputs
  pub variables : Gathers text starts sizes kinds decls p.names clock VARIABLE d.variables

-- the arrays of one process (₁) from those of what was read (₀): k declared names get their indices, items become operations, statements get their targets,
-- and operators the types of their operands
pub record Lays (k clock : ℕ) (decls owners : List ℕ) (d : Declared) (ops₀ ops₁ : List ℕ) (args₀ args₁ : List ℤ) (lines₀ lines₁ : List ℕ) : Type 0 where
  pub slots : List ℕ
  pub indexed : slots ≡ slots_after decls k clock (replicate NAMES 0)
  pub bare : List ℤ
  pub placed : Places (λ c z. code_of decls k c (unsigned32 z)) (arg_of decls k slots) d.operations ops₀ ops₁ args₀ bare
  pub lines : lines₁ ≡ store_rows 0 (rows_at owners slots lines₀ 0 (min d.statements STATEMENTS)) lines₀
  pub told : Tells ops₁ d.operations d.inputs.types d.variables.types bare args₁
