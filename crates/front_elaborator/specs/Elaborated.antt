-- What an item, a statement's entry and a declared name become in the design: by the declarations and by what names stand for. Assumes nothing.
use Rattle.std.proofs.Math.Option.{Option, none, some}
use Rattle.std.specs.Prelude.{List, map, ℕ, eqb, pos}
use Rattle.base_codes.specs.Item.{NAME, NUMBER, BIT}
use Rattle.base_codes.specs.Operation.{INTEGER, STD_LOGIC, INPUT, VARIABLE}
use Rattle.base_codes.specs.Statement as K
use Rattle.spec_grammar.specs.Tree.{Mode, input, output_port, variable_mode}
use Rattle.spec_grammar.specs.Reader.{choose}
use Rattle.spec_language.specs.Declarations.{Decl, Scope, find}
use Rattle.spec_language.specs.Elaboration.{position}
use Rattle.front_layout.specs.Postfix.{Item}
use Rattle.front_layout.specs.Entries as S
use Rattle.base_ir.specs.Operations.{Op, op, bit_arg}
use Rattle.base_ir.specs.Entries.{Entry, entry}

-- a name in an expression: the k-th data input or variable; where it may not be read, '0'
abbrev pub mode_op : Scope → ℕ → Mode → Op
mode_op Γ v input = op INPUT (pos (position Γ.inputs v))
mode_op Γ v output_port = op STD_LOGIC (pos 0)
mode_op Γ v variable_mode = op VARIABLE (pos (position Γ.variables v))

abbrev pub found_op : Scope → ℕ → Option Decl → Op
found_op Γ v none = op STD_LOGIC (pos 0)
found_op Γ v (some d) = mode_op Γ v d.mode

-- an item; an operator keeps its code, and the type of its operands is not told yet
unfoldable pub op_of : List Decl → Scope → Item → Op
op_of Δ Γ i =
    choose (eqb i.code NAME) (found_op Γ i.token.value (find Δ i.token.value)) (choose (eqb i.code NUMBER) (op INTEGER (pos i.token.value))
    (choose (eqb i.code BIT) (op STD_LOGIC (bit_arg (eqb i.token.value 1))) (op i.code (pos 0))))

-- a target: the k-th output of <=, the k-th variable of :=; others have none
unfoldable pub target_of : Scope → ℕ → ℕ → ℕ
target_of Γ k v = choose (eqb k K.OUTPUT) (position Γ.outputs v) (choose (eqb k K.VARIABLE) (position Γ.variables v) 0)

-- a statement
unfoldable pub entry_of : List Decl → Scope → S.Entry → Entry
entry_of Δ Γ e = entry e.kind (target_of Γ e.kind e.token.value) (map (op_of Δ Γ) e.items) e.part e.inside
