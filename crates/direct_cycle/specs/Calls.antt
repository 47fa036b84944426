-- What one call of the direct run is given: the arrays that hold a design, and the rows; and what its cycle leaves. Assumes nothing.
use Rattle.std.specs.Prelude.{◌≡◌, List, map, ℕ, length, take, ℤ, Err, Ok}
use Rattle.base_answers.specs.declared.State.{State}
use Rattle.base_answers.specs.declared.Advanced.{Advanced}
use Rattle.base_codes.specs.Fault.{number_of}
use Rattle.base_answers.specs.Answers.{operator_refusal}
use Rattle.spec_design.specs.Process.{Process, source_types, slot_types, WellFormed}
use Rattle.spec_semantics.specs.Rows as R
use Rattle.spec_semantics.specs.Calls.{Call}
use Rattle.base_ir.specs.Entries.{Block}
use Rattle.spec_design.specs.Types.{type_byte}
use Rattle.direct_statements.specs.Holding.{HeldIn}
use Rattle.direct_statements.specs.declared.Progress.{Progress}
use Rattle.direct_statements.specs.declared.Progress.TheVariants.{Passed, Reached, Refused}

-- the arrays hold the body of an accepted text's process, of so many statements: see `design_held`
pub record Design (p : Process) (codes : List ℕ) (args : List ℤ) (rows : List ℕ) (size : ℕ) : Type 0 where
  pub body : HeldIn codes args rows p.body 0 size
  pub block : Block p.body
  pub well_formed : WellFormed p

-- the types of its inputs, outputs and variables, as numbers
pub record Names (p : Process) (is os vs : List ℕ) : Type 0 where
  pub inputs : is ≡ map type_byte (source_types p.inputs)
  pub outputs : os ≡ map type_byte (slot_types p.outputs)
  pub variables : vs ≡ map type_byte (slot_types p.variables)

-- a call's input row, and its output row as it is lent
abbrev pub call_of : List ℤ → List ℤ → Call
call_of i o = record { inputs = i; outputs = o }

-- what the equations are fed of it
abbrev pub fed_of : List ℤ → ℕ → R.Call
fed_of i n = record { inputs = i; room = n }

-- where a cycle stands that came to r: 512 is the beginning; a refused one stands nowhere
abbrev pub place_by : Progress → ℕ
place_by (Passed n) = 512
place_by (Reached p n) = p
place_by (Refused q x) = 0

-- what it answers, and the state that it leaves, with the slots o and v; a refused one hands back the state s
abbrev pub left_by : State → Progress → List ℤ → List ℤ → Advanced
left_by s (Passed n) o v = record { state = record { place = 512; outputs = o; variables = v }; answer = Ok (record { lines = n }) }
left_by s (Reached p n) o v = record { state = record { place = p; outputs = o; variables = v }; answer = Ok (record { lines = n }) }
left_by s (Refused q x) o v = record { state = s; answer = Err (operator_refusal (number_of q) x) }

-- the output row after it: as many of the output slots as it has places for; untouched where it is refused
abbrev pub row_by : Progress → List ℤ → List ℤ → List ℤ
row_by (Passed n) o row = take (length row) o
row_by (Reached p n) o row = take (length row) o
row_by (Refused q x) o row = row
