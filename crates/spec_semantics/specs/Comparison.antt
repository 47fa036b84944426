-- The equations' answers, put as the calls of a cycle on an image put theirs: what is compared after every call (document 01, "Before delivery is
-- taken"). Assumes nothing.
use Rattle.std.specs.Prelude.{List, [], ◌∷◌, length, ℤ}
use Rattle.base_answers.specs.declared.State.{State}
use Rattle.spec_design.specs.Process.{Process}
use Rattle.spec_semantics.specs.Rows.{Kept, Outcome, performed, row_refused, operator_refused, row}
use Rattle.spec_semantics.specs.Rows as R
use Rattle.spec_semantics.specs.Records.{number, state_for}
use Rattle.spec_semantics.specs.Calls.{Answer, Called, Call}
use Rattle.spec_semantics.specs.Calls as C

-- what the equations are fed of a call: "the input row and the output row's length"
abbrev pub fed : Call → R.Call
fed c = record { inputs = c.inputs; room = length c.outputs }

-- what the equations keep, "laid out as the State section has it": the place 512 for the beginning, unused slots 0
abbrev pub laid : Kept → State
laid k = state_for (number k.place) k.memory

-- an outcome as a call's answer: the way, or number and place
abbrev pub told : Outcome → Answer
told (performed row way) = C.performed way
told (row_refused place) = C.not_performed 14 place
told (operator_refused q line) = C.not_performed q line

-- the output row as it is left: all outputs, or as it was lent
abbrev pub left : Outcome → List ℤ → List ℤ
left (performed row way) o = row
left (row_refused place) o = o
left (operator_refused q line) o = o

-- one call of the equations, seen as a call on an image
abbrev pub seen : Outcome × Kept → Call → Called
seen r c = record { answer = told r.0; state = laid r.1; row = left r.0 c.outputs }

-- all calls, one after another, by the equations
unfoldable pub equation_calls : Process → Kept → List Call → List Called
equation_calls p k [] = []
equation_calls p k (c ∷ cs) = let r = row p k (fed c) in seen r c ∷ equation_calls p r.1 cs

-- all calls, by a list of outcomes with what is kept after each
unfoldable pub seen_all : List (Outcome × Kept) → List Call → List Called
seen_all [] cs = []
seen_all (r ∷ rs) [] = []
seen_all (r ∷ rs) (c ∷ cs) = seen r c ∷ seen_all rs cs
