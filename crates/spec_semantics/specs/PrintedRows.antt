-- The printed equations composed over input rows; and rows and calls beside them, of which the refused ones are dropped, as the printed equations know
-- neither refusals nor bounds (demand 2, "what the published ABC-VHDL equations give, within 32-bit integers"). Assumes nothing.
use Rattle.std.specs.Prelude.{◌≡◌, List, [], ◌∷◌, map}
use Rattle.std.proofs.Math.Option.{Option, some}
use Rattle.base_answers.specs.declared.State as declared
use Rattle.spec_design.specs.Statement.{Stmt}
use Rattle.spec_design.specs.Process.{Process}
use Rattle.spec_semantics.specs.Published.{ι, ω}
use Rattle.spec_semantics.specs.Denotation.{exactly, process}
use Rattle.spec_semantics.specs.Automaton.{states_over}
use Rattle.spec_semantics.specs.Rows.{Kept, Outcome, output_row}
use Rattle.spec_semantics.specs.Rows as R
use Rattle.spec_semantics.specs.PublishedRows.{State, initial_state, state_of, kept_of}
use Rattle.spec_semantics.specs.Calls.{Answer, performed, not_performed, Called, Call}
use Rattle.spec_semantics.specs.Comparison.{laid, told}

-- what is kept after each input row, from the state k: outputs, variables and wait, as the printed equations give them
unfoldable pub printed_from : (s : Stmt) → State s → List ι → List Kept
printed_from s k l = map (λ r. kept_of s (state_of s r)) (states_over (process exactly s) k.outputs k.variables k.control l)

-- .. from the initial values and the control state none
unfoldable pub printed_rows : Process → List ι → List Kept
printed_rows p l = printed_from p.body (initial_state p) l

-- of a list beside the answers of calls, the items of those that were performed: what belongs to a refused call is dropped
unfoldable pub of_performed : {X : Type 0} → List Answer → List X → List X
of_performed [] l = []
of_performed (a ∷ rest) [] = []
of_performed (performed way ∷ rest) (x ∷ l) = x ∷ of_performed rest l
of_performed (not_performed q k ∷ rest) (x ∷ l) = of_performed rest l

-- a row's output row, where it is performed, and what is kept after it
abbrev pub row_left : Outcome × Kept → Option ω × Kept
row_left r = (output_row r.0, r.1)

-- the same of a cycle that keeps k: "the output row gets all outputs"
abbrev pub row_kept : Kept → Option ω × Kept
row_kept k = (some k.memory.outputs, k)

-- the answers of rows
abbrev pub row_answers : List (Outcome × Kept) → List Answer
row_answers rs = map (λ (r : Outcome × Kept). told r.0) rs

-- The calls cs have the outcomes rs. The refused ones dropped, output row, outputs, variables and wait after each are those of the printed equations over
-- the input rows of the same calls.
abbrev pub RowsPrinted : Process → List R.Call → List (Outcome × Kept) → Type 0
RowsPrinted p cs rs =
    let answers = row_answers rs in
    of_performed answers (map row_left rs) ≡ map row_kept (printed_rows p (of_performed answers (map (λ (c : R.Call). c.inputs) cs)))

-- a call's output row and state record, as it left them
abbrev pub call_left : Called → ω × declared.State
call_left r = (r.row, r.state)

-- the same of a cycle that keeps k
abbrev pub call_kept : Kept → ω × declared.State
call_kept k = (k.memory.outputs, laid k)

-- the answers of calls
abbrev pub call_answers : List Called → List Answer
call_answers rs = map (λ (r : Called). r.answer) rs

-- The calls cs left rs. The refused ones dropped, output row and state record after each are those of the printed equations over the input rows of the
-- same calls: the outputs, and all that is kept, laid out.
abbrev pub CallsPrinted : Process → List Call → List Called → Type 0
CallsPrinted p cs rs =
    let answers = call_answers rs in
    of_performed answers (map call_left rs) ≡ map call_kept (printed_rows p (of_performed answers (map (λ (c : Call). c.inputs) cs)))
