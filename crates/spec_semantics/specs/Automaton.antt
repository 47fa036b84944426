-- The states and the output rows of a process of document 000 over a list of input rows (5.5): as printed, and as document 01 reads them. Assumes nothing.
use Rattle.std.proofs.Math.Option.{Option, none}
use Rattle.std.specs.Prelude.{List, [], ◌∷◌, map}
use Rattle.spec_semantics.specs.Effects.{printed}
use Rattle.spec_semantics.specs.Published.{ι, ω, φ, type_c_statement, CLOSE_C_printed}

-- "automaton(CLOSE_C x, (v, o, none))": the output of each call as the function f prints it, first in its result
unfoldable pub automaton : {γ : Type 0} → (ι → ω → φ → Option γ → ω × (ω × φ) × Option γ) → ω → φ → Option γ → List ι → List ω
automaton f so sq ss [] = []
automaton f so sq ss (si ∷ l) = let (row, (so, sq), ss) = f si so sq ss in row ∷ automaton f so sq ss l

-- the states of outputs, variables and control after each call
unfoldable pub states_over : {γ : Type 0} → (ι → ω → φ → Option γ → ω × φ × Option γ) → ω → φ → Option γ → List ι → List (ω × φ × Option γ)
states_over f so sq ss [] = []
states_over f so sq ss (si ∷ l) = let r = f si so sq ss in r ∷ states_over f r.0 r.1 r.2 l

-- "the output row gets all outputs, what the cycle assigned included": the new output state of each call
unfoldable pub assigned_rows : {γ : Type 0} → (ι → ω → φ → Option γ → ω × φ × Option γ) → ω → φ → Option γ → List ι → List ω
assigned_rows f so sq ss l = map (λ r. r.0) (states_over f so sq ss l)

-- PROCESS_C as printed: the process's output rows from the initial states of outputs and variables
unfoldable pub PROCESS_C : {γ : Type 0} → ω → φ → type_c_statement printed γ → List ι → List ω
PROCESS_C so sq pf = automaton (CLOSE_C_printed printed pf) so sq none
