-- Rows by the published equations, with refusals and the way; the state that they go on from. Assumes nothing.
use Rattle.std.proofs.Math.Option.{Option, none, some}
use Rattle.std.specs.Prelude.{List, [], ◌∷◌, ℕ}
use Rattle.spec_design.specs.Statement.{Stmt}
use Rattle.spec_design.specs.Process.{Process, initials}
use Rattle.spec_semantics.specs.Effects.{Step, ends, stops}
use Rattle.spec_semantics.specs.Published.{ω, φ}
use Rattle.spec_semantics.specs.Waits.{Waits}
use Rattle.spec_semantics.specs.Denotation.{tracing, process}
use Rattle.spec_semantics.specs.Rows.{Call, Kept, row_refusal, Outcome, performed, row_refused, operator_refused}
use Rattle.spec_semantics.specs.Correspondence.{place_of}

-- "the state of type C processes not only consists of variable state and output state, but there is also a control state" (5.5)
pub record State (s : Stmt) : Type 0 where
  pub outputs : ω
  pub variables : φ
  pub control : Option (Waits s)

-- "automaton(CLOSE_C x, (v, o, none))" (5.5): the initial values, and the control state none
abbrev pub initial_state : (p : Process) → State p.body
initial_state p = record { outputs = initials p.outputs; variables = initials p.variables; control = none }

-- the state that a cycle ends in
abbrev pub state_of : (s : Stmt) → ω × φ × Option (Waits s) → State s
state_of s r = record { outputs = r.0; variables = r.1; control = r.2 }

-- what is kept, by place
abbrev pub kept_of : (s : Stmt) → State s → Kept
kept_of s k = record { place = place_of s k.control; memory = record { outputs = k.outputs; variables = k.variables } }

-- what a cycle answers, and the state after it, where k was the state before
unfoldable pub concluded_published : (s : Stmt) → Step (ω × φ × Option (Waits s)) → State s → Outcome × State s
concluded_published s (ends r w) k = (performed r.0 w, state_of s r)
concluded_published s (stops q n) k = (operator_refused q n, k)

-- one call: a row that meets 14 is refused, otherwise a cycle follows
unfoldable pub judged_published : Option ℕ → (p : Process) → State p.body → Call → Outcome × State p.body
judged_published none p k c = concluded_published p.body (process tracing p.body c.inputs k.outputs k.variables k.control []) k
judged_published (some x) p k c = (row_refused x, k)

-- the outcome of every call, with what is kept after it
unfoldable pub published_from : (p : Process) → State p.body → List Call → List (Outcome × Kept)
published_from p k [] = []
published_from p k (c ∷ cs) = let r = judged_published (row_refusal p c) p k c in (r.0, kept_of p.body r.1) ∷ published_from p r.1 cs

-- all calls, from the initial state
unfoldable pub published_rows : Process → List Call → List (Outcome × Kept)
published_rows p cs = published_from p (initial_state p) cs
