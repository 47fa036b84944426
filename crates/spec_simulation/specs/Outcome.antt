-- What a row can come to on any image that opens, compiled or not, and which state records it accepts. Assumes nothing.
use Rattle.std.specs.Prelude.{◌≡◌, ◌⊎◌, List, [], ℕ, ◌<◌, length, ℤ}
use Rattle.base_answers.specs.declared.State.{State}
use Rattle.spec_semantics.specs.Equations.{Memory, Run, reached, refused}
use Rattle.spec_semantics.specs.Evaluation.{OperatorNumber}
use Rattle.spec_semantics.specs.InputRow.{Wrong}
use Rattle.spec_semantics.specs.Values.{Typed as TypedBy}
use Rattle.spec_format.specs.Walk.{from, table_cycle}
use Rattle.spec_format.specs.Signature.{Signature, types}
use Rattle.spec_format.specs.Image.{Table}
use Rattle.spec_format.specs.State.{memory_of}
use Rattle.spec_semantics.specs.Records.{state_for}
use Rattle.spec_semantics.specs.Calls.{performed, Called, turned_back}
use Rattle.spec_simulation.specs.Walked.{WaitAt, WayFrom}

-- input and output row are as long as their counts
unfoldable pub Fitting : Signature → List ℤ → ℕ → Type 0
Fitting σ i n = (length i ≡ length σ.inputs) × (n ≡ length σ.outputs)

-- 14 for the input row i and an output row of the length n: "input or output row not as long as its count; else input value", at "0; its index"
unfoldable pub Meets14 : Signature → List ℤ → ℕ → ℕ → Type 0
Meets14 σ i n k = ((Fitting σ i n → ⊥) × (k ≡ 0)) ⊎ (Fitting σ i n × Wrong σ.inputs i k × ((y : ℕ) → y < k → Wrong σ.inputs i y → ⊥))

-- outputs and variables have the signature's numbers and types
abbrev pub Typed : Signature → Memory → Type 0
Typed σ m = TypedBy (types σ.outputs) (types σ.variables) m

-- a state that is not refused by 15: "A place (512 for the beginning, else a wait's line)", and the slots of values of their types, "unused ones 0"
pub record GoodState (t : Table) (s : State) : Type 0 where
  pub place : (s.place ≡ 512) ⊎ WaitAt t.lines s.place
  pub memory : Memory
  pub typed : Typed t.signature memory
  pub slots : s ≡ state_for s.place memory

-- A row on the table t from the state s, with the input row i and the output row o: refused by 14, by 15 or by an operator, state and output row as they came;
-- or performed, at a wait, over lines that come once each and are at most one more than the reach of the first; the state is not refused by 15
-- and the output row is full.
pub data Outcome (t : Table) (s : State) (i o : List ℤ) : Called → Type 0 where
  row_refused : (k : ℕ) → Meets14 t.signature i (length o) k → Outcome t s i o (turned_back 14 k s o)
  state_refused : ((k : ℕ) → Meets14 t.signature i (length o) k → ⊥) → (GoodState t s → ⊥) → Outcome t s i o (turned_back 15 0 s o)
  operator_refused : (q x : ℕ) → OperatorNumber q → ((k : ℕ) → Meets14 t.signature i (length o) k → ⊥) → GoodState t s → x < length t.lines
      → table_cycle t.lines t.reaches s.place i (record { way = []; memory = memory_of t.signature s }) ≡ refused q x
      → Outcome t s i o (turned_back q x s o)
  performs : (p : ℕ) (τ : Run) → ((k : ℕ) → Meets14 t.signature i (length o) k → ⊥) → GoodState t s
      → table_cycle t.lines t.reaches s.place i (record { way = []; memory = memory_of t.signature s }) ≡ reached p τ
      → WaitAt t.lines p → WayFrom t.lines t.reaches (from t.lines s.place) τ.way
      → GoodState t (state_for p τ.memory) → length τ.memory.outputs ≡ length o
      → Outcome t s i o (record { answer = performed τ.way; state = state_for p τ.memory; row = τ.memory.outputs })
