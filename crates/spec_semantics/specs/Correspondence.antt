-- Outcomes of the published equations, with refusals and the way, read as results of statements and cycles. Assumes nothing.
use Rattle.std.proofs.Math.Option.{Option, none, some}
use Rattle.std.specs.Prelude.{List, ℕ}
use Rattle.spec_design.specs.Statement.{Stmt, Class, A, B, C}
use Rattle.spec_semantics.specs.Equations.{Run, Result, passed, reached, refused, Place, beginning, at}
use Rattle.spec_semantics.specs.Effects.{Step, ends, stops}
use Rattle.spec_semantics.specs.Published.{ι, ω, φ}
use Rattle.spec_semantics.specs.Waits.{Waits, number_of}
use Rattle.spec_semantics.specs.Denotation.{tracing, Sem}

-- the way w, with the output state so and the variable state sq
abbrev pub run : List ℕ → ω → φ → Run
run w so sq = record { way = w; memory = record { outputs = so; variables = sq } }

-- 5.2: none is the end of the statement, any v a wait, by its number m v
abbrev pub placed : {γ : Type 0} → (γ → ℕ) → Run → Option γ → Result
placed m τ none = passed τ
placed m τ (some v) = reached (m v) τ

-- a type A statement is passed
abbrev pub to_a : Step (ω × φ) → Result
to_a (ends p w) = passed (run w p.0 p.1)
to_a (stops q n) = refused q n

-- a type B statement, or a type C statement that is resumed, is passed or reaches a wait
abbrev pub to_b : {γ : Type 0} → (γ → ℕ) → Step (ω × φ × Option γ) → Result
to_b m (ends p w) = placed m (run w p.0 p.1) p.2
to_b m (stops q n) = refused q n

-- a type C statement that is started reaches a wait
abbrev pub to_c : {γ : Type 0} → (γ → ℕ) → Step (ω × φ × γ) → Result
to_c m (ends p w) = reached (m p.2) (run w p.0 p.1)
to_c m (stops q n) = refused q n

-- a statement's meaning f started over the input row i
abbrev pub starts : (x : Class) (γ : Type 0) → Sem tracing x γ → (γ → ℕ) → ι → Run → Result
starts A γ f m i σ = to_a (f i σ.memory.outputs σ.memory.variables σ.way)
starts B γ f m i σ = to_b m (f i σ.memory.outputs σ.memory.variables none σ.way)
starts C γ f m i σ = to_c m (f.0 i σ.memory.outputs σ.memory.variables σ.way)

-- a statement's meaning f resumed at its wait v
abbrev pub resumes : (x : Class) (γ : Type 0) → Sem tracing x γ → (γ → ℕ) → γ → ι → Run → Result
resumes A γ f m v i σ = passed σ
resumes B γ f m v i σ = to_b m (f i σ.memory.outputs σ.memory.variables (some v) σ.way)
resumes C γ f m v i σ = to_b m (f.1 i σ.memory.outputs σ.memory.variables v σ.way)

-- a control state of the body s as a place: none is the beginning
abbrev pub place_of : (s : Stmt) → Option (Waits s) → Place
place_of s none = beginning
place_of s (some v) = at (number_of s 0 v)
