-- One call of the cycle on an image: its answer, and state and output row as they are left (document 01, "State", "Turned back"). Assumes nothing.
use Rattle.std.specs.Prelude.{cond, ◌&&◌, List, [], ◌∷◌, ℕ, length, ℤ, eqb}
use Rattle.std.proofs.Math.Option.{Option, some}
use Rattle.base_answers.specs.declared.State.{State}
use Rattle.spec_semantics.specs.Equations.{Result, passed, reached, refused}
use Rattle.spec_semantics.specs.Rows.{wrong_value}
use Rattle.spec_semantics.specs.Records.{state_for}
use Rattle.spec_semantics.specs.Calls.{performed, Called, turned_back, unless14, Call}
use Rattle.spec_format.specs.Walk.{table_cycle}
use Rattle.spec_format.specs.Signature.{Signature}
use Rattle.spec_format.specs.Image.{Table}
use Rattle.spec_format.specs.Opening.{Opened, opened, not_opened, open_of}
use Rattle.spec_format.specs.State.{state_ok, memory_of}

-- 14: "input or output row not as long as its count; else input value", at "0; its index"; none where the rows do not meet 14
unfoldable pub row_place : Signature → List ℤ → ℕ → Option ℕ
row_place σ i n = cond (eqb (length i) (length σ.inputs) && eqb n (length σ.outputs)) (wrong_value σ.inputs i 0) (some 0)

-- "The wait reached becomes the place ..; the output row gets all outputs"; 16 or 18 at its line. That a cycle of an opened image is never passed is
-- `image_outcome` of the crate spec_simulation.
abbrev pub ended : Result → State → List ℤ → Called
ended (passed τ) s o = record { answer = performed τ.way; state = state_for 512 τ.memory; row = τ.memory.outputs }
ended (reached p τ) s o = record { answer = performed τ.way; state = state_for p τ.memory; row = τ.memory.outputs }
ended (refused q x) s o = turned_back q x s o

-- one cycle of the table from the state s, over the input row i; o is the output row
unfoldable pub table_row : Table → State → List ℤ → List ℤ → Called
table_row t s i o =
    ended (table_cycle t.lines t.reaches s.place i (record { way = []; memory = memory_of t.signature s })) s o

-- one row on an opened table: 14, then 15, then 16
unfoldable pub row_of : Table → State → List ℤ → List ℤ → Called
row_of t s i o = unless14 (row_place t.signature i (length o)) s o (cond (state_ok t s) (table_row t s i o) (turned_back 15 0 s o))

-- refusal 11, 12 or 13, or what is done with the opened table
abbrev pub unless_closed : Opened → State → List ℤ → (Table → Called) → Called
unless_closed (opened t) s o k = k t
unless_closed (not_opened q p) s o k = turned_back q p s o

-- the cycle on an image's bytes: 11, 12, 13, then the row
unfoldable pub cycle_of : List ℕ → State → List ℤ → List ℤ → Called
cycle_of b s i o = unless_closed (open_of b) s o (λ t. row_of t s i o)

-- "one claim about the whole list of cycle calls": what each call leaves, the next one getting the state that the last left
unfoldable pub calls_of : List ℕ → State → List Call → List Called
calls_of b s [] = []
calls_of b s (c ∷ cs) = let r = cycle_of b s c.inputs c.outputs in r ∷ calls_of b r.state cs
