-- Rows: what each call answers and what is kept after it (document 01, "Composed over rows, the equations read so"). Assumes nothing.
use Rattle.std.specs.Prelude.{cond, ◌&&◌, List, [], ◌∷◌, ℕ, suc, length, ℤ, eqb}
use Rattle.std.proofs.Math.Option.{Option, none, some}
use Rattle.spec_design.specs.Types.{Ty, in_type}
use Rattle.spec_design.specs.Process.{Process, source_types, initials}
use Rattle.spec_semantics.specs.Equations.{Memory, Result, passed, reached, refused, Place, beginning, at, cycle}

-- "They are fed .. per call, the input row and the output row's length"
pub record Call : Type 0 where
  pub inputs : List ℤ
  pub room : ℕ

-- "They keep place, outputs and variables"
pub record Kept : Type 0 where
  pub place : Place
  pub memory : Memory

-- ".. at first the beginning and the initial values"
unfoldable pub kept_at_first : Process → Kept
kept_at_first p = record { place = beginning; memory = record { outputs = initials p.outputs; variables = initials p.variables } }

-- the lowest index of a value that is not of its type, the first value having the index k
unfoldable pub wrong_value : List Ty → List ℤ → ℕ → Option ℕ
wrong_value [] l k = none
wrong_value (t ∷ ts) [] k = none
wrong_value (t ∷ ts) (z ∷ l) k = cond (in_type t z) (wrong_value ts l (suc k)) (some k)

-- 14: "input or output row not as long as its count; else input value", at "0; its index"; none where the call does not meet 14
unfoldable pub row_refusal : Process → Call → Option ℕ
row_refusal p c =
    cond (eqb (length c.inputs) (length p.inputs) && eqb c.room (length p.outputs))
    (wrong_value (source_types p.inputs) c.inputs 0)
    (some 0)

-- A row is performed, with its output row and its way; refused by 14 at a place; or refused by an operator's number at a statement's number.
pub data Outcome : Type 0 where
  performed : (row : List ℤ) (way : List ℕ) → Outcome
  row_refused : (place : ℕ) → Outcome
  operator_refused : (number line : ℕ) → Outcome

-- the refusal's number and place as the table "Turned back" has them
unfoldable pub refusal : Outcome → Option (ℕ × ℕ)
refusal (performed row way) = none
refusal (row_refused place) = some (14, place)
refusal (operator_refused q line) = some (q, line)

-- the output row, where the row is performed
unfoldable pub output_row : Outcome → Option (List ℤ)
output_row (performed row way) = some row
output_row (row_refused place) = none
output_row (operator_refused q line) = none

-- what a cycle's result answers, and what is kept after it, where k was kept before
unfoldable pub concluded : Result → Kept → Outcome × Kept
-- no cycle of an accepted text's process is passed: see `cycle_ends`
concluded (passed σ) k = (performed σ.memory.outputs σ.way, record { place = beginning; memory = σ.memory })
-- "The wait reached becomes the place and ends the cycle; the output row gets all outputs, what the cycle assigned included."
concluded (reached p σ) k = (performed σ.memory.outputs σ.way, record { place = at p; memory = σ.memory })
-- "A refused operator (16) refuses the row ..; all that is kept is then as before the row." The number q is 16 or 18: see `cycle_number`.
concluded (refused q n) k = (operator_refused q n, k)

-- "A row that meets 14 is refused. Otherwise the data inputs (all but the clock) hold it", and a cycle follows
unfoldable pub judged : Option ℕ → Process → Kept → Call → Outcome × Kept
judged none p k c = concluded (cycle p.body k.place c.inputs (record { way = []; memory = k.memory })) k
judged (some x) p k c = (row_refused x, k)

-- one call on what is kept
unfoldable pub row : Process → Kept → Call → Outcome × Kept
row p k c = judged (row_refusal p c) p k c

-- "one claim about the whole list of cycle calls": the outcome of every call, with what is kept after it
unfoldable pub rows_from : Process → Kept → List Call → List (Outcome × Kept)
rows_from p k [] = []
rows_from p k (c ∷ cs) = let r = row p k c in r ∷ rows_from p r.1 cs

-- all calls, from what is kept at first
unfoldable pub rows : Process → List Call → List (Outcome × Kept)
rows p cs = rows_from p (kept_at_first p) cs
