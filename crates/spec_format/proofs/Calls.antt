-- A refused call changes nothing, whatever the bytes, the state and the rows are: by cases on the call. Assumes nothing.
use Prim.Native.Nat.{ℕ}
use native.Mathlib.Omega.{arith}
use mathlib.Core.Path.{◌≡◌, refl}
use mathlib.Core.Bool.{Bool, true, false, cond}
use mathlib.Core.Option.{Option, none, some}
use mathlib.Core.List.{List, []}
use lib.ListN.{length}
use lib.IntN.{ℤ}
use Rattle.base_answers.specs.declared.State.{State}
use Rattle.spec_semantics.specs.Equations.{Result, passed, reached, refused}
use Rattle.spec_format.specs.Image.{Table}
use Rattle.spec_format.specs.Opening.{Opened, opened, not_opened, open_of}
use Rattle.spec_format.specs.State.{state_ok, memory_of}
use Rattle.spec_format.specs.Walk.{table_cycle}
use Rattle.spec_format.specs.Cycle.{row_place, ended, table_row, row_of, unless_closed, cycle_of}
use Rattle.spec_semantics.specs.Calls.{Called, not_performed, turned_back, unless14}

module _ (s : State) (o : List ℤ) where
  -- where a call is refused, state and output row are as they came
  Untouched : Called → Type 0
  Untouched r = (q k : ℕ) → r.answer ≡ not_performed q k → (r.state ≡ s) × (r.row ≡ o)

  turned_untouched : (q k : ℕ) → Untouched (turned_back q k s o)
  unfolding Untouched
  turned_untouched q k x y e = (refl, refl)

  ended_untouched : (z : Result) → Untouched (ended z s o)
  unfolding Untouched
  ended_untouched (passed τ) q k e = absurd (let z : ◌≡◌ {A = ℕ} 0 1 = cc in omega arith)
  ended_untouched (reached p τ) q k e = absurd (let z : ◌≡◌ {A = ℕ} 0 1 = cc in omega arith)
  ended_untouched (refused x y) q k e = (refl, refl)

  row_untouched : (t : Table) (i : List ℤ) → Untouched (row_of t s i o)
  unfolding row_of table_row
  row_untouched t i = judge (row_place t.signature i (length o)) (state_ok t s)
    where
      judge : (b : Option ℕ) (c : Bool) → Untouched (unless14 b s o (cond c (table_row t s i o) (turned_back 15 0 s o)))
      judge (some k) c = turned_untouched 14 k
      judge none true = ended_untouched (table_cycle t.lines t.reaches s.place i (record { way = []; memory = memory_of t.signature s }))
      judge none false = turned_untouched 15 0

  -- "Buffers and state are untouched": a refused call leaves state and output row as they came.
  pub refused_untouched : (b : List ℕ) (i : List ℤ) (q k : ℕ) → (cycle_of b s i o).answer ≡ not_performed q k
      → ((cycle_of b s i o).state ≡ s) × ((cycle_of b s i o).row ≡ o)
  unfolding cycle_of Untouched
  refused_untouched b i = by (open_of b)
    where
      by : (x : Opened) → Untouched (unless_closed x s o (λ t. row_of t s i o))
      by (opened t) = row_untouched t i
      by (not_opened q k) = turned_untouched q k
