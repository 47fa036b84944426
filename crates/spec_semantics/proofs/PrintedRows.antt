-- Of any list of calls, those that are performed are the printed equations' own, by induction on the calls: a refused call keeps all as before, and a
-- cycle that ends is the printed one (`cycle_exact`). Assumes nothing.
use Prim.Native.Nat.{ℕ}
use mathlib.Core.Path.{◌≡◌, refl, sym, ap, ap₂, subst, ◌∙◌}
use mathlib.Core.Option.{Option, none, some}
use mathlib.Core.List.{List, [], ◌∷◌, map, map-map}
use Rattle.base_answers.specs.declared.State as declared
use Rattle.spec_design.specs.Process.{Process, WellFormed}
use Rattle.spec_semantics.specs.Effects.{Step, ends, stops}
use Rattle.spec_semantics.specs.Published.{ι, ω, φ}
use Rattle.spec_semantics.specs.Waits.{Waits}
use Rattle.spec_semantics.specs.Denotation.{exactly, tracing, process}
use Rattle.spec_semantics.specs.Automaton.{states_over, assigned_rows}
use Rattle.spec_semantics.specs.Rows.{Kept, kept_at_first, row_refusal, Outcome, performed, row_refused, operator_refused, output_row, row, rows_from, rows}
use Rattle.spec_semantics.specs.Rows as R
use Rattle.spec_semantics.specs.PublishedRows.{State, initial_state, state_of, kept_of, concluded_published, judged_published, published_from, published_rows}
use Rattle.spec_semantics.specs.Calls.{Answer, Call}
use Rattle.spec_semantics.specs.Comparison.{fed, laid, told, left, seen, equation_calls}
use Rattle.spec_semantics.specs.PrintedRows.{printed_from, printed_rows, of_performed, row_answers, row_left, row_kept, call_answers, call_left, call_kept}
use Rattle.spec_semantics.specs.PrintedRows.{RowsPrinted, CallsPrinted}
use Rattle.spec_semantics.proofs.Exact.{cycle_exact}
use Rattle.spec_semantics.proofs.PublishedRows.{rows_published}

-- the outcomes rs of the calls cs, beside the printed equations from the state k: what is shown of the rows that are performed is shown of what is kept
abbrev Beside : (p : Process) {X : Type 0} → (Outcome × Kept → X) → (Kept → X) → State p.body → List R.Call → List (Outcome × Kept) → Type 0
Beside p show out k cs rs =
    of_performed (row_answers rs) (map show rs) ≡ map out (printed_from p.body k (of_performed (row_answers rs) (map (λ (c : R.Call). c.inputs) cs)))

-- whatever is shown of a performed row that its outputs and what is kept determine
module _ (p : Process) {X : Type 0} (show : Outcome × Kept → X) (out : Kept → X)
    (same : (k : Kept) (way : List ℕ) → show (performed k.memory.outputs way, k) ≡ out k) where
  -- one call, where the claim holds of the calls behind it
  module _ (k : State p.body) (c : R.Call) (cs : List R.Call) (later : (k : State p.body) → Beside p show out k cs (published_from p k cs)) where
    after : Outcome × State p.body → List (Outcome × Kept)
    after r = (r.0, kept_of p.body r.1) ∷ published_from p r.1 cs

    on_cycle : (v : Step (ω × φ × Option (Waits p.body))) → process tracing p.body c.inputs k.outputs k.variables k.control [] ≡ v
        → Beside p show out k (c ∷ cs) (after (concluded_published p.body v k))
    unfolding after concluded_published printed_from states_over of_performed
    on_cycle (ends r w) e =
        rw (← cycle_exact p.body _ _ _ _ [] w r e) (ap₂ ◌∷◌ (same (kept_of p.body (state_of p.body r)) w) (later (state_of p.body r)))
    on_cycle (stops q n) e = later k

    on_row : (o : Option ℕ) → Beside p show out k (c ∷ cs) (after (judged_published o p k c))
    unfolding after judged_published of_performed
    on_row none = on_cycle _ refl
    on_row (some x) = later k

  from_printed : (k : State p.body) (cs : List R.Call) → Beside p show out k cs (published_from p k cs)
  unfolding published_from printed_from states_over of_performed after
  from_printed k [] = refl
  from_printed k (c ∷ cs) = on_row k c cs (λ k. from_printed k cs) (row_refusal p c)

-- Rows, by the equations: the published ones keep the same.
pub rows_printed : (p : Process) → WellFormed p → (cs : List R.Call) → RowsPrinted p cs (rows p cs)
unfolding published_rows printed_rows output_row
rows_printed p g cs = subst (RowsPrinted p cs) (rows_published p g cs) (from_printed p row_left row_kept (λ k way. refl) (initial_state p) cs)

-- The outputs among them are the output states of document 000's automaton.
pub printed_outputs : (p : Process) (l : List ι) → map (λ (k : Kept). k.memory.outputs) (printed_rows p l)
    ≡ assigned_rows (process exactly p.body) (initial_state p).outputs (initial_state p).variables (initial_state p).control l
unfolding printed_rows printed_from assigned_rows
printed_outputs p l =
    map-map (λ (k : Kept). k.memory.outputs) (λ (r : ω × φ × Option (Waits p.body)). kept_of p.body (state_of p.body r))
    (states_over (process exactly p.body) (initial_state p).outputs (initial_state p).variables (initial_state p).control l)

-- Calls. What a call leaves, by its row: the output row and the layout of what is kept; of a refused row, any
abbrev row_called : Outcome × Kept → ω × declared.State
row_called r = (left r.0 [], laid r.1)

module _ (p : Process) where
  calls_answers : (k : Kept) (cs : List Call) → call_answers (equation_calls p k cs) ≡ row_answers (rows_from p k (map fed cs))
  unfolding equation_calls rows_from
  calls_answers k [] = refl
  calls_answers k (c ∷ cs) = ap (λ (l : List Answer). told (row p k (fed c)).0 ∷ l) (calls_answers (row p k (fed c)).1 cs)

  calls_left : (k : Kept) (cs : List Call) → of_performed (call_answers (equation_calls p k cs)) (map call_left (equation_calls p k cs))
      ≡ of_performed (row_answers (rows_from p k (map fed cs))) (map row_called (rows_from p k (map fed cs)))
  unfolding equation_calls rows_from of_performed
  calls_left k [] = refl
  calls_left k (c ∷ cs) = go (row p k (fed c)).0 (row p k (fed c)).1 (calls_left (row p k (fed c)).1 cs)
    where
      go : (o : Outcome) (m : Kept) → of_performed (call_answers (equation_calls p m cs)) (map call_left (equation_calls p m cs))
          ≡ of_performed (row_answers (rows_from p m (map fed cs))) (map row_called (rows_from p m (map fed cs)))
          → of_performed (call_answers (seen (o, m) c ∷ equation_calls p m cs)) (map call_left (seen (o, m) c ∷ equation_calls p m cs))
          ≡ of_performed (row_answers ((o, m) ∷ rows_from p m (map fed cs))) (map row_called ((o, m) ∷ rows_from p m (map fed cs)))
      go (performed row way) m e = ap (λ (l : List (ω × declared.State)). (row, laid m) ∷ l) e
      go (row_refused x) m e = e
      go (operator_refused q n) m e = e

  pub calls_printed : WellFormed p → (cs : List Call) → CallsPrinted p cs (equation_calls p (kept_at_first p) cs)
  unfolding printed_rows published_rows rows
  calls_printed g cs =
      calls_left (kept_at_first p) cs
      ∙ subst (Beside p row_called call_kept (initial_state p) (map fed cs)) (rows_published p g (map fed cs))
      (from_printed p row_called call_kept (λ k way. refl) (initial_state p) (map fed cs))
      ∙ ap₂ (λ (a : List Answer) (l : List ι). map call_kept (printed_rows p (of_performed a l))) (sym (calls_answers (kept_at_first p) cs))
      (map-map (λ (c : R.Call). c.inputs) fed cs)
