-- Composed over rows, the published equations give the rows of document 01's reading: cycle by cycle, by induction on the calls. Assumes nothing.
use Prim.Native.Nat.{ℕ}
use mathlib.Core.Path.{◌≡◌, refl, sym, ap, ◌∙◌}
use mathlib.Core.Option.{Option, none, some}
use mathlib.Core.List.{List, [], ◌∷◌}
use Rattle.spec_design.specs.Statement.{Stmt}
use Rattle.spec_design.specs.Process.{Process, WellFormed}
use Rattle.spec_semantics.specs.Effects.{Step, ends, stops}
use Rattle.spec_semantics.specs.Published.{ω, φ}
use Rattle.spec_semantics.specs.Waits.{Waits, number_of}
use Rattle.spec_semantics.specs.Denotation.{tracing, process}
use Rattle.spec_semantics.specs.Rows.{Call, Kept, kept_at_first, row_refusal, Outcome, concluded, judged, row, rows_from, rows}
use Rattle.spec_semantics.specs.Correspondence.{run, to_b}
use Rattle.spec_semantics.specs.PublishedRows.{State, kept_of, concluded_published, judged_published, published_from, published_rows}
use Rattle.spec_semantics.proofs.Agreement.{same_cycle}

abbrev shown : (s : Stmt) → Outcome × State s → Outcome × Kept
shown s r = (r.0, kept_of s r.1)

-- a cycle's outcome, read either way
concluded_same : (s : Stmt) (v : Step (ω × φ × Option (Waits s))) (k : State s)
    → shown s (concluded_published s v k) ≡ concluded (to_b (number_of s 0) v) (kept_of s k)
unfolding concluded_published concluded
concluded_same s (ends r w) k = go r.2
  where
    go : (o : Option (Waits s)) → shown s (concluded_published s (ends (r.0, r.1, o) w) k) ≡ concluded (to_b (number_of s 0) (ends (r.0, r.1, o) w))
        (kept_of s k)
    go none = refl
    go (some v) = refl
concluded_same s (stops q n) k = refl

module _ (p : Process) (g : WellFormed p) where
  row_same : (k : State p.body) (c : Call) → shown p.body (judged_published (row_refusal p c) p k c) ≡ row p (kept_of p.body k) c
  unfolding row judged judged_published
  row_same k c = go (row_refusal p c)
    where
      go : (o : Option ℕ) → shown p.body (judged_published o p k c) ≡ judged o p (kept_of p.body k) c
      go none =
          concluded_same p.body (process tracing p.body c.inputs k.outputs k.variables k.control []) k
          ∙ ap (λ r. concluded r (kept_of p.body k)) (sym (same_cycle p.body g.loops g.class k.control c.inputs
          (run [] k.outputs k.variables)))
      go (some x) = refl

  from_same : (k : State p.body) (cs : List Call) → published_from p k cs ≡ rows_from p (kept_of p.body k) cs
  unfolding published_from rows_from
  from_same k [] = refl
  from_same k (c ∷ cs) =
      let r = judged_published (row_refusal p c) p k c in
      let e = row_same k c in
      ap (λ rest. shown p.body r ∷ rest) (from_same r.1 cs) ∙ ap (λ (z : Outcome × Kept). z ∷ rows_from p z.1 cs) e

  -- The published equations composed over any calls give the same outcomes, refusals and ways included, and keep the same.
  pub rows_published : (cs : List Call) → published_rows p cs ≡ rows p cs
  unfolding published_rows rows kept_at_first
  rows_published cs = from_same _ cs
