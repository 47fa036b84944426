-- The direct run of an accepted text is that of its process (`direct_rows`), whose calls are those of the equations, the published ones. Assumes nothing.
use mathlib.Core.Path.{◌≡◌, refl, sym, ◌∙◌, ap, subst}
use mathlib.Core.List.{List, [], ◌∷◌, map}
use Prim.Native.Nat.{ℕ}
use Rattle.base_answers.specs.declared.State.{State}
use Rattle.spec_design.specs.Process.{Process, WellFormed}
use Rattle.spec_language.specs.Validity.{Valid}
use Rattle.spec_language.specs.Verdict.{Verdict, accepted, verdict}
use Rattle.spec_language.proofs.Judged.{accepts}
use Rattle.spec_language.proofs.WellFormed.{valid_well_formed}
use Rattle.spec_semantics.specs.Rows.{Kept, Outcome, rows, kept_at_first}
use Rattle.spec_semantics.specs.Records.{fresh}
use Rattle.spec_semantics.specs.Calls.{Call, Called}
use Rattle.spec_semantics.specs.Comparison.{fed, laid, seen_all, equation_calls}
use Rattle.spec_semantics.specs.DirectRow.{direct_row, direct_rows}
use Rattle.spec_semantics.specs.PublishedRows.{published_rows}
use Rattle.spec_semantics.specs.PrintedRows.{CallsPrinted}
use Rattle.spec_semantics.proofs.Rows.{first_invariant}
use Rattle.spec_semantics.proofs.PublishedRows.{rows_published}
use Rattle.spec_semantics.proofs.PrintedRows.{calls_printed}
use Rattle.spec_semantics.proofs.DirectRows.{direct_rows_lem, calls_seen}
use Rattle.spec_behaviour.specs.Direct.{unless_refused, direct_of, fresh_text, direct_fresh, direct_calls}
use Rattle.spec_behaviour.specs.DirectRun.{DirectRun}

module _ (text : List ℕ) (d : Process) (e : verdict text ≡ accepted d) where
  one : (s : State) (c : Call) → direct_of text s c ≡ direct_row d s c
  unfolding direct_of
  one s c = ap (λ (x : Verdict). unless_refused x s c) e

  -- the calls on the text are the calls on its process
  calls : (s : State) (cs : List Call) → direct_calls text s cs ≡ direct_rows d s cs
  unfolding direct_calls direct_rows
  calls s [] = refl
  calls s (c ∷ cs) = rw (one s c) (ap (λ (l : List Called). direct_row d s c ∷ l) (calls (direct_row d s c).state cs))

  start : direct_fresh text ≡ fresh (laid (kept_at_first d))
  unfolding direct_fresh
  start = ap fresh_text e

  as_equations : WellFormed d → (cs : List Call) → direct_calls text (laid (kept_at_first d)) cs ≡ equation_calls d (kept_at_first d) cs
  as_equations w cs = calls (laid (kept_at_first d)) cs ∙ direct_rows_lem d w (kept_at_first d) (first_invariant d w) cs

  as_published : WellFormed d → (cs : List Call) → direct_calls text (laid (kept_at_first d)) cs ≡ seen_all (published_rows d (map fed cs)) cs
  unfolding rows
  as_published w cs = as_equations w cs ∙ (calls_seen d (kept_at_first d) cs
      ∙ ap (λ (l : List (Outcome × Kept)). seen_all l cs) (sym (rows_published d w (map fed cs))))

  as_printed : WellFormed d → (cs : List Call) → CallsPrinted d cs (direct_calls text (laid (kept_at_first d)) cs)
  as_printed w cs = subst (CallsPrinted d cs) (sym (as_equations w cs)) (calls_printed d w cs)

pub direct_run : (text : List ℕ) (d : Process) → Valid text d → DirectRun text d
direct_run text d v =
    let e = (accepts text d).1 v in
    let w = valid_well_formed v in
    record { starts = start text d e; equations = as_equations text d e w; published = as_published text d e w; printed = as_printed text d e w }
