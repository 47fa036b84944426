-- What each call comes to (demand 1): by cases on the verdict, on the opened image and on the direct row. Assumes nothing.
use mathlib.Core.Path.{◌≡◌, refl, sym, ◌∙◌, subst}
use mathlib.Core.Bool.{Bool, true, false}
use mathlib.Core.Option.{Option, none, some}
use mathlib.Core.List.{List}
use Prim.Native.Nat.{ℕ, ◌≤◌}
use native.Mathlib.Omega.{arith}
use Rattle.base_answers.specs.declared.State.{State}
use Rattle.spec_design.specs.Process.{Process, WellFormed}
use Rattle.spec_language.specs.Validity.{Valid}
use Rattle.spec_language.specs.Verdict.{Verdict, accepted, refused, verdict}
use Rattle.spec_language.proofs.Judged as J
use Rattle.spec_language.proofs.Numbers.{refuses_of_text}
use Rattle.spec_language.proofs.WellFormed.{valid_well_formed}
use Rattle.spec_semantics.specs.Rows.{row_refusal, row}
use Rattle.spec_semantics.specs.InputRow.{Meets14}
use Rattle.spec_semantics.specs.Calls.{Call}
use Rattle.spec_semantics.specs.Comparison.{fed, seen}
use Rattle.spec_semantics.specs.DirectRow.{fits_text, direct_row, Described}
use Rattle.spec_semantics.proofs.Basic.{none_some, false_true}
use Rattle.spec_semantics.proofs.Rows.{meets_14_exactly, row_answers_lem}
use Rattle.spec_semantics.proofs.DirectRows.{direct_row_lem}
use Rattle.spec_semantics.proofs.Described.{fits_exactly, direct_15}
use Rattle.spec_format.specs.Words.{Bytes}
use Rattle.spec_format.specs.Opening.{Opened, opened, not_opened, open_of}
use Rattle.spec_format.specs.Refusals.{Refusal, sections_refused, signature_refused, line_refused}
use Rattle.spec_format.specs.State.{fresh_from, fresh_of}
use Rattle.spec_format.specs.Cycle.{cycle_of}
use Rattle.spec_format.specs.Encode.{encode}
use Rattle.spec_format.specs.Writing.{written_into}
use Rattle.spec_format.proofs.Writing.{written_cases}
use Rattle.spec_format.proofs.Opens.{opens_exactly}
use Rattle.spec_format.proofs.Refusals.{refused_exactly}
use Rattle.spec_simulation.proofs.Outcomes.{image_outcome}
use Rattle.spec_behaviour.specs.Direct.{unless_refused, direct_of, fresh_text, direct_fresh}
use Rattle.spec_interface.specs.Compile.{on_verdict, compile_of}
use Rattle.spec_promises.specs.Promises.{Compiles, writes, too_short, Opens, opens, Starts, Runs, runs, RunsText, by_14, by_15, answers, StartsText}
use Rattle.spec_promises.specs.Promises as D

-- a compile
module _ (text buffer : List ℕ) where
  written_compiles : (d : Process) → Valid text d → Compiles text buffer (written_into (encode d) buffer)
  written_compiles d v = written_cases (encode d) buffer (Compiles text buffer) (writes d v) (too_short d v)

  pub compiles : Compiles text buffer (compile_of text buffer)
  unfolding compile_of
  compiles = on (verdict text) refl
    where
      on : (v : Verdict) → verdict text ≡ v → Compiles text buffer (on_verdict v buffer)
      on (accepted d) e = written_compiles d ((J.accepts text d).0 e)
      on (refused n k) e = let c = (J.refuses text n k).0 e in D.refuses n k (refuses_of_text text n k c) c

-- an image
module _ (image : List ℕ) (h : Bytes image) where
  numbers : (q k : ℕ) → Refusal image q k → (11 ≤ q) × (q ≤ 13)
  numbers q k (sections_refused n p x) = (omega arith, omega arith)
  numbers q k (signature_refused n p x s x') = (omega arith, omega arith)
  numbers q k (line_refused n x s σ g l) = (omega arith, omega arith)

  pub image_opens : Opens image (open_of image)
  image_opens = on (open_of image) refl
    where
      on : (o : Opened) → open_of image ≡ o → Opens image o
      on (opened t) e = let g = (opens_exactly image t h).0 e in opens t g.0 g.1
      on (not_opened q k) e = let c = (refused_exactly image h q k).0 e in let r = numbers q k c in D.refuses q k r.0 r.1 c

  pub image_starts : Starts image (fresh_of image)
  unfolding fresh_of
  image_starts = on (open_of image) refl
    where
      on : (o : Opened) → open_of image ≡ o → Starts image (fresh_from o)
      on (opened t) e = D.starts t e
      on (not_opened q k) e = let c = (refused_exactly image h q k).0 e in let r = numbers q k c in D.refuses q k r.0 r.1 c

  pub image_runs : (s : State) (c : Call) → Runs image s c (cycle_of image s c.inputs c.outputs)
  unfolding cycle_of
  image_runs s c = on (open_of image) refl
    where
      on : (o : Opened) → open_of image ≡ o → Runs image s c (cycle_of image s c.inputs c.outputs)
      on (opened t) e = runs t e _ (image_outcome image t h e s c.inputs c.outputs)
      on (not_opened q k) e = let x = (refused_exactly image h q k).0 e in let r = numbers q k x in rw e (D.refuses q k r.0 r.1 x)

-- a text
module _ (text : List ℕ) (s : State) (c : Call) where
  not_14 : (d : Process) → row_refusal d (fed c) ≡ none → (k : ℕ) → Meets14 d (fed c) k → ⊥
  not_14 d e k m = none_some k (sym e ∙ (meets_14_exactly d (fed c) k).1 m)

  -- a state that is described: the row of the equations from what is kept
  described_runs : (d : Process) → Valid text d → WellFormed d → row_refusal d (fed c) ≡ none → (g : Described d s) → RunsText text s c (direct_row d s c)
  described_runs d v w e g =
      let x : direct_row d s c ≡ seen (row d g.kept (fed c)) c =
      subst (λ (z : State). direct_row d z c ≡ seen (row d g.kept (fed c)) c) g.layout (direct_row_lem d w g.kept g.invariant c) in
      subst (RunsText text s c) (sym x) (answers d v (not_14 d e) g (row d g.kept (fed c)) (row_answers_lem d w g.kept (fed c)))

  process_runs : (d : Process) → Valid text d → WellFormed d → RunsText text s c (direct_row d s c)
  unfolding direct_row
  process_runs d v w = judge (row_refusal d (fed c)) refl
    where
      state : row_refusal d (fed c) ≡ none → (b : Bool) → fits_text d s ≡ b → RunsText text s c (direct_row d s c)
      state e true f = described_runs d v w e ((fits_exactly d w s).0 f)
      state e false f =
          let n : Described d s → ⊥ = λ g. false_true (sym f ∙ (fits_exactly d w s).1 g) in
          subst (RunsText text s c) (sym (direct_15 d w s c e n)) (by_15 d v (not_14 d e) n)

      judge : (o : Option ℕ) → row_refusal d (fed c) ≡ o → RunsText text s c (direct_row d s c)
      judge (some k) e = rw e (by_14 d v k ((meets_14_exactly d (fed c) k).0 e))
      judge none e = state e (fits_text d s) refl

  pub text_runs : RunsText text s c (direct_of text s c)
  unfolding direct_of
  text_runs = on (verdict text) refl
    where
      on : (v : Verdict) → verdict text ≡ v → RunsText text s c (unless_refused v s c)
      on (accepted d) e = let v = (J.accepts text d).0 e in process_runs d v (valid_well_formed v)
      on (refused n k) e = let x = (J.refuses text n k).0 e in D.refuses n k (refuses_of_text text n k x) x

pub text_starts : (text : List ℕ) → StartsText text (direct_fresh text)
unfolding direct_fresh
text_starts text = on (verdict text) refl
  where
    on : (v : Verdict) → verdict text ≡ v → StartsText text (fresh_text v)
    on (accepted d) e = D.starts d ((J.accepts text d).0 e)
    on (refused n k) e = let x = (J.refuses text n k).0 e in D.refuses n k (refuses_of_text text n k x) x
