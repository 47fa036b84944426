-- Every place and every count that is answered is small: a place of 1 to 9 is that of a token of the text or the text's length; the bytes of an image are at
-- most 65,535; those of calls on an image, and so of the direct run, are at most 512 (spec_simulation/proofs/Places.antt). Assumes nothing.
use mathlib.Core.Path.{◌≡◌, refl, sym, ◌∙◌, ap, subst}
use mathlib.Core.List.{List}
use Prim.Native.Nat.{ℕ, ◌≤◌}
use native.Mathlib.Omega.{arith}
use lib.ListN.{length}
use Rattle.base_answers.specs.declared.State.{State}
use Rattle.spec_design.specs.Process.{Process}
use Rattle.spec_language.specs.Validity.{Valid, Refuses, too_long, token_missing, no_sentence, past_limit, offends}
use Rattle.spec_language.specs.Verdict.{Verdict, accepted, refused, verdict}
use Rattle.spec_language.proofs.Judged as J
use Rattle.spec_language.proofs.WellFormed.{valid_well_formed}
use Rattle.spec_semantics.specs.Records.{not_started}
use Rattle.spec_semantics.specs.Calls.{performed, not_performed, Call}
use Rattle.spec_format.specs.Words.{Bytes}
use Rattle.spec_format.specs.Good.{GoodTable}
use Rattle.spec_format.specs.State.{fresh_of}
use Rattle.spec_format.specs.Encode.{table_of}
use Rattle.spec_simulation.specs.Outcome.{Outcome}
use Rattle.spec_simulation.proofs.Outcomes.{row_outcome}
use Rattle.spec_simulation.proofs.Processes.{process_good}
use Rattle.spec_simulation.proofs.Places.{image_place, outcome_place, outcome_count, open_place, cycle_place, cycle_count}
use Rattle.spec_behaviour.specs.Direct.{unless_refused, direct_of, direct_fresh}
use Rattle.spec_interface.specs.Compile.{written, not_compiled, compile_of}
use Rattle.spec_promises.specs.Promises as P
use Rattle.spec_promises.specs.Places.{PlacesFit}
use Rattle.spec_grammar.proofs.TokensOf.{tokens_of}
use Rattle.spec_promises.proofs.LexedPlaces.{By, lexed_places, stopped_place, token_place}
use Rattle.spec_promises.proofs.OffencePlaces.{offence_place}
use Rattle.spec_promises.proofs.Size.{valid_fits}
use Rattle.spec_promises.proofs.Direct.{row_direct}
use Rattle.spec_promises.proofs.Demand1 as D1
use Rattle.spec_promises.proofs.Main.{compiled}

-- 1 TO 9: a byte offset of the text
refuses_offset : (text : List ℕ) (q k : ℕ) → Refuses text q k → k ≤ length text
refuses_offset text q k (too_long h) = omega arith
refuses_offset text q k (token_missing h s) = stopped_place s
refuses_offset text q k (no_sentence {k = j} ts h l e) = token_place (length text) ts j (lexed_places l)
refuses_offset text q k (past_limit {k = j} ts h l e) = token_place (length text) ts j (lexed_places l)
refuses_offset text q k (offends {t} p f) = offence_place (length text) t q k (tokens_of (By (length text)) p.reads (lexed_places p.lexes)) f

-- and the text is short, or the refusal is 1
short : (text : List ℕ) (k : ℕ) → length text ≤ 16384 → k ≤ length text → k ≤ 16384
short text k h l = omega arith

pub refuses_place : (text : List ℕ) (q k : ℕ) → Refuses text q k → k ≤ 16384
refuses_place text q k (too_long h) = omega arith
refuses_place text q k (token_missing h s) = short text k h (refuses_offset text q k (token_missing h s))
refuses_place text q k (no_sentence ts h l e) = short text k h (refuses_offset text q k (no_sentence ts h l e))
refuses_place text q k (past_limit ts h l e) = short text k h (refuses_offset text q k (past_limit ts h l e))
refuses_place text q k (offends p f) = short text k p.short (refuses_offset text q k (offends p f))

-- COMPILE: besides, the bytes of an image
module _ (text buffer : List ℕ) where
  refused_place : (q k : ℕ) → P.CompileRefused text buffer q k → k ≤ 65535
  refused_place q k (P.CompileRefused.by_text r) = let h = refuses_place text q k r in omega arith
  refused_place q k (P.CompileRefused.by_buffer d v l e f) = let h = valid_fits text d v in omega arith

  pub compile_place : (q k : ℕ) → (compile_of text buffer).answer ≡ not_compiled q k → k ≤ 65535
  compile_place q k e = refused_place q k ((D1.compile_refused text buffer q k).0 e)

  pub compile_count : (n : ℕ) → (compile_of text buffer).answer ≡ written n → n ≤ 65535
  compile_count n e = (compiled text buffer n e).size

-- IMAGES: 11 to 13 are at most the line count; all else is in spec_simulation/proofs/Places.antt
pub fresh_place : (image : List ℕ) → Bytes image → (q k : ℕ) → fresh_of image ≡ not_started q k → k ≤ 512
fresh_place image h q k e = image_place image q k ((D1.fresh_refused image h q k).0 e)

-- TEXTS: the direct run of an accepted text is the row on its table
module _ (text : List ℕ) (s : State) (c : Call) where
  direct_good : (d : Process) → Valid text d → GoodTable (table_of d)
  direct_good d v = process_good d (valid_well_formed v) (valid_fits text d v)

  direct_outcome : (d : Process) → Valid text d → Outcome (table_of d) s c.inputs c.outputs (direct_of text s c)
  unfolding direct_of
  direct_outcome d v =
      subst (Outcome (table_of d) s c.inputs c.outputs)
      (row_direct d (valid_well_formed v) s c ∙ sym (ap (λ (x : Verdict). unless_refused x s c) ((J.accepts text d).1 v)))
      (row_outcome (table_of d) (direct_good d v) s c.inputs c.outputs)

  direct_refused : (n x : ℕ) → verdict text ≡ refused n x → (direct_of text s c).answer ≡ not_performed n x
  unfolding direct_of
  direct_refused n x e = ap (λ (v : Verdict). (unless_refused v s c).answer) e

  pub direct_place : (q k : ℕ) → (direct_of text s c).answer ≡ not_performed q k → k ≤ 16384
  direct_place q k e = on (verdict text) refl
    where
      on : (v : Verdict) → verdict text ≡ v → k ≤ 16384
      on (accepted d) f =
          let v = (J.accepts text d).0 f in
          let h = outcome_place (table_of d) (direct_good d v) s c.inputs c.outputs (direct_of text s c) (direct_outcome d v) q k e in
          omega arith
      on (refused n x) f =
          let h = refuses_place text n x ((J.refuses text n x).0 f) in
          let z : not_performed n x ≡ not_performed q k = sym (direct_refused n x f) ∙ e in
          let y : x ≡ k = cc in
          omega arith

  pub direct_count : (way : List ℕ) → (direct_of text s c).answer ≡ performed way → length way ≤ 512
  direct_count way e = on (verdict text) refl
    where
      on : (v : Verdict) → verdict text ≡ v → length way ≤ 512
      on (accepted d) f =
          let v = (J.accepts text d).0 f in
          outcome_count (table_of d) (direct_good d v) s c.inputs c.outputs (direct_of text s c) (direct_outcome d v) way e
      on (refused n x) f =
          let z : not_performed n x ≡ performed way = sym (direct_refused n x f) ∙ e in
          absurd (let y : ◌≡◌ {A = ℕ} 0 1 = cc in omega arith)

pub direct_fresh_place : (text : List ℕ) (q k : ℕ) → direct_fresh text ≡ not_started q k → k ≤ 16384
direct_fresh_place text q k e = refuses_place text q k ((D1.direct_fresh_refused text q k).0 e)

-- THE THEOREM
pub places_fit : (text buffer image : List ℕ) → Bytes image → (s : State) (c : Call) → PlacesFit text buffer image s c
places_fit text buffer image h s c =
    record {
      text_offset = λ q k e. refuses_offset text q k ((J.refuses text q k).0 e);
      text_place = λ q k e. refuses_place text q k ((J.refuses text q k).0 e);
      compile_place = compile_place text buffer;
      compile_count = compile_count text buffer;
      open_place = open_place image h;
      fresh_place = fresh_place image h;
      cycle_place = cycle_place image h s c.inputs c.outputs;
      cycle_count = cycle_count image h s c.inputs c.outputs;
      direct_place = direct_place text s c;
      direct_count = direct_count text s c;
      direct_fresh_place = direct_fresh_place text;
    }
