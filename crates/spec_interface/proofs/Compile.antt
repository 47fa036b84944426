-- What a compile writes, by cases on the verdict and on the buffer's length. Assumes nothing.
use mathlib.Core.Path.{◌≡◌, refl, sym, ◌∙◌, ap}
use mathlib.Core.List.{List}
use Prim.Native.Nat.{ℕ}
use lib.ListN.{take}
use Rattle.base_answers.proofs.Told.{done_refused}
use Rattle.spec_language.specs.Verdict.{Verdict, accepted, refused, verdict}
use Rattle.spec_format.specs.Encode.{encode}
use Rattle.spec_format.specs.Writing.{Writing}
use Rattle.spec_format.proofs.Writing.{fits_written, short_written, written_cases, wrote_into}
use Rattle.spec_interface.specs.Compile.{written, not_compiled, on_verdict, compile_of}
use Rattle.spec_interface.specs.Laws.{CompileWrites, Wrote}

pub compile_writes : (text buffer : List ℕ) → CompileWrites text buffer
unfolding compile_of
compile_writes text buffer =
    let by : Verdict → Writing = λ v. on_verdict v buffer in
    record {
      fits = λ d e h. ap by e ∙ fits_written (encode d) buffer h;
      too_short = λ d e h. ap by e ∙ short_written (encode d) buffer h;
      when_turned_back = λ q k e. ap by e;
    }

-- a compile that is refused leaves the buffer
pub buffer_kept : (text buffer : List ℕ) (q k : ℕ) → (compile_of text buffer).answer ≡ not_compiled q k → (compile_of text buffer).buffer ≡ buffer
unfolding compile_of
buffer_kept text buffer q k = on (verdict text)
  where
    on : (v : Verdict) → (on_verdict v buffer).answer ≡ not_compiled q k → (on_verdict v buffer).buffer ≡ buffer
    on (accepted d) e =
        written_cases (encode d) buffer (λ (w : Writing). w.answer ≡ not_compiled q k → w.buffer ≡ buffer) (λ h. done_refused)
        (λ h f. refl) e
    on (refused n x) e = refl

-- what a compile that wrote n bytes wrote
pub wrote : (text buffer : List ℕ) (n : ℕ) → (compile_of text buffer).answer ≡ written n → Wrote text buffer n
unfolding compile_of
wrote text buffer n e = on (verdict text) refl
  where
    on : (v : Verdict) → verdict text ≡ v → Wrote text buffer n
    on (refused q k) h = done_refused (sym e ∙ ap (λ (v : Verdict). (on_verdict v buffer).answer) h)
    on (accepted p) h =
        let w = wrote_into (encode p) buffer n (sym (ap (λ (v : Verdict). (on_verdict v buffer).answer) h) ∙ e) in
        record { process = p; verdict = h; count = w.0; image = ap (λ (v : Verdict). take n (on_verdict v buffer).buffer) h ∙ w.1 }
