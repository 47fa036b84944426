-- What the program prints is the trace, for every text and all rows, if the image's buffer has 65,535 bytes and the buffer for lines at least 512; and what
-- a fill puts for the image that a compile wrote stands in the buffer whole. Assumes nothing.
use mathlib.Core.Path.{◌≡◌, refl, sym, ◌∙◌, ap, subst}
use mathlib.Core.Bool.{Bool, true, false, cond}
use Rattle.std.specs.Prelude.{Option, None, Some}
use mathlib.Core.List.{List, ◌++◌}
use Prim.Native.Nat.{ℕ, ◌≤◌}
use native.Mathlib.Omega.{arith}
use lib.ListN.{length, take}
use lib.Seq.{sets}
use lib.Dec.{leb}
use borrow.Author.Tests.{leb-true, leb-false}
use Rattle.base_answers.specs.Answers.{count_of}
use Rattle.spec_design.specs.Process.{Process}
use Rattle.spec_language.specs.Verdict.{Verdict, accepted, refused, verdict}
use Rattle.spec_language.proofs.Judged.{accepts}
use Rattle.spec_format.specs.Words.{Bytes}
use Rattle.spec_format.specs.Encode.{encode}
use Rattle.spec_format.specs.Writing.{Writing}
use Rattle.spec_format.proofs.Writing.{fits_written}
use Rattle.spec_interface.specs.Compile.{written, on_verdict, compile_of}
use Rattle.spec_promises.proofs.Size.{valid_fits}
use Rattle.image_compiler.proofs.Written.{accepted_fits, written_opens}
use Rattle.trace_header.specs.Header.{header_of, header_for}
use Rattle.trace_lines.specs.Printing.{refused_text}
use Rattle.trace_lines.specs.Trace.{trace_of}
use Rattle.trace_lines.specs.Chunks.{first_of, fill_of, fills}
use Rattle.trace_lines.specs.declared.Progress.{Progress}
use Rattle.trace_lines.specs.Program.{printed_by, printed_of}
use Rattle.trace_lines.proofs.Storing.{take_sets}
use Rattle.trace_lines.proofs.FillLaws.{fill_fits}
use Rattle.trace_lines.proofs.Lines.{fills_pending}
use Rattle.trace_lines.proofs.Whole.{trace_image, trace_too_long}
use Rattle.trace_lines.proofs.Refused.{only_refused}

-- an accepted text's image fits
written_whole : (text b : List ℕ) (p : Process) → verdict text ≡ accepted p → 65535 ≤ length b → (compile_of text b).answer ≡ written (length (encode p))
unfolding compile_of
written_whole text b p v h =
    let f = valid_fits text p ((accepts text p).0 v) in
    ap (λ (x : Verdict). (on_verdict x b).answer) v ∙ ap (λ (w : Writing). w.answer) (fits_written (encode p) b (omega arith))

accepted_prints : (text rows b : List ℕ) (free : ℕ) (p : Process) → verdict text ≡ accepted p → 65535 ≤ length b → 512 ≤ free
    → printed_of text rows b free ≡ trace_of text rows
unfolding printed_of header_for
accepted_prints text rows b free p v h r = rw e (go (leb (length rows) 65536) refl)
  where
    e : (compile_of text b).answer ≡ written (length (encode p))
    e = written_whole text b p v h

    go : (q : Bool) → leb (length rows) 65536 ≡ q
        → printed_by (cond q None (Some (refused_text 14 0))) (header_for (verdict text))
        (take (length (encode p)) (compile_of text b).buffer) rows free ≡ trace_of text rows
    go true k =
        let l = leb-true (length rows) 65536 k in
        let i = take (length (encode p)) (compile_of text b).buffer in
        let o = written_opens text b (length (encode p)) e in
        let c = fills_pending i rows _ free o.opens l r 65537 (first_of i) (omega arith) (omega arith) (omega arith) in
        ap (λ (x : Verdict). header_for x ++ fills 65537 i rows (first_of i) free) v
        ∙ (ap (λ (z : List ℕ). header_of p ++ z) c ∙ sym (trace_image text rows b (length (encode p)) p v l e))
    go false k = sym (trace_too_long text rows p v (leb-false (length rows) 65536 k))

-- THE THEOREM
pub program_prints : (text rows b : List ℕ) (free : ℕ) → 65535 ≤ length b → 512 ≤ free → printed_of text rows b free ≡ trace_of text rows
unfolding printed_of
program_prints text rows b free h r = on (verdict text) refl
  where
    on : (v : Verdict) → verdict text ≡ v → printed_of text rows b free ≡ trace_of text rows
    on (accepted p) e = accepted_prints text rows b free p e h r
    on (refused n k) e =
        ap (λ (o : Option (List ℕ)). printed_by o (header_for (verdict text)) (take (count_of (compile_of text b).answer) (compile_of text b).buffer) rows free)
        (only_refused text rows b n k e)

-- the first bytes of a buffer after a fill, as many as the fill answers, are what it put
pub fill_stands : (text b : List ℕ) (n : ℕ) → (compile_of text b).answer ≡ written n → (rows : List ℕ) (p : Progress) (o : List ℕ)
    → let x = fill_of (take n (compile_of text b).buffer) rows p (length o) in take (length x.0) (sets o 0 x.0) ≡ x.0
fill_stands text b n e rows p o =
    let w = written_opens text b n e in
    let h : Bytes (take n (compile_of text b).buffer) = subst Bytes (sym w.is) (accepted_fits text w.process w.accepts).bytes in
    take_sets o (fill_of (take n (compile_of text b).buffer) rows p (length o)).0 (fill_fits (take n (compile_of text b).buffer) rows h p (length o))
