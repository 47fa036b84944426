-- What a compile writes fits, opens, and starts as the text's design does: `Fits` for every accepted text, `OpensAs` for every compile that wrote.
-- Assumes nothing.
use mathlib.Core.Path.{◌≡◌, sym, ◌∙◌, ap, subst}
use mathlib.Core.Bool.{true}
use mathlib.Core.List.{List, [], ◌∷◌}
use Prim.Native.Nat.{ℕ, ◌+◌, ◌<◌, ◌≤◌}
use native.Mathlib.Omega.{arith}
use lib.Dec.{ltb}
use lib.ListN.{length, take, length-append}
use borrow.Author.Tests.{ltb-true}
use Rattle.std.specs.Prelude.{Ok, Result}
use Rattle.base_answers.specs.declared.Refusal.{Refusal}
use Rattle.base_answers.specs.Answers.{told}
use Rattle.spec_design.specs.Statement as D
use Rattle.spec_design.specs.Process.{Process, WellFormed}
use Rattle.spec_language.specs.Validity.{Valid}
use Rattle.spec_language.specs.Verdict.{accepted, verdict}
use Rattle.spec_language.proofs.Judged.{accepts}
use Rattle.spec_language.proofs.WellFormed.{valid_well_formed}
use Rattle.spec_semantics.proofs.Basic.{and_left, and_right}
use Rattle.spec_format.specs.Lines.{Line, waits, acts, branches, lines_of, reaches_of}
use Rattle.spec_format.specs.Signature.{Signature}
use Rattle.spec_format.specs.Image.{code_of_line, code_of_lines, raw_of, raws_of, sections_for, encode_table}
use Rattle.spec_format.specs.Good.{within, good_line, GoodLines}
use Rattle.spec_format.specs.Opening.{open_of}
use Rattle.spec_format.specs.Encode.{table_of, encode}
use Rattle.spec_format.proofs.Sections.{form1_length}
use Rattle.spec_simulation.proofs.Processes.{process_good, encode_opens, encode_bytes}
use Rattle.spec_interface.specs.Compile.{written, compile_of}
use Rattle.spec_behaviour.specs.Direct.{direct_fresh, fresh_text}
use Rattle.spec_promises.proofs.Size.{valid_fits}
use Rattle.spec_interface.proofs.Compile.{wrote}
use Rattle.spec_promises.proofs.Demand3.{demand3}
use Rattle.image_compiler.specs.Written.{TwoBytes, AllTwoBytes, Fits, OpensAs}

-- FIELDS

-- one line in a table of at most 512 lines, its code within 65535 bytes
line_fields : (p n q : ℕ) (l : Line) → n ≤ 512 → p + length (code_of_line l) ≤ 65535 → q < 65536 → within n l ≡ true → TwoBytes (raw_of p l q)
unfolding raw_of code_of_line
line_fields p n q (waits f) m h r w = let z = ltb-true f n w in (omega arith, omega arith, omega arith, omega arith, r)
line_fields p n q (acts (D.Act.output k e) f) m h r w = let z = ltb-true f n w in (omega arith, omega arith, omega arith, omega arith, r)
line_fields p n q (acts (D.Act.variable k e) f) m h r w = let z = ltb-true f n w in (omega arith, omega arith, omega arith, omega arith, r)
line_fields p n q (acts D.Act.null f) m h r w = let z = ltb-true f n w in (omega arith, omega arith, omega arith, omega arith, r)
line_fields p n q (branches e f g) m h r w =
    let y = ltb-true f n (and_left (ltb f n) (ltb g n) w) in
    let z = ltb-true g n (and_right (ltb f n) (ltb g n) w) in
    (omega arith, omega arith, omega arith, omega arith, r)

-- all lines
lines_fields : (σ : Signature) (n : ℕ) (rs : List ℕ) (p : ℕ) (ls : List Line) (qs : List ℕ) → n ≤ 512 → p + length (code_of_lines ls) ≤ 65535
    → GoodLines σ n rs ls qs
    → AllTwoBytes (raws_of p ls qs)
unfolding GoodLines good_line raws_of code_of_lines
lines_fields σ n rs p [] qs m h g = tt
lines_fields σ n rs p (l ∷ ls) [] m h g = tt
lines_fields σ n rs p (l ∷ ls) (q ∷ qs) m h g =
    let k = length-append (code_of_line l) (code_of_lines ls) in (
      line_fields p n q l m (omega arith) g.1 (and_left (within n l) _ g.0),
      lines_fields σ n rs (p + length (code_of_line l)) ls qs m (omega arith) g.2,
    )

code_room : (p : Process) → length (encode p) ≤ 65535 → length (code_of_lines (lines_of p.body)) ≤ 65535
unfolding encode encode_table table_of sections_for
code_room p h = let k = form1_length (sections_for (table_of p)) in omega arith

-- The image of an accepted text always fits.
pub accepted_fits : (text : List ℕ) (p : Process) → verdict text ≡ accepted p → Fits p
unfolding table_of
accepted_fits text p e =
    let v : Valid text p = (accepts text p).0 e in
    let w : WellFormed p = valid_well_formed v in
    let h = valid_fits text p v in
    let g = process_good p w h in
    record {
      whole = h;
      bytes = encode_bytes p w h;
      fields = lines_fields (table_of p).signature (length (lines_of p.body)) (reaches_of p.body) 0 (lines_of p.body) (reaches_of p.body) g.few_lines
          (let r = code_room p h in omega arith) g.lines;
      reads = encode_opens p w h;
    }

-- THE IMAGE WRITTEN

-- What a compile wrote, by the definition.
pub written_opens : (text buffer : List ℕ) (n : ℕ) → (compile_of text buffer).answer ≡ written n → OpensAs text (take n (compile_of text buffer).buffer)
unfolding direct_fresh
written_opens text buffer n e =
    let r = wrote text buffer n e in
    let p = r.process in
    let v : Valid text p = (accepts text p).0 r.verdict in
    record {
      process = p;
      accepts = r.verdict;
      is = r.image;
      opens = ap open_of r.image ∙ encode_opens p (valid_well_formed v) (valid_fits text p v);
      starts = (demand3 text buffer n e).direct_start ∙ ap fresh_text r.verdict;
    }

-- What `compile` wrote, by its contract: the bytes that it answers open, and start as the text's design does.
pub compile_opens : (text before after : List ℕ) (r : Result ℕ Refusal) (n : ℕ) → told r ≡ (compile_of text before).answer
    → after ≡ (compile_of text before).buffer
    → r ≡ Ok n → OpensAs text (take n after)
compile_opens text before after r n a b w =
    subst (λ (s : List ℕ). OpensAs text (take n s)) (sym b) (written_opens text before n (sym a ∙ ap told w))
