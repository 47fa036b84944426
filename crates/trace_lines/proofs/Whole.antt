-- The trace of an image is the trace of its text: the lines of rows are printed from a list of calls, and by demand 3 the calls on the image are those of
-- the equations. Assumes nothing.
use mathlib.Core.Path.{◌≡◌, refl, sym, ◌∙◌, ap}
use mathlib.Core.Bool.{Bool, true, false, cond}
use Rattle.std.specs.Prelude.{Option, None, Some}
use mathlib.Core.List.{List, [], ◌∷◌, ◌++◌}
use Prim.Native.Nat.{ℕ, suc, ◌≤◌, ◌<◌}
use native.Mathlib.Omega.{arith}
use lib.IntN.{ℤ, pos}
use lib.Dec.{leb, eqb}
use lib.ListN.{length, get_or, take, replicate, length-replicate, length-map}
use borrow.Author.Tests.{le-leb, lt-leb, leb-false, ne_eqb}
use Rattle.base_answers.specs.declared.State.{State}
use Rattle.spec_design.specs.Process.{Process, WellFormed}
use Rattle.spec_language.specs.Verdict.{Verdict, accepted, refused, verdict}
use Rattle.spec_language.proofs.Judged.{accepts}
use Rattle.spec_language.proofs.WellFormed.{valid_well_formed}
use Rattle.spec_semantics.specs.Rows.{Kept, Outcome, performed, row_refused, operator_refused, row_refusal, judged, row, kept_at_first}
use Rattle.spec_format.specs.Image as Image
use Rattle.spec_format.specs.Signature.{signature_bytes}
use Rattle.spec_format.specs.Encode.{signature_for, table_of, encode}
use Rattle.spec_format.specs.State.{fresh_of}
use Rattle.spec_semantics.specs.Records.{state_for}
use Rattle.spec_format.specs.Cycle.{cycle_of, calls_of}
use Rattle.spec_semantics.specs.Calls.{Called, Call}
use Rattle.spec_interface.specs.Compile.{written, compile_of}
use Rattle.spec_semantics.specs.Comparison.{fed, seen, equation_calls}
use Rattle.spec_semantics.specs.Advances.{start_of}
use Rattle.spec_interface.proofs.Compile.{wrote}
use Rattle.spec_promises.proofs.Demand3.{demand3}
use Rattle.trace_lines.specs.Rows.{rows_in}
use Rattle.trace_lines.specs.Printing.{refused_line, refused_text}
use Rattle.trace_header.specs.Header.{header_of}
use Rattle.trace_lines.specs.Reading.{short}
use Rattle.trace_lines.specs.Trace.{line_for, row_traced, rows_traced, row_values, traced_by, trace_of}
use Rattle.trace_lines.specs.Chunks.{shown, room, first_of, shorts, image_lines, pending}

-- the calls of rows, with an output row of m zeros; an unreadable row makes no call
unfoldable calls_for : ℕ → List (Option (List ℤ)) → List Call
calls_for m [] = []
calls_for m (None ∷ vs) = calls_for m vs
calls_for m (Some v ∷ vs) = record { inputs = v; outputs = replicate m (pos 0) } ∷ calls_for m vs

-- the lines of rows, from what their calls left
unfoldable printed : ℕ → List (Option (List ℤ)) → List Called → List ℕ
printed n [] cs = []
printed n (None ∷ vs) cs = refused_line n 14 ++ printed (suc n) vs cs
printed n (Some v ∷ vs) [] = []
printed n (Some v ∷ vs) (c ∷ cs) = shown n c ++ printed (suc n) vs cs

by_image : (b : List ℕ) (vs : List (Option (List ℤ))) (s : State) (n : ℕ) → image_lines b s n vs ≡ printed n vs (calls_of b s (calls_for (room b) vs))
unfolding image_lines printed calls_of calls_for
by_image b [] s n = refl
by_image b (None ∷ vs) s n = ap (λ (l : List ℕ). refused_line n 14 ++ l) (by_image b vs s (suc n))
by_image b (Some v ∷ vs) s n =
    ap (λ (l : List ℕ). shown n (cycle_of b s v (replicate (room b) (pos 0))) ++ l) (by_image b vs (cycle_of b s v (replicate (room b) (pos 0))).state (suc n))

-- a call of the equations, shown
seen_line : (n : ℕ) (r : Outcome × Kept) (c : Call) → shown n (seen r c) ≡ line_for n r
unfolding state_for
seen_line n (performed outputs way, k) c = refl
seen_line n (row_refused place, k) c = refl
seen_line n (operator_refused q line, k) c = refl

-- what the equations are fed: a row and its room
fed_row : (m : ℕ) (v : List ℤ) → fed (record { inputs = v; outputs = replicate m (pos 0) }) ≡ record { inputs = v; room = m }
fed_row m v = ap (λ (k : ℕ). record { inputs = v; room = k }) (length-replicate m (pos 0))

by_equations : (p : Process) (m : ℕ) → m ≡ length p.outputs → (vs : List (Option (List ℤ))) (k : Kept) (n : ℕ)
    → rows_traced p k n vs ≡ printed n vs (equation_calls p k (calls_for m vs))
unfolding rows_traced printed equation_calls calls_for
by_equations p m e [] k n = refl
by_equations p m e (None ∷ vs) k n = ap (λ (l : List ℕ). refused_line n 14 ++ l) (by_equations p m e vs k (suc n))
by_equations p m e (Some v ∷ vs) k n =
    rw (fed_row m v, sym e)
    (ap (λ (l : List ℕ). line_for n (row p k (record { inputs = v; room = m })) ++ l)
    (by_equations p m e vs (row p k (record { inputs = v; room = m })).1 (suc n))
    ∙ ap (λ (l : List ℕ). l ++ printed (suc n) vs (equation_calls p (row p k (record { inputs = v; room = m })).1 (calls_for m vs)))
    (sym (seen_line n (row p k (record { inputs = v; room = m })) (record { inputs = v; outputs = replicate m (pos 0) }))))

other_length : (p : Process) (k : Kept) (l : List ℤ) → eqb (length l) (length p.inputs) ≡ false
    → row p k (record { inputs = l; room = length p.outputs }) ≡ (row_refused 0, k)
unfolding row row_refusal judged
other_length p k l e = rw e

-- a row of more than 16 values is refused by 14
long_row : (p : Process) → length p.inputs ≤ 16 → (k : Kept) (n : ℕ) (v : Option (List ℤ)) → row_traced p k n (short v) ≡ row_traced p k n v
long_row p h k n None = refl
long_row p h k n (Some l) = go (leb (length l) 16) refl
  where
    far : 16 < length l → row p k (record { inputs = l; room = length p.outputs }) ≡ (row_refused 0, k)
    far z = other_length p k l (ne_eqb (length l) (length p.inputs) (λ e. omega arith))

    go : (q : Bool) → leb (length l) 16 ≡ q → row_traced p k n (cond q (Some l) None) ≡ row_traced p k n (Some l)
    go true q = refl
    go false q =
        sym (ap (λ (r : Outcome × Kept). (line_for n r, r.1)) (far (leb-false (length l) 16 q)))

all_short : (p : Process) → length p.inputs ≤ 16 → (vs : List (Option (List ℤ))) (k : Kept) (n : ℕ) → rows_traced p k n (shorts vs) ≡ rows_traced p k n vs
unfolding rows_traced shorts
all_short p h [] k n = refl
all_short p h (v ∷ vs) k n = rw (long_row p h k n v) (ap (λ (l : List ℕ). (row_traced p k n v).0 ++ l) (all_short p h vs (row_traced p k n v).1 (suc n)))

-- the second byte of an image's signature is the number of outputs
room_is : (p : Process) → WellFormed p → room (encode p) ≡ length p.outputs
unfolding encode Image.encode_table Image.image Image.pairs Image.joined signature_bytes signature_for table_of Image.form1 Image.sections_for
room_is p w =
    let z : get_or (encode p) 29 0 ≡ length p.outputs = length-map p.outputs _ in
    let y = w.outputs in
    omega arith

-- THE THEOREM: where a compile wrote the image of the text and the rows are not too long, the trace is the header, then what is pending before the first row
pub trace_image : (text rows buffer : List ℕ) (n : ℕ) (p : Process) → verdict text ≡ accepted p → length rows ≤ 65536
    → (compile_of text buffer).answer ≡ written n
    → trace_of text rows ≡ header_of p ++ pending (take n (compile_of text buffer).buffer) rows (first_of (take n (compile_of text buffer).buffer))
unfolding trace_of compile_of
trace_image text rows buffer n p v h e =
    let d = demand3 text buffer n e in
    let b = take n (compile_of text buffer).buffer in
    let w : WellFormed p = valid_well_formed ((accepts text p).0 v) in
    let q : accepted d.process ≡ accepted p = sym ((accepts text d.process).1 d.valid) ∙ v in
    let same : d.process ≡ p = cc in
    let vs = shorts (row_values (rows_in rows)) in
    let g = wrote text buffer n e in
    let u : accepted g.process ≡ accepted p = sym g.verdict ∙ v in
    let wrote_same : g.process ≡ p = cc in
    let i : b ≡ encode p = g.image ∙ ap encode wrote_same in
    let m : room b ≡ length p.outputs = ap room i ∙ room_is p w in
    let s : start_of (fresh_of b) ≡ d.state = ap start_of d.starts in
    let a = by_image b vs (start_of (fresh_of b)) 0 in
    let t : calls_of b (start_of (fresh_of b)) (calls_for (room b) vs) ≡ equation_calls p (kept_at_first p) (calls_for (room b) vs) =
    ap (λ (x : State). calls_of b x (calls_for (room b) vs)) s
    ∙ (d.same (calls_for (room b) vs) ∙ ap (λ (x : Process). equation_calls x (kept_at_first x) (calls_for (room b) vs)) same) in
    let y : image_lines b (start_of (fresh_of b)) 0 vs ≡ rows_traced p (kept_at_first p) 0 (row_values (rows_in rows)) =
    a ∙ (ap (printed 0 vs) t ∙ (sym (by_equations p (room b) m vs (kept_at_first p) 0) ∙ all_short p w.inputs (row_values (rows_in rows)) (kept_at_first p) 0)) in
    let k : leb (length rows) 65536 ≡ true = le-leb (length rows) 65536 h in
    let z : traced_by (accepted p) rows ≡ header_of p ++ rows_traced p (kept_at_first p) 0 (row_values (rows_in rows)) = rw k in
    ap (λ (x : Verdict). traced_by x rows) v ∙ (z ∙ ap (λ (l : List ℕ). header_of p ++ l) (sym y))

-- an accepted text with rows of above 65,536 bytes, and a refused text: the only line
pub trace_too_long : (text rows : List ℕ) (p : Process) → verdict text ≡ accepted p → 65536 < length rows → trace_of text rows ≡ refused_text 14 0
unfolding trace_of
trace_too_long text rows p v h =
    let k : leb (length rows) 65536 ≡ false = lt-leb (length rows) 65536 h in
    let z : traced_by (accepted p) rows ≡ refused_text 14 0 = rw k in
    ap (λ (x : Verdict). traced_by x rows) v ∙ z

pub trace_refused : (text rows : List ℕ) (n k : ℕ) → verdict text ≡ refused n k → trace_of text rows ≡ refused_text n k
unfolding trace_of
trace_refused text rows n k v = ap (λ (x : Verdict). traced_by x rows) v
