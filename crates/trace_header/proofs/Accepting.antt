-- From the parts to the header of a text: the line of an accepted one is filled; a refused one has no header. Assumes nothing.
use mathlib.Core.Path.{◌≡◌, ◌∙◌, ap}
use mathlib.Core.List.{List, []}
use Prim.Native.Nat.{ℕ, ◌≤◌}
use native.Mathlib.Omega.{arith}
use lib.ListN.{length, take}
use lib.Seq.{take-append_seam}
use Rattle.spec_design.specs.Process.{Process, WellFormed}
use Rattle.spec_language.specs.Verdict.{accepted, refused, verdict}
use Rattle.trace_header.specs.declared.Line.{Line}
use Rattle.trace_header.specs.Header.{header_of, header_for}
use Rattle.trace_header.specs.Lines.{padded, line_of, Headed, Shows}
use Rattle.trace_header.proofs.Listed.{header_short}

line_is : (r : Line) (l : List ℕ) → length l ≤ 560 → Shows r.bytes r.size l → r ≡ line_of l
unfolding line_of
line_is r l h s =
    let e = s.is h in
    ap (λ (b : List ℕ). record { bytes = b; size = r.size }) e.0 ∙ ap (λ (n : ℕ). record { bytes = padded l; size = n }) e.1

headed : (text : List ℕ) (r : Line) → length (header_for (verdict text)) ≤ 545 → r ≡ line_of (header_for (verdict text)) → Headed text r
unfolding line_of padded
headed text r h e =
    let l = header_for (verdict text) in
    let z : r.size ≡ length (header_for (verdict text)) = ap (λ (q : Line). q.size) e in
    record {
      line = e;
      short = omega arith;
      shown = ap (λ (q : Line). take q.size q.bytes) e ∙ take-append_seam (header_for (verdict text)) _;
    }

-- of a text that is accepted
pub headed_yes : (text : List ℕ) (r : Line) (p : Process) → verdict text ≡ accepted p → WellFormed p → Shows r.bytes r.size (header_of p) → Headed text r
unfolding header_for
headed_yes text r p e w f =
    let s = header_short p w.outputs in
    let q : header_for (verdict text) ≡ header_of p = ap header_for e in
    headed text r (rw q s) (rw q (line_is r (header_of p) (omega arith) f))

-- of a text that is refused
pub headed_no : (text : List ℕ) (r : Line) (n k : ℕ) → verdict text ≡ refused n k → r ≡ line_of [] → Headed text r
unfolding header_for
headed_no text r n k e f = let q : header_for (verdict text) ≡ [] = ap header_for e in headed text r (rw q (omega arith)) (rw q f)
