-- A refused text: the line that `start` puts is its whole trace. Assumes nothing.
use mathlib.Core.Path.{◌≡◌, sym, ◌∙◌, ap}
use Rattle.std.specs.Prelude.{Some}
use mathlib.Core.List.{List}
use Prim.Native.Nat.{ℕ}
use lib.ListN.{length}
use Rattle.spec_language.specs.Verdict.{Verdict, refused, verdict}
use Rattle.spec_interface.specs.Compile.{on_verdict, compile_of}
use Rattle.trace_lines.specs.Trace.{trace_of}
use Rattle.trace_lines.specs.Chunks.{only_line}
use Rattle.trace_lines.proofs.Whole.{trace_refused}

-- the only line of the trace of a refused text, by the compile's answer
pub only_refused : (text rows buffer : List ℕ) (n k : ℕ) → verdict text ≡ refused n k
    → only_line (compile_of text buffer).answer (length rows) ≡ Some (trace_of text rows)
unfolding compile_of
only_refused text rows buffer n k v =
    ap (λ (x : Verdict). only_line (on_verdict x buffer).answer (length rows)) v ∙ ap Some (sym (trace_refused text rows n k v))
