use mathlib.Core.Path.{◌≡◌}
use lib.ListN.{length, take}
use Rattle.trace_lines.specs.Stored.{Puts}
use Rattle.trace_lines.proofs.printing.put_text.Given as goal

abbrev pub invariant-loop-b : goal.invariant-loop-b
invariant-loop-b l = (length l.out ≡ length l.initial.out) × Puts l.initial.out l.at (take l.b-index l.text) l.out l.k
