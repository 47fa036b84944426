use mathlib.Core.List.{map}
use lib.ListN.{drop}
use Rattle.spec_language.specs.Bytes.{lower}
use Rattle.trace_header.proofs.Putting.{Goes}
use Rattle.trace_header.proofs.bytes.put_folded.Given as goal

abbrev pub invariant-loop-b : goal.invariant-loop-b
invariant-loop-b l = Goes l.initial.out l.n (map lower l.word) l.out l.m (map lower (drop l.b-index l.word))
