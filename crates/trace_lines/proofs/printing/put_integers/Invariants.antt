use Rattle.trace_lines.proofs.PrintingLaws.{Printed}
use Rattle.trace_lines.proofs.printing.put_integers.Given as goal

abbrev pub invariant-loop-v : goal.invariant-loop-v
invariant-loop-v l = Printed l.initial.out l.at l.values l.out l.k l.v-index
