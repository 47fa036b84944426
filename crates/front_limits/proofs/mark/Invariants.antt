use Rattle.front_limits.proofs.Marking.{Marks}
use Rattle.front_limits.proofs.mark.Given as goal

abbrev pub invariant-loop-i : goal.invariant-loop-i
invariant-loop-i l = Marks l.text l.kinds l.starts l.sizes l.initial.long l.n l.i-end l.long l.i
