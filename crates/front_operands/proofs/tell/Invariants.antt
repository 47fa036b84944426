use Rattle.front_operands.proofs.TellLoop.{Telling}
use Rattle.front_operands.proofs.tell.Given as goal

abbrev pub invariant-loop-j : goal.invariant-loop-j
invariant-loop-j l = Telling l.ops l.inputs l.variables l.j-end l.initial.args l.args l.t l.j
