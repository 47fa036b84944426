use Rattle.front_clock.proofs.Waiting.{Waiting}
use Rattle.front_clock.proofs.waits.first_wait.Given as goal

abbrev pub invariant-loop-j : goal.invariant-loop-j
invariant-loop-j l = Waiting l.rows l.end l.j
