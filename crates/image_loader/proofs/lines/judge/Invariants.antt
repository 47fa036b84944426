use Rattle.image_loader.proofs.LinesLoop.{Left}
use Rattle.image_loader.proofs.lines.judge.Given as goal

abbrev pub invariant-loop-x : goal.invariant-loop-x
invariant-loop-x l = Left l.signature l.lines l.code l.n l.x l.p
