use Rattle.image_loader.proofs.CodeLoop.{Left}
use Rattle.image_loader.proofs.code.run.Given as goal

abbrev pub invariant-loop-at : goal.invariant-loop-at
invariant-loop-at l = Left l.signature l.s l.stack l.at l.depth l.left

abbrev pub decreases-loop-at : goal.decreases-loop-at
decreases-loop-at l = l.left
