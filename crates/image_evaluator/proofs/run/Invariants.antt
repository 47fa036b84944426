use Rattle.image_evaluator.specs.Value.{machine_for}
use Rattle.image_evaluator.proofs.LoopLaws.{Left}
use Rattle.image_evaluator.proofs.run.Given as goal

abbrev pub invariant-loop-at : goal.invariant-loop-at
invariant-loop-at l =
    Left (machine_for l.inputs.kinds.now l.variables.kinds.now l.inputs.values.now l.variables.values.now) l.code l.stack.values l.stack.tags l.depth l.at l.left

abbrev pub decreases-loop-at : goal.decreases-loop-at
decreases-loop-at l = l.left
