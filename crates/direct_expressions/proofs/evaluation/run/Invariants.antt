use Rattle.direct_expressions.proofs.StackLaws.{Left}
use Rattle.direct_expressions.proofs.evaluation.run.Given as goal

abbrev pub invariant-loop-at : goal.invariant-loop-at
invariant-loop-at l = Left l.codes l.args l.from l.to l.inputs l.variables l.stack l.depth l.at
