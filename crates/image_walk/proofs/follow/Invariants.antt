use mathlib.Core.Path.{◌≡◌}
use lib.ListN.{length}
use Rattle.image_evaluator.specs.Stack.{Room}
use Rattle.image_walk.proofs.Turns.{Rest}
use Rattle.image_walk.proofs.follow.Given as goal

abbrev pub invariant-loop-n : goal.invariant-loop-n
invariant-loop-n l = record {
  rest : Rest l.lines l.code l.inputs.kinds.now l.variable_types l.inputs.values.now l.most l.first l.initial.outputs l.initial.variables
      l.n l.x l.outputs l.variables;
  outputs : length l.outputs ≡ length l.initial.outputs;
  variables : length l.variables ≡ length l.initial.variables;
  room : Room l.stack.values l.stack.tags 0;
}
