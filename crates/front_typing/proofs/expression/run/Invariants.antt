use Rattle.front_typing.specs.Expressions.{sources_of}
use Rattle.front_typing.proofs.StackLaws.{Left}
use Rattle.front_typing.proofs.expression.run.Given as goal

abbrev pub invariant-loop-m : goal.invariant-loop-m
invariant-loop-m l = Left (sources_of l.tree) l.fn.span.from l.fn.span.to l.stack l.p.depth
    l.p.lowest l.m
