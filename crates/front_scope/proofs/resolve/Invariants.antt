use Rattle.front_scope.specs.Positions.{owner_in}
use Rattle.front_scope.proofs.Owning.{Filling}
use Rattle.front_scope.proofs.resolve.Given as goal

abbrev pub invariant-loop-i : goal.invariant-loop-i
invariant-loop-i l = Filling (owner_in l.text l.starts l.sizes l.n l.decls l.d) l.kinds l.initial.owners l.end l.i l.owners
