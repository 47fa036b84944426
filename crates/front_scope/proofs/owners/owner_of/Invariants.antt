use Rattle.front_scope.proofs.Owning.{Owning}
use Rattle.front_scope.proofs.owners.owner_of.Given as goal

abbrev pub invariant-loop-j : goal.invariant-loop-j
invariant-loop-j l = Owning l.text l.starts l.sizes l.n l.decls l.i l.end l.j
