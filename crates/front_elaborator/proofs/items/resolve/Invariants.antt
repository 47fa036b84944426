use Rattle.front_elaborator.specs.Positions.{value_at}
use Rattle.front_elaborator.proofs.ItemLoop.{Resolving}
use Rattle.front_elaborator.proofs.items.resolve.Given as goal

abbrev pub invariant-loop-j : goal.invariant-loop-j
invariant-loop-j l = Resolving (value_at l.text l.starts l.sizes l.kinds l.owners) l.codes l.indices l.j-end l.initial.args l.args l.j
