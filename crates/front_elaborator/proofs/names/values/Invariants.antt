use Rattle.front_elaborator.specs.Names.{of_mode, initial_at}
use Rattle.front_elaborator.proofs.NameLaws.{Picks}
use Rattle.front_elaborator.proofs.names.values.Given as goal

abbrev pub invariant-loop-k : goal.invariant-loop-k
invariant-loop-k l = Picks (of_mode l.decls l.clock l.mode) (initial_at l.text l.starts l.sizes l.kinds l.decls) l.initial.out l.k-end l.out l.n l.k
