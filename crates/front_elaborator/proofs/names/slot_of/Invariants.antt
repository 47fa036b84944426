use Rattle.front_elaborator.specs.Names.{of_mode}
use Rattle.front_elaborator.proofs.NameLaws.{Counts}
use Rattle.front_elaborator.proofs.names.slot_of.Given as goal

abbrev pub invariant-loop-k : goal.invariant-loop-k
invariant-loop-k l = Counts (of_mode l.decls l.clock l.mode) l.k-end l.n l.k
