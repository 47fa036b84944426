use Rattle.front_elaborator.specs.Names.{slot_of}
use Rattle.front_elaborator.proofs.NameLaws.{Slots}
use Rattle.front_elaborator.proofs.names.slots.Given as goal

abbrev pub invariant-loop-j : goal.invariant-loop-j
invariant-loop-j l = Slots (slot_of l.decls l.clock) l.j-end l.initial.out l.out l.j
