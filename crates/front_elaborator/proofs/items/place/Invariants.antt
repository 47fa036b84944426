use Rattle.spec_semantics.specs.Twos.{unsigned32}
use Rattle.front_elaborator.specs.Positions.{code_of, arg_of}
use Rattle.front_elaborator.proofs.ItemLoop.{Placing}
use Rattle.front_elaborator.proofs.items.place.Given as goal

abbrev pub invariant-loop-j : goal.invariant-loop-j
invariant-loop-j l = Placing (λ c z. code_of l.decls l.d c (unsigned32 z)) (arg_of l.decls l.d l.slots) l.j-end l.initial.ops l.initial.args l.ops l.args l.j
