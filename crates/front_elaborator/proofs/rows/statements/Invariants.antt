use Rattle.front_elaborator.proofs.RowLoop.{Storing}
use Rattle.front_elaborator.proofs.rows.statements.Given as goal

abbrev pub invariant-loop-j : goal.invariant-loop-j
invariant-loop-j l = Storing l.owners l.slots l.rows l.j-end l.initial.out l.out l.j
