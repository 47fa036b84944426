use Prim.Native.Nat.{◌-◌}
use lib.ListN.{length}
use Rattle.front_lexer.proofs.Filling.{Filled}
use Rattle.front_lexer.proofs.lex.Given as goal

abbrev pub invariant-loop-i : goal.invariant-loop-i
invariant-loop-i l = Filled l.text l.initial.kinds l.initial.starts l.initial.sizes l.kinds l.starts l.sizes l.i l.n

abbrev pub decreases-loop-i : goal.decreases-loop-i
decreases-loop-i l = length l.text - l.i
