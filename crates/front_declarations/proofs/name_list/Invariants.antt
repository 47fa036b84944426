use Prim.Native.Nat.{◌-◌}
use Rattle.front_declarations.specs.Headers.{header_here}
use Rattle.front_declarations.proofs.NameLists.{NamesOnOver}
use Rattle.front_declarations.proofs.name_list.Given as goal

abbrev pub invariant-loop-text : goal.invariant-loop-text
invariant-loop-text l = NamesOnOver l.text.kinds.now l.text.long.now l.text.count (header_here l.initial.a) l.variables (header_here l.a)

abbrev pub decreases-loop-text : goal.decreases-loop-text
decreases-loop-text l = l.text.count - l.a.cursor.at
