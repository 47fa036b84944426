use Prim.Native.Nat.{◌-◌}
use Rattle.front_declarations.specs.Headers.{header_here}
use Rattle.front_declarations.proofs.GroupLists.{PortsOnOver}
use Rattle.front_declarations.proofs.port_groups.Given as goal

abbrev pub invariant-loop-text : goal.invariant-loop-text
invariant-loop-text l = PortsOnOver l.text.kinds.now l.text.long.now l.text.count (header_here l.initial.a) l.initial.decls (header_here l.a) l.decls

abbrev pub decreases-loop-text : goal.decreases-loop-text
decreases-loop-text l = l.text.count - l.a.cursor.at
