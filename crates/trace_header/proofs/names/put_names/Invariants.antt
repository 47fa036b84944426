use Prim.Native.Nat.{min}
use Rattle.trace_header.specs.Positions.{label_at}
use Rattle.trace_header.proofs.Putting.{Lists}
use Rattle.trace_header.proofs.names.put_names.Given as goal

abbrev pub invariant-loop-k : goal.invariant-loop-k
invariant-loop-k l = Lists (label_at l.text l.starts l.sizes) l.initial.out l.m (min l.count 32) l.k-end l.out l.next l.k
