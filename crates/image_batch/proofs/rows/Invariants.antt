use Prim.Native.Nat.{◌-◌}
use Rattle.image_batch.proofs.RowLaws.{Rest}
use Rattle.image_batch.proofs.rows.Given as goal

abbrev pub invariant-loop : goal.invariant-loop
invariant-loop l = Rest l.image l.width l.initial.p.state l.count l.inputs l.initial.outputs l.initial.answers (l.count - l.counter) l.p l.outputs l.answers
