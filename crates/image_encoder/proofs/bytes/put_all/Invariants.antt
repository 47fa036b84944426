use Rattle.std.proofs.Common.{◌≡◌, ◌+◌, drop}
use lib.Seq.{sets}
use Rattle.image_encoder.proofs.bytes.put_all.Given as goal

abbrev pub invariant-loop-k : goal.invariant-loop-k
invariant-loop-k l = sets l.image (l.at + l.k) (drop l.k l.bytes) ≡ sets l.initial.image l.at l.bytes
