use Rattle.std.proofs.Common.{◌≡◌, ◌+◌, ◌-◌, ◌*◌}
use lib.Seq.{sets}
use Rattle.image_encoder.specs.Emitted.{cells_from}
use Rattle.image_encoder.proofs.sections.put_cells.Given as goal

abbrev pub invariant-loop-k : goal.invariant-loop-k
invariant-loop-k l = sets l.image (l.at + 5 * l.k) (cells_from l.names.types l.names.values l.k (l.names.count - l.k))
    ≡ sets l.initial.image l.at (cells_from l.names.types l.names.values 0 l.names.count)
