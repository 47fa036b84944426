use Rattle.std.proofs.Common.{◌<◌}
use Rattle.test_vectors.proofs.compiling.print_sums.Given as goal

abbrev pub invariant-loop-byte : goal.invariant-loop-byte
invariant-loop-byte g l = (l.a < 65521) × (l.b < 65521)
