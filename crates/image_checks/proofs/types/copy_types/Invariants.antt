use mathlib.Core.Path.{◌≡◌}
use mathlib.Core.List.{◌++◌}
use lib.ListN.{drop}
use Rattle.image_checks.specs.Places.{type_bytes_at}
use Rattle.image_checks.proofs.types.copy_types.Given as goal

abbrev pub invariant-loop-k : goal.invariant-loop-k
invariant-loop-k l = l.kinds ≡ type_bytes_at l.signature l.at l.k ++ drop l.k l.initial.kinds
