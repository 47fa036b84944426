use mathlib.Core.Path.{◌≡◌}
use lib.ListN.{drop}
use Rattle.direct_cycle.specs.Checks.{wrong_in}
use Rattle.direct_cycle.proofs.checks.first_wrong.Given as goal

abbrev pub invariant-loop-k : goal.invariant-loop-k
invariant-loop-k l = wrong_in (drop l.k l.types) (drop l.k l.inputs) l.k ≡ wrong_in l.types l.inputs 0
