use mathlib.Core.Path.{◌≡◌}
use lib.ListN.{drop}
use Rattle.image_checks.specs.Places.{wrong_from}
use Rattle.image_checks.proofs.rows.first_wrong.Given as goal

abbrev pub invariant-loop-k : goal.invariant-loop-k
invariant-loop-k l = wrong_from l.signature l.k (drop l.k l.inputs) ≡ wrong_from l.signature 0 l.inputs
