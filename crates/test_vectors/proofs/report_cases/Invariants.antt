use Rattle.std.proofs.Common.{◌≤◌, ◌-◌, length}
use Rattle.test_vectors.proofs.report_cases.Given as goal

abbrev pub invariant-loop-at : goal.invariant-loop-at
invariant-loop-at g l = (l.at ≤ length l.cases) × (l.number ≤ l.at)

abbrev pub decreases-loop-at : goal.decreases-loop-at
decreases-loop-at g l = length l.cases - l.at
