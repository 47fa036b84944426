use mathlib.Core.Path.{◌≡◌}
use mathlib.Core.Bool.{Bool}
use Prim.Native.Nat.{ℕ}
use Rattle.front_token.specs.Places.{Tells, end_of_run}
use Rattle.front_token.proofs.runs.run_end.Given as goal

abbrev pub invariant-loop-i : goal.invariant-loop-i
invariant-loop-i g l = (p : ℕ → Bool) → Tells (goal.P-post g l.passes) p → end_of_run p l.text l.i ≡ end_of_run p l.text l.at
