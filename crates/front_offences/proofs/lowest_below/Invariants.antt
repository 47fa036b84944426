use Rattle.std.proofs.Common.{◌≡◌, ℕ, ◌<◌}
use Rattle.std.specs.Prelude.{Option}
use Rattle.front_offences.proofs.Loops.{Running}
use Rattle.front_offences.proofs.lowest_below.Given as goal

abbrev pub invariant-loop-j : goal.invariant-loop-j
invariant-loop-j g l = (f : ℕ → Option ℕ) → ((j : ℕ) → j < l.end → (r : Option ℕ) → goal.F-post g l.offence_at j r → r ≡ f j) → Running f l.end l.j l.low
