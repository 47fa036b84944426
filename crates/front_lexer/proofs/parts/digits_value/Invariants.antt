use mathlib.Core.Path.{◌≡◌}
use Prim.Native.Nat.{◌≤◌}
use lib.ListN.{drop}
use Rattle.spec_language.specs.Words.{value}
use Rattle.front_lexer.proofs.parts.digits_value.Given as goal

abbrev pub invariant-loop-b : goal.invariant-loop-b
invariant-loop-b l = (l.v ≤ 2147483648) × (value l.v (drop l.b-index l.digits) ≡ value 0 l.digits)
