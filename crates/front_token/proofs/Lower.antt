-- Lower case is std's for ASCII. Assumes nothing.
use mathlib.Core.Path.{◌≡◌}
use mathlib.Core.List.{List, map}
use Prim.Native.Nat.{ℕ}
use native.Mathlib.Omega.{arith}
use Rattle.std.proofs.lemmas.Grind.{common_steps}
use Rattle.std.specs.Char.{to_ascii_lowercase}
use Rattle.spec_language.specs.Bytes.{between, lower}

pub lower_is : (b : ℕ) → to_ascii_lowercase b ≡ lower b
unfolding between lower
lower_is b = grind (arith, common_steps)

pub lower_all : (w : List ℕ) → map to_ascii_lowercase w ≡ map lower w
lower_all w i = map (λ (b : ℕ). lower_is b i) w
