-- What the readers' proofs share: laws of truth values for the limits. Assumes nothing.
use mathlib.Core.Path.{◌≡◌, refl}
use mathlib.Core.Bool.{Bool, true, false, ◌||◌}

pub three : (a b c : Bool) → a || (b || c) ≡ (a || c) || b
three true b c = refl
three false true true = refl
three false true false = refl
three false false true = refl
three false false false = refl

pub or_assoc : (a b c : Bool) → a || (b || c) ≡ (a || b) || c
or_assoc true b c = refl
or_assoc false b c = refl

pub or_true : (u : Bool) → u || true ≡ true
or_true true = refl
or_true false = refl
