-- The values of a type byte (document 01, "Types", "Image, form 1").
-- Assumes nothing.
use Rattle.std.specs.Prelude.{Bool, false, ℕ, ℤ}
use Rattle.std.proofs.Math.Option.{Option, none, some}
use Rattle.spec_design.specs.Types.{Ty, in_type, type_of_byte}

-- z is a value of the type; where there is no type there is no value
abbrev pub in_some : Option Ty → ℤ → Bool
in_some none z = false
in_some (some t) z = in_type t z

-- z is a value of the type with the type byte k, "0 std_logic, 1 integer": one test for initial values (12), input rows (14) and states (15)
abbrev pub in_type_byte : ℕ → ℤ → Bool
in_type_byte k z = in_some (type_of_byte k) z
