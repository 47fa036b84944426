-- What the functions of this crate answer, by cases (document 01, "Turned back"). Assumes nothing.
use Rattle.std.proofs.Math.Option.{Option, none, some}
use Rattle.std.specs.Prelude.{ℕ, Result, Ok, Err}

-- 14 at a place, or the row is right
abbrev pub check_of : Option ℕ → Result (Unit {0}) ℕ
check_of none = Ok tt
check_of (some k) = Err k
