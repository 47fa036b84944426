-- Marks and the literals '0' and '1' by their bytes. Assumes nothing.
use Rattle.std.specs.Prelude.{Bool, true, false, cond, List, [], ◌∷◌, ℕ, Option, Some, None, eqb, length}
use Rattle.spec_language.specs.Bytes.{Fixed}
use Rattle.spec_language.specs.Lexing.{equal}

-- the kind of the first that w is
unfoldable pub fixed_kind : List Fixed → List ℕ → Option ℕ
fixed_kind [] w = None
fixed_kind (f ∷ fs) w = cond (equal f.bytes w) (Some f.kind) (fixed_kind fs w)

-- a fixed token kept or left out
abbrev pub keep_fixed : Bool → Fixed → List Fixed → List Fixed
keep_fixed true f fs = f ∷ fs
keep_fixed false f fs = fs

-- those of n bytes
unfoldable pub of_length : ℕ → List Fixed → List Fixed
of_length n [] = []
of_length n (f ∷ fs) = keep_fixed (eqb (length f.bytes) n) f (of_length n fs)
