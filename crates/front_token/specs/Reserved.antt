-- Reserved words by their bytes. Assumes nothing.
use Rattle.std.specs.Prelude.{Bool, true, false, cond, List, [], ◌∷◌, ℕ, eqb, length}
use Rattle.base_codes.specs.Token.{NAME}
use Rattle.spec_language.specs.Words.{Word, reserved}
use Rattle.spec_language.specs.Lexing.{equal}

-- "Each reserved word is a fixed byte string matched against a token folded to lower case": the kind of the first that w is, else a name
unfoldable pub spelled_kind : List Word → List ℕ → ℕ
spelled_kind [] w = NAME
spelled_kind (r ∷ rs) w = cond (equal r.bytes w) r.kind (spelled_kind rs w)

-- the kind of a word in lower case: that of its reserved word, else a name
unfoldable pub reserved_kind : List ℕ → ℕ
reserved_kind w = spelled_kind reserved w

-- a word kept or left out
abbrev pub keep_if : Bool → Word → List Word → List Word
keep_if true r rs = r ∷ rs
keep_if false r rs = rs

-- those of n bytes
unfoldable pub of_size : ℕ → List Word → List Word
of_size n [] = []
of_size n (r ∷ rs) = keep_if (eqb (length r.bytes) n) r (of_size n rs)
