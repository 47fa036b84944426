-- Tokens that pass a limit wherever they stand: the flag of one, by its kind, place and size, and the array of flags. Assumes nothing.
use Rattle.std.specs.Prelude.{List, [], ◌∷◌, ℕ, zero, suc, ◌+◌, min, eqb, ltb, get_or}
use Rattle.std.proofs.lemmas.List.Edits.{sets}
use Rattle.base_codes.specs.Limit as L
use Rattle.base_codes.specs.Token.{NAME, NUMBER}
use Rattle.spec_grammar.specs.Reader.{choose}
use Rattle.spec_language.specs.Words.{value}
use Rattle.front_token.specs.Places.{part}

-- "name 32 bytes": 1 for a name of more bytes
abbrev pub name_flag : ℕ → ℕ
name_flag size = choose (ltb 32 size) 1 0

-- "literal 2147483647": 1 for a number above it
abbrev pub number_flag : ℕ → ℕ
number_flag v = choose (ltb 2147483647 v) 1 0

-- the flag of a token of this kind that has so many bytes from a place on; only names and numbers pass such a limit
unfoldable pub flag_of : List ℕ → ℕ → ℕ → ℕ → ℕ
flag_of text kind start size = choose (eqb kind NAME) (name_flag size) (choose (eqb kind NUMBER) (number_flag (value 0 (part text start size))) 0)

-- the flag of token i
abbrev pub flag_at : List ℕ → List ℕ → List ℕ → List ℕ → ℕ → ℕ
flag_at text kinds starts sizes i = flag_of text (get_or kinds i 0) (get_or starts i 0) (get_or sizes i 0)

-- the flags from token i on, c of them
unfoldable pub flags_from : List ℕ → List ℕ → List ℕ → List ℕ → ℕ → ℕ → List ℕ
flags_from text kinds starts sizes i zero = []
flags_from text kinds starts sizes i (suc c) = flag_at text kinds starts sizes i ∷ flags_from text kinds starts sizes (i + 1) c

-- the array after the call: the flags of n tokens first, at most as many as it has room for; the rest as before
unfoldable pub marked : List ℕ → List ℕ → List ℕ → List ℕ → ℕ → List ℕ → List ℕ
marked text kinds starts sizes n before = sets before 0 (flags_from text kinds starts sizes 0 (min n L.TEXT))
