-- Bytes, and little-endian numbers of two and four bytes. Assumes nothing.
use Rattle.std.specs.Prelude.{Bool, true, false, List, [], ◌∷◌, ℕ, ◌+◌, ◌*◌, ◌/◌, ◌%◌, ◌<◌, get_or}
use Rattle.std.proofs.Math.Option.{Option, none}

-- every element is a byte
unfoldable pub Bytes : List ℕ → Type 0
Bytes [] = Unit {0}
Bytes (k ∷ s) = (k < 256) × Bytes s

-- "Little-endian": the number of two bytes, the lowest first
abbrev pub word2 : ℕ → ℕ → ℕ
word2 a b = a + b * 256

-- the number of four bytes, the lowest first
abbrev pub word4 : ℕ → ℕ → ℕ → ℕ → ℕ
word4 a b c d = a + (b + (c + d * 256) * 256) * 256

-- the two bytes of a number
abbrev pub bytes2 : ℕ → List ℕ
bytes2 n = n % 256 ∷ n / 256 % 256 ∷ []

-- the four bytes of a number
abbrev pub bytes4 : ℕ → List ℕ
bytes4 n = n % 256 ∷ n / 256 % 256 ∷ n / 256 / 256 % 256 ∷ n / 256 / 256 / 256 % 256 ∷ []

-- the two-byte number at the byte k; a byte past the end counts as 0
abbrev pub word2_at : List ℕ → ℕ → ℕ
word2_at s k = word2 (get_or s k 0) (get_or s (k + 1) 0)

-- the four-byte number at the byte k
abbrev pub word4_at : List ℕ → ℕ → ℕ
word4_at s k = word4 (get_or s k 0) (get_or s (k + 1) 0) (get_or s (k + 2) 0) (get_or s (k + 3) 0)

-- x where the test holds, else none
abbrev pub only_if : {X : Type 0} → Bool → Option X → Option X
only_if true x = x
only_if false x = none
