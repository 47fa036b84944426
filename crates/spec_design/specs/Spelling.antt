-- Names and numbers as bytes: what a writer of names or a printer of numbers writes of them. Assumes nothing.
use Rattle.std.specs.Prelude.{cond, List, [], ◌∷◌, ◌++◌, ℕ, zero, suc, ◌+◌, ◌/◌, ◌%◌, eqb, ltb}

-- "Reserved words are compared without regard to case, and so are names": a name's number has its folded bytes as digits to base 256; the last n of them, in front of l
unfoldable pub digits : ℕ → ℕ → List ℕ → List ℕ
digits zero v l = l
digits (suc n) v l = let r = digits n (v / 256) (v % 256 ∷ l) in cond (eqb v 0) l r

-- "name 32 bytes": the bytes of a name in lower case, from its number
unfoldable pub name_bytes : ℕ → List ℕ
name_bytes v = digits 32 v []

-- a number's decimal digits, of which there are at most f and one more; 48 is the byte of 0
unfoldable pub decimal_by : ℕ → ℕ → List ℕ
decimal_by zero n = (48 + n) ∷ []
decimal_by (suc f) n = cond (ltb n 10) ((48 + n) ∷ []) (decimal_by f (n / 10) ++ ((48 + n % 10) ∷ []))

-- a number in decimals: 20 digits are enough for every number of 64 bits
abbrev pub decimal : ℕ → List ℕ
decimal n = decimal_by 19 n
