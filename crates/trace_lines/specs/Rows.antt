-- The rows of a file's bytes, and the decimals of a row (document 01, "The trace of tally"). Assumes nothing.
use Rattle.std.specs.Prelude.{Option, None, Some, cond, List, [], ◌∷◌, ℕ, ◌+◌, ◌*◌, ◌-◌, ℤ, pos, neg_ℤ, eqb, leb}
use Rattle.spec_language.specs.Bytes.{between}

-- the first of the parts begins with the byte b
abbrev pub longer : ℕ → List (List ℕ) → List (List ℕ)
longer b [] = (b ∷ []) ∷ []
longer b (w ∷ ws) = (b ∷ w) ∷ ws

-- the parts that the byte c ends; where nothing is left, the parts e
unfoldable pub split : ℕ → List (List ℕ) → List ℕ → List (List ℕ)
split c e [] = e
split c e (b ∷ l) = cond (eqb b c) ([] ∷ split c e l) (longer b (split c e l))

-- "LF ends a row, and a last line without LF counts if it has bytes"
abbrev pub rows_in : List ℕ → List (List ℕ)
rows_in s = split 10 [] s

-- "parted by one space": what stands between spaces, and before and behind them
abbrev pub parted : List ℕ → List (List ℕ)
parted s = split 32 ([] ∷ []) s

-- the number of digits, v standing before them, however large; none where a byte is no digit
unfoldable pub digits : ℕ → List ℕ → Option ℕ
digits v [] = Some v
digits v (b ∷ l) = cond (between 48 57 b) (digits (v * 10 + (b - 48)) l) None

-- "digits": at least one
unfoldable pub magnitude : List ℕ → Option ℕ
magnitude [] = None
magnitude (b ∷ l) = digits 0 (b ∷ l)

-- an integer that is not below zero; "a decimal outside integer counts as 14", as an unreadable one does
abbrev pub upward : Option ℕ → Option ℤ
upward None = None
upward (Some m) = cond (leb m 2147483647) (Some (pos m)) None

-- the integer after `-`
abbrev pub downward : Option ℕ → Option ℤ
downward None = None
downward (Some m) = cond (leb m 2147483648) (Some (neg_ℤ (pos m))) None

-- "digits, perhaps after `-`"; 45 is the byte of `-`
unfoldable pub decimal_of : List ℕ → Option ℤ
decimal_of [] = None
decimal_of (b ∷ l) = cond (eqb b 45) (downward (magnitude l)) (upward (magnitude (b ∷ l)))

abbrev pub before : Option ℤ → Option (List ℤ) → Option (List ℤ)
before None r = None
before (Some z) None = None
before (Some z) (Some l) = Some (z ∷ l)

-- the decimals of the parts; none where one is unreadable
unfoldable pub all : List (List ℕ) → Option (List ℤ)
all [] = Some []
all (w ∷ ws) = before (decimal_of w) (all ws)

-- "Each row is a line of decimals .. parted by one space"; an empty line is a row of no decimals
unfoldable pub decimals : List ℕ → Option (List ℤ)
decimals [] = Some []
decimals (b ∷ l) = all (parted (b ∷ l))
