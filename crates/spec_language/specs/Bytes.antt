-- Bytes of a text and their kinds; the fixed tokens of document 01. Assumes nothing.
use Rattle.std.specs.Prelude.{Bool, false, cond, not, ◌&&◌, ◌||◌, List, [], ◌∷◌, ◌++◌, ℕ, ◌+◌, eqb, leb}
use Prim.Native.Char.{code}
use Prim.Native.String as S
use Prim.Native.String.{String}
use Rattle.base_codes.specs.Token.{ZERO, ONE, LP, RP, SEMI, COLON, COMMA, BECOMES, PLUS, MINUS, EQ, NE, LT, LE, GT, GE, TIMES, DIVIDE}

-- the bytes of a quoted text; in these files it is ASCII
unfoldable pub bytes : String → List ℕ
bytes S.[] = []
bytes (S.◌∷◌ c s) = code c ∷ bytes s

unfoldable pub between : ℕ → ℕ → ℕ → Bool
between low high b = leb low b && leb b high

unfoldable pub elem : ℕ → List ℕ → Bool
elem b [] = false
elem b (c ∷ l) = eqb b c || elem b l

-- A fixed token, with its kind and its value.
pub record Fixed : Type 0 where
  pub bytes : List ℕ
  pub kind : ℕ
  pub value : ℕ

abbrev shown : String → ℕ → Fixed
shown s k = record { bytes = bytes s; kind = k; value = 0 }

abbrev bit : String → ℕ → ℕ → Fixed
bit s k v = record { bytes = bytes s; kind = k; value = v }

-- '0', '1' and the marks, "the longest taken first"
unfoldable pub fixed : List Fixed
fixed =
    bit "'0'" ZERO 0 ∷ bit "'1'" ONE 1 ∷
    shown ":=" BECOMES ∷ shown "/=" NE ∷ shown "<=" LE ∷ shown ">=" GE ∷
    shown "(" LP ∷ shown ")" RP ∷ shown ";" SEMI ∷ shown ":" COLON ∷ shown "," COMMA ∷ shown "+" PLUS ∷ shown "-" MINUS ∷ shown "=" EQ ∷ shown "<" LT ∷ shown ">" GT ∷ shown "*" TIMES ∷ shown "/" DIVIDE ∷ []

-- the bytes that stand in these
unfoldable pub bytes_of : List Fixed → List ℕ
bytes_of [] = []
bytes_of (f ∷ fs) = f.bytes ++ bytes_of fs

-- The seven kinds of byte. A byte of the kind none stands only in a comment.
pub data ByteKind : Type 0 where
  letter digit underscore blank quote mark none : ByteKind

-- "Blanks are space, tab, LF, CR"; letters are ASCII, of either case; a mark is any other byte of a fixed token
unfoldable pub byte_kind : ℕ → ByteKind
byte_kind b =
    cond (between 97 122 b || between 65 90 b) letter
    (cond (between 48 57 b) digit
    (cond (eqb b 95) underscore
    (cond (elem b (32 ∷ 9 ∷ 10 ∷ 13 ∷ [])) blank
    (cond (eqb b 39) quote
    (cond (elem b (bytes_of fixed)) mark none)))))

abbrev pub kind_code : ByteKind → ℕ
kind_code letter = 0
kind_code digit = 1
kind_code underscore = 2
kind_code blank = 3
kind_code quote = 4
kind_code mark = 5
kind_code none = 6

-- b is of the kind k
unfoldable pub is : ByteKind → ℕ → Bool
is k b = eqb (kind_code k) (kind_code (byte_kind b))

abbrev pub is_digit : ℕ → Bool
is_digit b = is digit b

abbrev pub is_under : ℕ → Bool
is_under b = is underscore b

-- "letters, digits and underscores"
unfoldable pub in_word : ℕ → Bool
in_word b = is letter b || (is_digit b || is_under b)

-- "-- opens a comment up to LF"
unfoldable pub not_lf : ℕ → Bool
not_lf b = not (eqb b 10)

-- "without regard to case": a capital as its small letter
unfoldable pub lower : ℕ → ℕ
lower b = cond (between 65 90 b) (b + 32) b
