-- Words and numbers of document 01. Assumes nothing.
use Rattle.std.specs.Prelude.{Bool, cond, not, ◌&&◌, List, [], ◌∷◌, ℕ, ◌+◌, ◌*◌, ◌-◌, min, eqb}
use Prim.Native.String.{String}
use Rattle.base_codes.specs.Token.{NAME, AND, OR, XOR, NOT, MOD, REM}
use Rattle.base_codes.specs.Token.{ENTITY, IS, PORT, END, ARCHITECTURE, OF, BEGIN, PROCESS, IN, OUT, VARIABLE, NULL, WAIT, UNTIL, IF, THEN, ELSE, WHILE, LOOP, STD_LOGIC, INTEGER}
use Rattle.spec_language.specs.Bytes.{bytes, is_under, lower}

-- "no doubled or last underscore"; u says that an underscore stands before
unfoldable pub well_made : Bool → List ℕ → Bool
well_made u [] = not u
well_made u (b ∷ l) = not (u && is_under b) && well_made (is_under b) l

-- "compared without regard to case": a word folded to lower case, as one number, its bytes being the digits to base 256.
-- Two words have one number exactly when they are the same without regard to case (proofs/Folding.antt).
unfoldable pub folded : ℕ → List ℕ → ℕ
folded v [] = v
folded v (b ∷ l) = folded (v * 256 + lower b) l

-- a number's value, or 2147483648 where it is above that; 48 is the byte of 0
unfoldable pub value : ℕ → List ℕ → ℕ
value v [] = v
value v (b ∷ l) = value (min (v * 10 + (b - 48)) 2147483648) l

pub record Word : Type 0 where
  pub bytes : List ℕ
  pub kind : ℕ

abbrev word : String → ℕ → Word
word s k = record { bytes = bytes s; kind = k }

-- "Reserved are the words shown below, the operator words and both type names"
unfoldable pub reserved : List Word
reserved =
    word "entity" ENTITY ∷ word "is" IS ∷ word "port" PORT ∷ word "end" END ∷ word "architecture" ARCHITECTURE ∷ word "of" OF ∷
    word "begin" BEGIN ∷ word "process" PROCESS ∷ word "in" IN ∷ word "out" OUT ∷ word "variable" VARIABLE ∷ word "null" NULL ∷
    word "wait" WAIT ∷ word "until" UNTIL ∷ word "if" IF ∷ word "then" THEN ∷ word "else" ELSE ∷ word "while" WHILE ∷ word "loop" LOOP ∷
    word "and" AND ∷ word "or" OR ∷ word "xor" XOR ∷ word "not" NOT ∷ word "mod" MOD ∷ word "rem" REM ∷ word "std_logic" STD_LOGIC ∷ word "integer" INTEGER ∷ []

-- the kind of a word, by its folded number: that of its reserved word, else a name
unfoldable pub word_kind : List Word → ℕ → ℕ
word_kind [] v = NAME
word_kind (w ∷ ws) v = let r = word_kind ws v in cond (eqb (folded 0 w.bytes) v) w.kind r

-- the byte after
unfoldable pub peek : List ℕ → ℕ
peek [] = 0
peek (b ∷ l) = b

-- "--": two of the byte 45
unfoldable pub is_dashes : ℕ → List ℕ → Bool
is_dashes b l = eqb b 45 && eqb (peek l) 45
