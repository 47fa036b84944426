-- The executable lexer: bytes to tokens, and the token at a place. Not to be believed: proofs/LexExact.antt and proofs/TokenAt.antt show that it
-- answers what Lexing.antt says. Assumes nothing.
use Rattle.std.specs.Prelude.{Bool, true, false, cond, ◌&&◌, List, [], ◌∷◌, ℕ, zero, suc, pred, eqb, length, take}
use Rattle.spec_grammar.specs.Token.{Token}
use Rattle.base_codes.specs.Token.{NUMBER}
use Rattle.spec_language.specs.Bytes.{ByteKind, letter, digit, underscore, blank, quote, mark, none, byte_kind, is_digit, in_word, not_lf, Fixed, fixed}
use Rattle.spec_language.specs.Words.{well_made, folded, value, reserved, word_kind, is_dashes}

-- the longest run from here
unfoldable pub run : (ℕ → Bool) → List ℕ → List ℕ
run p [] = []
run p (b ∷ l) = let r = b ∷ run p l in cond (p b) r []

-- t begins with w
unfoldable pub begins : List ℕ → List ℕ → Bool
begins [] t = true
begins (b ∷ w) [] = false
begins (b ∷ w) (c ∷ t) = let r = begins w t in eqb b c && r

-- what starts at a place: a gap of so many bytes; a token with kind, value and size; no token
pub data Start : Type 0 where
  gap : ℕ → Start
  lexeme : ℕ → ℕ → ℕ → Start
  unknown : Start

-- the first of the list that t begins with
unfoldable pub fixed_start : List Fixed → List ℕ → Start
fixed_start [] t = unknown
fixed_start (f ∷ fs) t = let r = fixed_start fs t in cond (begins f.bytes t) (lexeme f.kind f.value (length f.bytes)) r

unfoldable pub word_start : List ℕ → Start
word_start w = cond (well_made false w) (lexeme (word_kind reserved (folded 0 w)) (folded 0 w) (length w)) unknown

unfoldable pub number_start : List ℕ → Start
number_start w = lexeme NUMBER (value 0 w) (length w)

-- by the kind of the byte
unfoldable pub start_from : ByteKind → ℕ → List ℕ → Start
start_from letter b l = word_start (b ∷ run in_word l)
start_from digit b l = number_start (b ∷ run is_digit l)
start_from underscore b l = unknown
start_from blank b l = gap 1
start_from quote b l = fixed_start fixed (b ∷ l)
start_from mark b l = let comment = gap (suc (length (run not_lf l))) in let other = fixed_start fixed (b ∷ l) in cond (is_dashes b l) comment other
start_from none b l = unknown

unfoldable pub start_of : ℕ → List ℕ → Start
start_of b l = start_from (byte_kind b) b l

-- all tokens, or refusal 2 with its place
pub data Lexed : Type 0 where
  tokens : List Token → Lexed
  malformed : ℕ → Lexed

unfoldable pub ◌▸◌ : Token → Lexed → Lexed
◌▸◌ x (tokens ts) = tokens (x ∷ ts)
◌▸◌ x (malformed p) = malformed p

unfoldable pub on_start : Start → ℕ → (ℕ → Lexed) → Lexed
on_start (gap k) n f = f (pred k)
on_start (lexeme k v s) n f = ◌▸◌ (record { kind = k; value = v; size = s; place = n }) (f (pred s))
on_start unknown n f = malformed n

-- the bytes from n on, of which the first k are passed over
unfoldable pub lex_from : List ℕ → ℕ → ℕ → Lexed
lex_from [] k n = tokens []
lex_from (b ∷ l) zero n = on_start (start_of b l) n (λ k. lex_from l k (suc n))
lex_from (b ∷ l) (suc k) n = lex_from l k (suc n)

unfoldable pub lex : List ℕ → Lexed
lex text = lex_from text 0 0

-- "the token that starts at the place is handed out as that part of the text, or an empty part where none starts; a malformed word is no token"
unfoldable pub on_token : Start → ℕ → ℕ → List ℕ → (ℕ → List ℕ) → List ℕ
on_token (gap k) n p t f = f (pred k)
on_token (lexeme k v s) n p t f = let r = f (pred s) in cond (eqb n p) (take s t) r
on_token unknown n p t f = []

unfoldable pub token_from : List ℕ → ℕ → ℕ → ℕ → List ℕ
token_from [] k n p = []
token_from (b ∷ l) zero n p = on_token (start_of b l) n p (b ∷ l) (λ k. token_from l k (suc n) p)
token_from (b ∷ l) (suc k) n p = token_from l k (suc n) p

unfoldable pub token_at : List ℕ → ℕ → List ℕ
token_at text p = token_from text 0 0 p
