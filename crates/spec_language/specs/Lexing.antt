-- What it means that a text has these tokens: it is pieces, one after the other, each the longest that there is at its place. Nothing here goes by a
-- way of reading. Assumes nothing.
use Rattle.std.specs.Prelude.{◌≡◌, Bool, true, false, cond, ◌&&◌, List, [], ◌∷◌, ◌++◌, ℕ, ◌+◌, eqb, length}
use Rattle.spec_grammar.specs.Token.{Token}
use Rattle.base_codes.specs.Token.{NUMBER}
use Rattle.spec_language.specs.Bytes.{ByteKind, letter, digit, underscore, blank, quote, mark, none, byte_kind, is_digit, in_word, not_lf, Fixed, fixed}
use Rattle.spec_language.specs.Words.{well_made, folded, value, reserved, word_kind, is_dashes}

-- what a string of bytes is: a gap (a blank, a comment); a token with kind and value; a malformed word; or nothing
pub data Meaning : Type 0 where
  gap : Meaning
  token : ℕ → ℕ → Meaning
  malformed : Meaning
  nothing : Meaning

unfoldable pub all : (ℕ → Bool) → List ℕ → Bool
all p [] = true
all p (b ∷ l) = p b && all p l

unfoldable pub equal : List ℕ → List ℕ → Bool
equal [] [] = true
equal [] (c ∷ v) = false
equal (b ∷ w) [] = false
equal (b ∷ w) (c ∷ v) = eqb b c && equal w v

-- a blank is one byte
unfoldable pub alone : List ℕ → Meaning
alone [] = gap
alone (b ∷ l) = nothing

-- "Reserved words are compared without regard to case, and so are names."
unfoldable pub word_meaning : List ℕ → Meaning
word_meaning w = cond (well_made false w) (token (word_kind reserved (folded 0 w)) (folded 0 w)) malformed

-- '0', '1' or a mark
unfoldable pub fixed_meaning : List Fixed → List ℕ → Meaning
fixed_meaning [] w = nothing
fixed_meaning (f ∷ fs) w = cond (equal f.bytes w) (token f.kind f.value) (fixed_meaning fs w)

-- by the kind of the first byte: "A word is .. letters, digits and underscores from a letter"; "digits only"; "-- opens a comment up to LF";
-- "Only words, literals and marks shown here are tokens"
unfoldable pub meaning_from : ByteKind → ℕ → List ℕ → Meaning
meaning_from letter b l = cond (all in_word l) (word_meaning (b ∷ l)) nothing
meaning_from digit b l = cond (all is_digit l) (token NUMBER (value 0 (b ∷ l))) nothing
meaning_from underscore b l = nothing
meaning_from blank b l = alone l
meaning_from quote b l = fixed_meaning fixed (b ∷ l)
meaning_from mark b l = cond (is_dashes b l) (cond (all not_lf l) gap nothing) (fixed_meaning fixed (b ∷ l))
meaning_from none b l = nothing

unfoldable pub meaning : List ℕ → Meaning
meaning [] = nothing
meaning (b ∷ l) = meaning_from (byte_kind b) b l

-- "the longest taken first": w is m, and w with more of what follows is nothing
pub record Piece (w rest : List ℕ) (m : Meaning) : Type 0 where
  pub is : meaning w ≡ m
  pub longest : (c : ℕ) (v r : List ℕ) → rest ≡ c ∷ (v ++ r) → meaning (w ++ (c ∷ v)) ≡ nothing

-- the bytes t, which stand at the place n, are these tokens
pub data Lexes : ℕ → List ℕ → List Token → Type 0 where
  end : {n : ℕ} → Lexes n [] []
  gap : {n : ℕ} {w rest : List ℕ} {ts : List Token} → Piece w rest Meaning.gap → Lexes (n + length w) rest ts → Lexes n (w ++ rest) ts
  token : {n k v : ℕ} {w rest : List ℕ} {ts : List Token} → Piece w rest (Meaning.token k v) → Lexes (n + length w) rest ts
      → Lexes n (w ++ rest) (record { kind = k; value = v; size = length w; place = n } ∷ ts)

-- refusal 2 at p, "byte that begins no token, malformed word": they are tokens up to p, and there no token begins, or a malformed word
pub data Stops : ℕ → List ℕ → ℕ → Type 0 where
  token_missing : {n b : ℕ} {l : List ℕ} → ((w r : List ℕ) → b ∷ l ≡ w ++ r → meaning w ≡ nothing) → Stops n (b ∷ l) n
  malformed : {n : ℕ} {w rest : List ℕ} → Piece w rest Meaning.malformed → Stops n (w ++ rest) n
  gap : {n p : ℕ} {w rest : List ℕ} → Piece w rest Meaning.gap → Stops (n + length w) rest p → Stops n (w ++ rest) p
  token : {n p k v : ℕ} {w rest : List ℕ} → Piece w rest (Meaning.token k v) → Stops (n + length w) rest p → Stops n (w ++ rest) p

-- "the token that starts at the place": u starts at p, the text being read from its beginning
pub data Starts : ℕ → List ℕ → ℕ → List ℕ → Type 0 where
  here : {n k v : ℕ} {w rest : List ℕ} → Piece w rest (Meaning.token k v) → Starts n (w ++ rest) n w
  gap : {n p : ℕ} {w rest u : List ℕ} → Piece w rest Meaning.gap → Starts (n + length w) rest p u → Starts n (w ++ rest) p u
  token : {n p k v : ℕ} {w rest u : List ℕ} → Piece w rest (Meaning.token k v) → Starts (n + length w) rest p u → Starts n (w ++ rest) p u
