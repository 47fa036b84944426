-- What holds of each token of a text: it lies in the text, and its kind and value are those of its bytes. Assumes nothing.
use Rattle.std.specs.Prelude.{◌≡◌, Bool, true, cond, List, map, ℕ, ◌+◌, ◌≤◌, ◌<◌, eqb, length}
use Rattle.spec_grammar.specs.Token.{Token}
use Rattle.base_codes.specs.Token.{one_of, NAME, NUMBER, ONE}
use Rattle.spec_language.specs.Bytes.{fixed, in_word}
use Rattle.spec_language.specs.Words.{folded, value}
use Rattle.spec_language.specs.Lexing.{Meaning, all, meaning}
use Rattle.front_token.specs.Places.{part}

-- the kinds of '0', '1' and the marks: those of the fixed tokens
abbrev pub is_fixed : ℕ → Bool
is_fixed k = one_of k (map (λ f. f.kind) fixed)

-- the value of a token of the kind k that has the bytes w: a number's value, 1 for '1', 0 for '0' and the marks, a word's folded number
unfoldable pub token_value : ℕ → List ℕ → ℕ
token_value k w = cond (eqb k NUMBER) (value 0 w) (cond (is_fixed k) (cond (eqb k ONE) 1 0) (folded 0 w))

-- the token has a byte, lies in the text, means what its kind and value say, has the value of its bytes, and a name's bytes are those of a word
pub record Valued (text : List ℕ) (t : Token) : Type 0 where
  pub some : 0 < t.size
  pub inside : t.place + t.size ≤ length text
  pub means : meaning (part text t.place t.size) ≡ Meaning.token t.kind t.value
  pub value : t.value ≡ token_value t.kind (part text t.place t.size)
  pub word : t.kind ≡ NAME → all in_word (part text t.place t.size) ≡ true
