-- A text's tokens as arrays: what the arrays must hold so that a reader over them reads the tokens. Assumes nothing.
use Rattle.std.specs.Prelude.{ℕ, ◌<◌, ◌≡◌, Bool, List, length, get_or, ltb, eqb}
use Rattle.spec_grammar.specs.Token.{Token}
use Rattle.spec_grammar.specs.Grammar.{plain}
use Rattle.spec_grammar.specs.Meter.{zeroes, tick, over}
use Rattle.spec_grammar.specs.Reader.{choose}

-- what stands past the last token: a token of no kind
abbrev pub no_token : Token
no_token = record { kind = 0; value = 0; size = 0; place = 0 }

-- the token at an index
abbrev pub token_at : List Token → ℕ → Token
token_at ts i = get_or ts i no_token

-- "name 32 bytes", "literal 2147483647": the token passes one of these two limits, wherever it stands
unfoldable pub alone : Token → Bool
alone x = over (tick zeroes plain x)

-- the kind at an index of an array of n kinds, 0 past the end
abbrev pub kind_in : List ℕ → ℕ → ℕ → ℕ
kind_in kinds n at = choose (ltb at n) (get_or kinds at 0) 0

-- the flag at an index is set
abbrev pub flag_in : List ℕ → ℕ → Bool
flag_in long at = eqb (get_or long at 0) 1

-- the arrays hold n tokens: their kinds, and a 1 where the token passes a limit wherever it stands
pub record Holds (ts : List Token) (kinds long : List ℕ) (n : ℕ) : Type 0 where
  pub count : length ts ≡ n
  pub kind : (i : ℕ) → i < n → get_or kinds i 0 ≡ (token_at ts i).kind
  pub flag : (i : ℕ) → i < n → flag_in long i ≡ alone (token_at ts i)
