-- The tokens of a text and their bytes, beside the array of their sizes. Assumes nothing.
use Rattle.std.specs.Prelude.{◌≡◌, List, ℕ, ◌<◌, get_or}
use Rattle.spec_grammar.specs.Token.{Token}
use Rattle.spec_grammar.specs.Limits.{Each}
use Rattle.front_lexer.specs.TokenValues.{Valued}
use Rattle.front_layout.specs.Tokens.{token_at}

-- the tokens are those of the text: the array has their sizes, and each token's value is that of its bytes
pub record WordsIn (text : List ℕ) (ts : List Token) (sizes : List ℕ) (n : ℕ) : Type 0 where
  pub size : (i : ℕ) → i < n → get_or sizes i 0 ≡ (token_at ts i).size
  pub valued : Each (Valued text) ts
