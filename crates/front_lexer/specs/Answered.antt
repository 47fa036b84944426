-- What the three answers of lexing mean. Assumes nothing.
use Rattle.std.specs.Prelude.{◌≡◌, List, ℕ, ◌≤◌, ◌<◌, Result, Ok, Err, length}
use Rattle.base_answers.specs.declared.Refusal.{Refusal}
use Rattle.base_answers.specs.declared.Refusal.TheVariants.{TextTooLong, NoToken}
use Rattle.spec_grammar.specs.Token.{Token}
use Rattle.spec_language.specs.Lexing.{Lexes, Stops}
use Rattle.front_lexer.specs.Tokens.{found}

-- the text has these tokens, and they are what is written; or it is refused by row 1, "text too long", or by row 2, "byte that begins no token, malformed word"
pub data Answered (text : List ℕ) : Result ℕ Refusal → Type 0 where
  read : (ts : List Token) → length text ≤ 16384 → Lexes 0 text ts → found text ≡ ts → Answered text (Ok (length ts))
  too_long : 16384 < length text → Answered text (Err TextTooLong)
  stops : (p : ℕ) → length text ≤ 16384 → Stops 0 text p → Answered text (Err (NoToken p))
