-- What refusals 3 and 4 mean for a list of tokens, in terms of the texts that begin with them; nothing here goes by a way of reading.
-- A place is the index of a token, or the count of the tokens for the text's end. Assumes nothing.
use Rattle.std.specs.Prelude.{◌≡◌, List, ◌++◌, ℕ, suc, ◌≤◌, ◌<◌, T, length, take}
use Rattle.spec_grammar.specs.Token.{Token}
use Rattle.spec_grammar.specs.Tree.{Text}
use Rattle.spec_grammar.specs.Grammar.{text, Mark}
use Rattle.spec_grammar.specs.Meter.{zeroes, over, gauge}
use Rattle.spec_grammar.specs.Derivation.{Reads}

-- some text begins with these tokens
pub record Begins (w : List Token) : Type 0 where
  pub later : List Token
  pub marks : List Mark
  pub whole : Text
  pub reads : Reads text (w ++ later) marks whole

-- "token that passes it": some text begins with these tokens, and in it the counts are over a limit after the last of them
pub record Passes (w : List Token) : Type 0 where
  pub begins : Begins w
  pub over_here : T (over (gauge zeroes w begins.marks))

-- no token before k passes a limit
abbrev pub Within : List Token → ℕ → Type 0
Within ts k = (j : ℕ) → j < k → Passes (take (suc j) ts) → ⊥

-- "first token that cannot continue, or text length": a text begins with the tokens before k; with token k none does or, at the end, they are no text themselves
pub record Stops (ts : List Token) (k : ℕ) : Type 0 where
  pub in_range : k ≤ length ts
  pub so_far : Begins (take k ts)
  pub no_further : k < length ts → Begins (take (suc k) ts) → ⊥
  pub unfinished : k ≡ length ts → (es : List Mark) (v : Text) → Reads text ts es v → ⊥

-- a tree; refusal 3 at k; refusal 4 at k
pub data Answer : Type 0 where
  accepted : Text → Answer
  no_sentence : ℕ → Answer
  past_limit : ℕ → Answer

-- "3 and 4 are a single stage, with 3 first at one token": a token that cannot continue passes no limit, as no text begins with it.
-- Accepted: the tokens are a text that says v, and none passes a limit. 3 at k, 4 at k: no token before k passes a limit.
abbrev pub Exactly : List Token → Answer → Type 0
Exactly ts (accepted v) = (es : List Mark) × Reads text ts es v × Within ts (length ts)
Exactly ts (no_sentence k) = Stops ts k × Within ts k
Exactly ts (past_limit k) = (k < length ts) × Passes (take (suc k) ts) × Within ts k
