-- Where the reader of a text stands between its parts, and runs of tokens of given kinds. Assumes nothing.
use Rattle.std.specs.Prelude.{Bool, true, ◌&&◌, List, [], ◌∷◌, ◌++◌, ℕ, ◌+◌, ltb}
use Rattle.spec_grammar.specs.Token.{Token}
use Rattle.spec_grammar.specs.Grammar.{NonTerminal, Says, Sym, tok, Fun}
use Rattle.front_layout.specs.Tokens.{token_at}
use Rattle.front_cursor.specs.Reading.{Read, expect_one}
use Rattle.front_declarations.specs.Headers.{HeaderRead}

-- before the first token
abbrev pub start : Read
start = record { fault = 0; at = 0; items = 0; written = 0 }

-- where the cursor is, with nothing declared
abbrev pub heading_at : Read → HeaderRead
heading_at q = record { cursor = q; waiting = 0; inputs = 0; outputs = 0; vars = 0 }

-- tokens of these kinds are taken, one after another
unfoldable pub expect_all : List ℕ → List ℕ → ℕ → List ℕ → Read → Read
expect_all kinds long n [] q = q
expect_all kinds long n (k ∷ ks) q = expect_all kinds long n ks (expect_one kinds long n k q)

-- no kind is 0, the kind of no token
abbrev pub positive : List ℕ → Bool
positive [] = true
positive (k ∷ ks) = ltb 0 k && positive ks

-- the symbols of such a run
abbrev pub toks : List ℕ → List Sym
toks [] = []
toks (k ∷ ks) = tok k ∷ toks ks

-- what comes after a run is given its tokens, from an index on
abbrev pub feed : (ts : List Token) (at : ℕ) (S : NonTerminal) (γ : List Sym) (ks : List ℕ) → Fun (toks ks ++ γ) (Says S) → Fun γ (Says S)
feed ts at S γ [] κ = κ
feed ts at S γ (k ∷ ks) κ = feed ts (at + 1) S γ ks (κ (token_at ts at))
