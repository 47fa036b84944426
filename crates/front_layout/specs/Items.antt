-- The arrays of items: codes, and the indices of the items' tokens. Assumes nothing.
use Rattle.std.specs.Prelude.{◌≡◌, List, [], ◌∷◌, map, ℕ, ◌+◌, length, set}
use Rattle.spec_grammar.specs.Token.{Token}
use Rattle.front_layout.specs.Tokens.{token_at}
use Rattle.front_layout.specs.Postfix.{Item, item_of}

-- the two arrays
pub record Arrays : Type 0 where
  pub codes : List ℕ
  pub tokens : List ℕ

abbrev pub arrays : List ℕ → List ℕ → Arrays
arrays cs is = record { codes = cs; tokens = is }

-- an item as the arrays have it: its code and the index of its token
pub record Placed : Type 0 where
  pub code : ℕ
  pub index : ℕ

-- the items stand in the arrays from index n on, all else is as it was
unfoldable pub store : ℕ → List Placed → Arrays → Arrays
store n [] b = b
store n (p ∷ ps) b = store (n + 1) ps (arrays (set b.codes n p.code) (set b.tokens n p.index))

-- the items that these are, among the tokens ts
abbrev pub item_at_index : List Token → Placed → Item
item_at_index ts p = item_of p.code (token_at ts p.index)

-- between n and m items these are written, and nothing else
pub record Wrote (ts : List Token) (n m : ℕ) (before after : Arrays) (items : List Item) : Type 0 where
  pub placed : List Placed
  pub count : m ≡ n + length placed
  pub are : map (item_at_index ts) placed ≡ items
  pub arrays : after ≡ store n placed before
