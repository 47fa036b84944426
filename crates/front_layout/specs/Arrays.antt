-- The arrays of a parsed text, by position: what stands at each index, and which lists the arrays hold. Assumes nothing.
use Rattle.std.specs.Prelude.{◌≡◌, List, [], ◌∷◌, map, ℕ, zero, suc, ◌+◌, ◌*◌, ◌≤◌, ◌<◌, ltb, length, get_or}
use Rattle.base_codes.specs.Statement as S
use Rattle.base_codes.specs.Limit as L
use Rattle.spec_grammar.specs.Token.{Token}
use Rattle.base_codes.specs.Token.{NAME}
use Rattle.spec_grammar.specs.Reader.{choose}
use Rattle.spec_language.specs.Declarations.{Decl}
use Rattle.spec_language.specs.Elaboration.{position}
use Rattle.front_layout.specs.Tokens.{token_at}
use Rattle.front_layout.specs.Postfix.{Item}
use Rattle.front_layout.specs.Items.{Placed, item_at_index}
use Rattle.front_layout.specs.Entries.{Entry}
use Rattle.front_layout.specs.Rows.{Row, row, seen, lines_from}

-- the number at an index of an array of which n elements count; 0 past them
abbrev pub number_in : List ℕ → ℕ → ℕ → ℕ
number_in l n i = choose (ltb i n) (choose (ltb i L.TEXT) (get_or l i 0) 0) 0

-- Tokens: the arrays hold the kinds and places of n tokens
pub record TokensIn (ts : List Token) (kinds places : List ℕ) (n : ℕ) : Type 0 where
  pub count : length ts ≡ n
  pub short : n ≤ L.TEXT
  pub kind : (i : ℕ) → i < n → get_or kinds i 0 ≡ (token_at ts i).kind
  pub place : (i : ℕ) → i < n → get_or places i 0 ≡ (token_at ts i).place

-- Owners: at each name's index the number of the declaration that it stands for, the first of that name; past the last for none
pub record OwnersIn (ts : List Token) (Δ : List Decl) (owners : List ℕ) (n : ℕ) : Type 0 where
  pub owner : (i : ℕ) → i < n → (token_at ts i).kind ≡ NAME → get_or owners i 0 ≡ position Δ (token_at ts i).value

-- Items: those from index m on, c of them
unfoldable pub placed_from : List ℕ → List ℕ → ℕ → ℕ → List Placed
placed_from codes indices m zero = []
placed_from codes indices m (suc c) = record { code = get_or codes m 0; index = get_or indices m 0 } ∷ placed_from codes indices (m + 1) c

-- the arrays hold k items, which are these
pub record ItemsIn (ts : List Token) (is : List Item) (codes indices : List ℕ) (k : ℕ) : Type 0 where
  pub count : length is ≡ k
  pub short : k ≤ L.TEXT
  pub are : map (item_at_index ts) (placed_from codes indices 0 k) ≡ is

-- Statements: row j of six numbers, and those from row j on, c of them
abbrev pub row_in : List ℕ → ℕ → Row
row_in rows j =
    row (get_or rows (S.ROW * j) 0) (get_or rows (S.ROW * j + S.TOKEN) 0) (get_or rows (S.ROW * j + S.FROM) 0) (get_or rows (S.ROW * j + S.TO) 0)
    (get_or rows (S.ROW * j + S.OTHER) 0) (get_or rows (S.ROW * j + S.END) 0)

unfoldable pub rows_from : List ℕ → ℕ → ℕ → List Row
rows_from rows j zero = []
rows_from rows j (suc c) = row_in rows j ∷ rows_from rows (j + 1) c

-- the array holds s statements, which are these
pub record RowsIn (ts : List Token) (es : List Entry) (rows : List ℕ) (s : ℕ) : Type 0 where
  pub count : length es ≡ s
  pub short : s ≤ L.STATEMENTS
  pub are : map (seen ts) (rows_from rows 0 s) ≡ lines_from 0 0 es
