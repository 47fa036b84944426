-- The array of statements: a row of numbers for each. Assumes nothing.
use Rattle.std.specs.Prelude.{◌≡◌, List, [], ◌∷◌, map, ℕ, ◌+◌, ◌*◌, length, set}
use Rattle.base_codes.specs.Statement.{ROW, TOKEN, FROM, TO, OTHER, END}
use Rattle.spec_grammar.specs.Token.{Token}
use Rattle.front_layout.specs.Tokens.{token_at}
use Rattle.front_layout.specs.Items.{Arrays, Wrote}
use Rattle.front_layout.specs.Entries.{Entry, entry_items}

-- a statement as the array has it: kind, index of its token (16384 for none), its items from and to, its second part's first statement, the one after its last
pub record Row : Type 0 where
  pub kind : ℕ
  pub index : ℕ
  pub from : ℕ
  pub to : ℕ
  pub other : ℕ
  pub end : ℕ

abbrev pub row : ℕ → ℕ → ℕ → ℕ → ℕ → ℕ → Row
row k i m m' o e = record { kind = k; index = i; from = m; to = m'; other = o; end = e }

-- the same with the token itself
pub record Line : Type 0 where
  pub kind : ℕ
  pub token : Token
  pub from : ℕ
  pub to : ℕ
  pub other : ℕ
  pub end : ℕ

abbrev pub seen : List Token → Row → Line
seen ts r = record { kind = r.kind; token = token_at ts r.index; from = r.from; to = r.to; other = r.other; end = r.end }

-- the statements from number s on, where m items were written before
unfoldable pub lines_from : ℕ → ℕ → List Entry → List Line
lines_from s m [] = []
lines_from s m (e ∷ es) =
    record { kind = e.kind; token = e.token; from = m; to = m + length e.items; other = s + 1 + e.part; end = s + 1 + e.inside } ∷ lines_from (s + 1)
    (m + length e.items) es

-- row s is stored
unfoldable pub set_row : ℕ → Row → List ℕ → List ℕ
set_row s r l =
    set (set (set (set (set (set l (ROW * s) r.kind) (ROW * s + TOKEN) r.index) (ROW * s + FROM) r.from) (ROW * s + TO) r.to) (ROW * s + OTHER)
    r.other)
    (ROW * s + END) r.end

-- the rows stand in the array from row s on, all else is as it was
unfoldable pub store_rows : ℕ → List Row → List ℕ → List ℕ
store_rows s [] l = l
store_rows s (r ∷ rs) l = store_rows (s + 1) rs (set_row s r l)

-- all that is written: the arrays of items and the array of statements
pub record Output : Type 0 where
  pub items : Arrays
  pub rows : List ℕ

abbrev pub output : Arrays → List ℕ → Output
output a l = record { items = a; rows = l }

-- between s and s' statements, and between m and m' items, these are written, and nothing else
pub record WroteLines (ts : List Token) (m s m' s' : ℕ) (before after : Output) (es : List Entry) : Type 0 where
  pub items : Wrote ts m m' before.items after.items (entry_items es)
  pub rows : List Row
  pub count : s' ≡ s + length es
  pub are : map (seen ts) rows ≡ lines_from s m es
  pub stored : after.rows ≡ store_rows s rows before.rows
