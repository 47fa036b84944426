-- Which statements stand in the rows from one number up to another. Assumes nothing.
use Rattle.std.specs.Prelude.{◌≡◌, List, [], ◌∷◌, ℕ, ◌+◌, ◌*◌, length, get_or}
use Rattle.base_codes.specs.Statement as S
use Rattle.spec_grammar.specs.Token.{Token}
use Rattle.spec_grammar.specs.Tree.{Stmt}
use Rattle.front_layout.specs.Tokens.{token_at}
use Rattle.front_layout.specs.Entries.{Entry, stmt_entries}
use Rattle.front_layout.specs.Arrays.{TokensIn}
use Rattle.front_classes.specs.declared.Summary.{Summary}
use Rattle.front_classes.specs.Lists.{list_entries, of_statement, of_list}

-- number k of row j: 0 kind, 1 index of its token, 4 first of its second part, 5 the one after its last
abbrev pub number_of : List ℕ → ℕ → ℕ → ℕ
number_of rows j k = get_or rows (S.ROW * j + k) 0

-- row j is this statement's
pub record RowIs (ts : List Token) (rows : List ℕ) (j : ℕ) (e : Entry) : Type 0 where
  pub kind : number_of rows j 0 ≡ e.kind
  pub token : token_at ts (number_of rows j S.TOKEN) ≡ e.token
  pub other : number_of rows j S.OTHER ≡ j + 1 + e.part
  pub end : number_of rows j S.END ≡ j + 1 + e.inside

-- the rows from j on are these statements'
abbrev pub RowsAre : List Token → List ℕ → ℕ → List Entry → Type 0
RowsAre ts rows j [] = Unit {0}
RowsAre ts rows j (e ∷ es) = RowIs ts rows j e × RowsAre ts rows (j + 1) es

-- the arrays hold a text's tokens, and the rows from one number up to another are these statements'
pub record RowsHeld (ts : List Token) (kinds places : List ℕ) (n : ℕ) (rows : List ℕ) (from to : ℕ) (es : List Entry) : Type 0 where
  pub tokens : TokensIn ts kinds places n
  pub are : RowsAre ts rows from es
  pub count : to ≡ from + length es

-- what is to be found of rows, for whatever statements stand in them: of one statement, and of a list
pub record StatementFound (rows places : List ℕ) (n at end : ℕ) (r : Summary) : Type 0 where
  pub is : (ts : List Token) (kinds : List ℕ) (s : Stmt) → RowsHeld ts kinds places n rows at end (stmt_entries s) → r ≡ of_statement s

pub record BlockFound (rows places : List ℕ) (n from to : ℕ) (r : Summary) : Type 0 where
  pub is : (ts : List Token) (kinds : List ℕ) (l : List Stmt) → RowsHeld ts kinds places n rows from to (list_entries l) → r ≡ of_list l
