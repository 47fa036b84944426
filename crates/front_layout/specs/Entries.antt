-- Statements as a list in text order: of each its kind, its token, its expression's items, and how many statements it holds. Assumes nothing.
use Rattle.std.specs.Prelude.{List, [], ◌∷◌, ◌++◌, ℕ, ◌+◌, length}
use Rattle.base_codes.specs.Statement as S
use Rattle.spec_grammar.specs.Token.{Token}
use Rattle.spec_grammar.specs.Tree.{Stmt, output, assign, null, wait, if_then, if_else, while, Body, only, and_then}
use Rattle.front_layout.specs.Tokens.{no_token}
use Rattle.front_layout.specs.Postfix.{Item, postfix}

-- a statement: its kind, its token, its expression's items, how many statements its first part holds, and how many it holds in all
pub record Entry : Type 0 where
  pub kind : ℕ
  pub token : Token
  pub items : List Item
  pub part : ℕ
  pub inside : ℕ

abbrev pub entry : ℕ → Token → List Item → ℕ → ℕ → Entry
entry k x is p q = record { kind = k; token = x; items = is; part = p; inside = q }

-- The token: the target; the wait's name; `if`, `while`; null has none.
unfoldable mutual
  pub stmt_entries : Stmt → List Entry
  stmt_entries (output x e) = entry S.OUTPUT x (postfix e) 0 0 ∷ []
  stmt_entries (assign x e) = entry S.VARIABLE x (postfix e) 0 0 ∷ []
  stmt_entries null = entry S.NULL no_token [] 0 0 ∷ []
  stmt_entries (wait x) = entry S.WAIT x [] 0 0 ∷ []
  stmt_entries (if_then i e a) = entry S.IF i (postfix e) (length (body_entries a)) (length (body_entries a)) ∷ body_entries a
  stmt_entries (if_else i e a b) = entry S.IF i (postfix e) (length (body_entries a))
      (length (body_entries a) + length (body_entries b)) ∷ (body_entries a ++ body_entries b)
  stmt_entries (while w e a) = entry S.WHILE w (postfix e) (length (body_entries a)) (length (body_entries a)) ∷ body_entries a

  pub body_entries : Body → List Entry
  body_entries (only s) = stmt_entries s
  body_entries (and_then s b) = stmt_entries s ++ body_entries b

-- the items of all their expressions, in text order
unfoldable pub entry_items : List Entry → List Item
entry_items [] = []
entry_items (e ∷ es) = e.items ++ entry_items es

-- a statement's own entry, without those of the statements in it
unfoldable pub stmt_entry : Stmt → Entry
stmt_entry (output x e) = entry S.OUTPUT x (postfix e) 0 0
stmt_entry (assign x e) = entry S.VARIABLE x (postfix e) 0 0
stmt_entry null = entry S.NULL no_token [] 0 0
stmt_entry (wait x) = entry S.WAIT x [] 0 0
stmt_entry (if_then i e a) = entry S.IF i (postfix e) (length (body_entries a)) (length (body_entries a))
stmt_entry (if_else i e a b) = entry S.IF i (postfix e) (length (body_entries a)) (length (body_entries a) + length (body_entries b))
stmt_entry (while w e a) = entry S.WHILE w (postfix e) (length (body_entries a)) (length (body_entries a))
