-- What a reader of statements answers and writes, against the grammar's reader: as for expressions, and the rows written are the statements in text order. Assumes nothing.
use Rattle.std.specs.Prelude.{◌≡◌, List, ◌∷◌, ◌++◌, ℕ, ◌+◌, ◌≤◌, ◌<◌, eqb, length}
use Rattle.base_codes.specs.Statement as S
use Rattle.base_codes.specs.Token.{IF, THEN, WHILE}
use Rattle.spec_grammar.specs.Token.{Token}
use Rattle.spec_grammar.specs.Reader.{choose}
use Rattle.spec_grammar.specs.Tree.{Expr, Body}
use Rattle.spec_grammar.specs.Grammar.{NonTerminal, statement, expression, else_part, Says, stmt_fresh, deeper, Sym, tk, nt, Fun}
use Rattle.spec_grammar.specs.Meter.{InHeading}
use Rattle.spec_grammar.proofs.Steps.{Ok}
use Rattle.front_layout.specs.Tokens.{token_at, kind_in, Holds}
use Rattle.front_layout.specs.Items.{Arrays, Wrote}
use Rattle.front_layout.specs.Postfix.{postfix}
use Rattle.front_layout.specs.Entries.{Entry, entry, stmt_entries, body_entries}
use Rattle.front_layout.specs.Rows.{Output, WroteLines}
use Rattle.front_statements.specs.Listings.{ListingRead, HeadRead, from_listing, FineHeading, AsksListing, MovesListing}

-- from p to r the reader has read an M with a value, and written its statements behind those before
pub record ReadsLines (M : NonTerminal) (flat : Says M → List Entry) (ts : List Token) (depth : ℕ) (p r : ListingRead) (before after : Output) : Type 0 where
  pub value : Says M
  pub goes : (S : NonTerminal) (h : InHeading) → FineHeading h → (γ : List Sym) (κ : Says M → Fun γ (Says S)) → Ok (nt M ∷ γ)
      → from_listing ts S depth h p (nt M ∷ γ) κ ≡ from_listing ts S depth h r γ (κ value)
  pub wrote : r.cursor.fault ≡ 0 → WroteLines ts p.cursor.written p.statements r.cursor.written r.statements before after (flat value)

-- a statement, by which the reader gets further
pub record StatementOver (kinds long : List ℕ) (n : ℕ) (p : ListingRead) (depth : ℕ) (before : Output) (r : ListingRead) (after : Output) : Type 0 where
  pub moves : MovesListing n p r
  pub further : r.cursor.fault ≡ 0 → p.cursor.at < r.cursor.at
  pub reads : (ts : List Token) → Holds ts kinds long n → ReadsLines statement stmt_entries ts depth p r before after

-- over the arrays
pub record ReadsLinesOver (M : NonTerminal) (flat : Says M → List Entry) (kinds long : List ℕ) (n : ℕ) (p : ListingRead) (depth : ℕ) (before : Output) (r : ListingRead)
    (after : Output) : Type 0 where
  pub moves : MovesListing n p r
  pub reads : (ts : List Token) → Holds ts kinds long n → ReadsLines M flat ts depth p r before after

-- an else part that is there or not: extra are its statements, behind those of the first part
pub record ElseReads (ts : List Token) (depth : ℕ) (p r : ListingRead) (before after : Output) : Type 0 where
  pub value : Says else_part
  pub extra : List Entry
  pub shape : (i : Token) (e : Expr) (a : Body)
      → stmt_entries (value i e a) ≡ entry S.IF i (postfix e) (length (body_entries a)) (length (body_entries a) + length extra) ∷ (body_entries a ++ extra)
  pub goes : (S : NonTerminal) (h : InHeading) → FineHeading h → (γ : List Sym) (κ : Says else_part → Fun γ (Says S)) → Ok (nt else_part ∷ γ)
      → from_listing ts S depth h p (nt else_part ∷ γ) κ ≡ from_listing ts S depth h r γ (κ value)
  pub wrote : r.cursor.fault ≡ 0 → WroteLines ts p.cursor.written p.statements r.cursor.written r.statements before after extra

pub record ElseOver (kinds long : List ℕ) (n : ℕ) (p : ListingRead) (depth : ℕ) (before : Output) (r : ListingRead) (after : Output) : Type 0 where
  pub moves : MovesListing n p r
  pub reads : (ts : List Token) → Holds ts kinds long n → ElseReads ts depth p r before after

-- from p to r the opening of a nested statement was read, with a word behind its condition
pub record OpeningReads (kinds : List ℕ) (n : ℕ) (ts : List Token) (depth word : ℕ) (p : ListingRead) (r : HeadRead) (before after : Arrays) : Type 0 where
  pub value : Expr
  pub last : Token
  pub goes : (k : ℕ) → kind_in kinds n p.cursor.at ≡ k → (S : NonTerminal) (h : InHeading) → FineHeading h → (γ : List Sym)
      (κ : Token → Expr → Token → Fun γ (Says S)) → Ok (nt expression ∷ tk deeper word ∷ γ)
      → from_listing ts S depth h p (tk stmt_fresh k ∷ nt expression ∷ tk deeper word ∷ γ) κ
      ≡ from_listing ts S (depth + 1) h r.listing γ (κ (token_at ts p.cursor.at) value last)
  pub wrote : r.listing.cursor.fault ≡ 0 → Wrote ts p.cursor.written r.to before after (postfix value)

-- where it was read, one statement has begun, and the next ones may be nested in it
pub record Opened (depth : ℕ) (p : ListingRead) (r : HeadRead) : Type 0 where
  pub further : p.cursor.at < r.listing.cursor.at
  pub one : r.listing.statements ≡ p.statements + 1
  pub written : r.listing.cursor.written ≡ r.to
  pub shallow : depth ≤ 16

-- the word that opens a statement whose condition ends at a word
abbrev pub first_of : ℕ → ℕ
first_of word = choose (eqb word THEN) IF WHILE

pub record OpeningOver (kinds long : List ℕ) (n : ℕ) (p : ListingRead) (depth word : ℕ) (before : Arrays) (r : HeadRead) (after : Arrays) : Type 0 where
  pub first : kind_in kinds n p.cursor.at ≡ first_of word
  pub asks : AsksListing n p
  pub moves : MovesListing n p r.listing
  pub opened : r.listing.cursor.fault ≡ 0 → Opened depth p r
  pub reads : (ts : List Token) → Holds ts kinds long n → OpeningReads kinds n ts depth word p r before after
