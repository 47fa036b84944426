-- What the grammar allows: its derivation trees, the tokens that such a tree spans, and what it says. Nothing here goes by a way of reading. Assumes nothing.
use Rattle.std.specs.Prelude.{◌≡◌, List, [], ◌∷◌, ◌++◌, ℕ}
use Rattle.spec_grammar.specs.Token.{Token}
use Rattle.spec_grammar.specs.Grammar.{NonTerminal, Says, Mark, Sym, tk, nt, Fun, Production, productions}

infix 30 ◌∈◌
-- a production is one of a list
pub data ◌∈◌ {M : NonTerminal} (r : Production M) : List (Production M) → Type 0 where
  here : {rs : List (Production M)} → r ∈ (r ∷ rs)
  there : {q : Production M} {rs : List (Production M)} → r ∈ rs → r ∈ (q ∷ rs)

mutual
  -- a nonterminal is derived by one of its productions
  pub data Tree : NonTerminal → Type 0 where
    by : {M : NonTerminal} (r : Production M) → r ∈ productions M → Trees r.rhs → Tree M

  -- a right-hand side is derived symbol by symbol
  pub data Trees : List Sym → Type 0 where
    empty : Trees []
    token : {m : Mark} {k : ℕ} {γ : List Sym} (x : Token) → x.kind ≡ k → Trees γ → Trees (tk m k ∷ γ)
    child : {M : NonTerminal} {γ : List Sym} → Tree M → Trees γ → Trees (nt M ∷ γ)

-- the tokens that a tree spans
unfoldable mutual
  pub span : {M : NonTerminal} → Tree M → List Token
  span (by r m ds) = spans ds

  pub spans : {γ : List Sym} → Trees γ → List Token
  spans empty = []
  spans (token x e ds) = x ∷ spans ds
  spans (child d ds) = span d ++ spans ds

-- and their marks
unfoldable mutual
  pub mark : {M : NonTerminal} → Tree M → List Mark
  mark (by r m ds) = marks ds

  pub marks : {γ : List Sym} → Trees γ → List Mark
  marks empty = []
  marks (token {m} x e ds) = m ∷ marks ds
  marks (child d ds) = mark d ++ marks ds

-- what it says: its production's function, at what its children say; S is the nonterminal that the function is for
unfoldable mutual
  pub says : {M : NonTerminal} → Tree M → Says M
  says {M} (by r m ds) = says_all ds M r.says

  pub says_all : {γ : List Sym} → Trees γ → (S : NonTerminal) → Fun γ (Says S) → Says S
  says_all empty S f = f
  says_all (token x e ds) S f = says_all ds S (f x)
  says_all (child d ds) S f = says_all ds S (f (says d))

-- the tokens ts are a text of the nonterminal M, with the marks es, that says v
pub record Reads (M : NonTerminal) (ts : List Token) (es : List Mark) (v : Says M) : Type 0 where
  pub tree : Tree M
  pub spanned : span tree ≡ ts
  pub marked : mark tree ≡ es
  pub said : says tree ≡ v
