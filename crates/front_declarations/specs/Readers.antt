-- What the readers of the heading answer and write, against the grammar's reader: names are every second token, and each gets a row in text order. Assumes nothing.
use Rattle.std.specs.Prelude.{◌≡◌, Bool, true, false, List, ◌∷◌, ℕ, suc, ◌+◌, ◌*◌, ◌<◌}
use Rattle.spec_grammar.specs.Token.{Token}
use Rattle.spec_grammar.specs.Tree.{Group}
use Rattle.spec_grammar.specs.Grammar.{NonTerminal, names, vars, Says, Sym, nt, Fun}
use Rattle.spec_grammar.proofs.Steps.{Ok}
use Rattle.front_layout.specs.Tokens.{Holds}
use Rattle.front_declarations.specs.Headers.{HeaderRead, from_header, names_from, AsksHeader, MovesHeader, Grown}
use Rattle.front_layout.specs.Headings.{Heading, group_headings, groups_names, WroteNames}
use Rattle.front_declarations.specs.Rows.{declared_by}

-- from p to r the reader has read names, `count` of them after the first
pub record NamesRead (ts : List Token) (b : Bool) (p r : HeaderRead) : Type 0 where
  pub value : List Token
  pub count : ℕ
  pub goes : (S : NonTerminal) (γ : List Sym) (κ : List Token → Fun γ (Says S)) → Ok (nt names ∷ γ)
      → from_header ts S b p (nt names ∷ γ) κ ≡ from_header ts S b r γ (κ value)
  pub are : r.cursor.fault ≡ 0 → value ≡ names_from ts p.cursor.at (suc count)
  pub end : r.cursor.fault ≡ 0 → r.cursor.at ≡ p.cursor.at + 1 + 2 * count
  pub grown : r.cursor.fault ≡ 0 → Grown b p r (suc count)

-- over the arrays
pub record NamesOver (kinds long : List ℕ) (n : ℕ) (p : HeaderRead) (b : Bool) (r : HeaderRead) : Type 0 where
  pub moves : MovesHeader n p r
  pub reads : (ts : List Token) → Holds ts kinds long n → NamesRead ts b p r

-- what a reader of groups asks of where it stands: no name waits for its mode
pub record AsksGroup (n : ℕ) (p : HeaderRead) : Type 0 where
  pub asks : AsksHeader n p
  pub none : p.cursor.fault ≡ 0 → p.waiting ≡ 0

-- from p to r the reader has read an M with a value, and written its names behind those before; b and c say whether variables are being declared
pub record ReadsNames (M : NonTerminal) (flat : Says M → List Heading) (ts : List Token) (b c : Bool) (p r : HeaderRead) (before after : List ℕ) : Type 0 where
  pub value : Says M
  pub goes : (S : NonTerminal) (γ : List Sym) (κ : Says M → Fun γ (Says S)) → Ok (nt M ∷ γ) → from_header ts S b p (nt M ∷ γ) κ ≡ from_header ts S c r γ (κ value)
  pub wrote : r.cursor.fault ≡ 0 → WroteNames ts (declared_by p) (declared_by r) before after (flat value)

-- ports, over the arrays
pub record PortsOver (M : NonTerminal) (flat : Says M → List Heading) (kinds long : List ℕ) (n : ℕ) (p : HeaderRead) (before : List ℕ) (r : HeaderRead)
    (after : List ℕ) : Type 0 where
  pub moves : MovesHeader n p r
  pub further : r.cursor.fault ≡ 0 → p.cursor.at < r.cursor.at
  pub none : r.cursor.fault ≡ 0 → r.waiting ≡ 0
  pub reads : (ts : List Token) → Holds ts kinds long n → ReadsNames M flat ts false false p r before after

-- from p to r the reader has read one group of variables, behind which further ones may come
pub record VariableRead (ts : List Token) (p r : HeaderRead) (before after : List ℕ) : Type 0 where
  pub value : Group
  pub goes : (b : Bool) (S : NonTerminal) (γ : List Sym) (κ : List Group → Fun γ (Says S)) → Ok (nt vars ∷ γ)
      → from_header ts S b p (nt vars ∷ γ) κ ≡ from_header ts S true r (nt vars ∷ γ) (λ gs. κ (value ∷ gs))
  pub wrote : r.cursor.fault ≡ 0 → WroteNames ts (declared_by p) (declared_by r) before after (group_headings value)

-- the same over the arrays
pub record VariableOver (kinds long : List ℕ) (n : ℕ) (p : HeaderRead) (before : List ℕ) (r : HeaderRead) (after : List ℕ) : Type 0 where
  pub moves : MovesHeader n p r
  pub further : r.cursor.fault ≡ 0 → p.cursor.at < r.cursor.at
  pub reads : (ts : List Token) → Holds ts kinds long n → VariableRead ts p r before after

-- all variables: the flag says whether there are any
pub record VariablesRead (ts : List Token) (p r : HeaderRead) (before after : List ℕ) : Type 0 where
  pub flag : Bool
  pub reads : ReadsNames vars groups_names ts false flag p r before after

-- the same over the arrays
pub record VariablesOver (kinds long : List ℕ) (n : ℕ) (p : HeaderRead) (before : List ℕ) (r : HeaderRead) (after : List ℕ) : Type 0 where
  pub moves : MovesHeader n p r
  pub reads : (ts : List Token) → Holds ts kinds long n → VariablesRead ts p r before after
