-- One induction over derivation trees: what every production keeps holds of what every tree says. Assumes nothing.
use mathlib.Core.Path.{◌≡◌}
use mathlib.Core.List.{List, [], ◌∷◌}
use Prim.Native.Nat.{ℕ}
use Rattle.spec_grammar.specs.Token.{Token}
use Rattle.spec_grammar.specs.Grammar.{NonTerminal, Says, Sym, tk, nt, Fun, Production, productions}
use Rattle.spec_grammar.specs.Derivation.{◌∈◌, here, there, Tree, by, Trees, empty, token, child, span, spans, says, says_all}
use Rattle.spec_grammar.specs.Limits.{Each}
use Rattle.spec_grammar.proofs.Each.{each_split}

-- Has k x: what is known of a token x of the kind k; Kept M v: what is to be shown of v, which M says
module _ (Has : ℕ → Token → Type 0) (Kept : (M : NonTerminal) → Says M → Type 0) where
  -- a production keeps it: where its symbols have it, what it says has it
  abbrev pub Keeps : (γ : List Sym) (M : NonTerminal) → Fun γ (Says M) → Type 0
  Keeps [] M f = Kept M f
  Keeps (tk m k ∷ γ) M f = (x : Token) → Has k x → Keeps γ M (f x)
  Keeps (nt A ∷ γ) M f = (v : Says A) → Kept A v → Keeps γ M (f v)

  abbrev pub KeepAll : (M : NonTerminal) → List (Production M) → Type 0
  KeepAll M [] = Unit {0}
  KeepAll M (r ∷ rs) = Keeps r.rhs M r.says × KeepAll M rs

  picked : (M : NonTerminal) (r : Production M) (rs : List (Production M)) → r ∈ rs → KeepAll M rs → Keeps r.rhs M r.says
  picked M r rs here h = h.0
  picked M r rs (there {q} {rs = qs} m) h = picked M r qs m h.1

  -- P: what holds of each token of the tree
  module _ (P : Token → Type 0) (has : (k : ℕ) (x : Token) → x.kind ≡ k → P x → Has k x) (all_keep : (M : NonTerminal) → KeepAll M (productions M)) where
    mutual
      unfolding span says

      pub tree_keeps : {M : NonTerminal} (d : Tree M) → Each P (span d) → Kept M (says d)
      tree_keeps {M} (by r m ds) h = trees_keep ds h M r.says (picked M r (productions M) m (all_keep M))

      trees_keep : {γ : List Sym} (ds : Trees γ) → Each P (spans ds) → (S : NonTerminal) (f : Fun γ (Says S)) → Keeps γ S f → Kept S (says_all ds S f)
      trees_keep empty h S f k = k
      trees_keep (token x e ds) h S f k = trees_keep ds h.1 S (f x) (k x (has _ x e h.0))
      trees_keep (child d ds) h S f k =
          let s = each_split P (span d) (spans ds) h in
          trees_keep ds s.1 S (f (says d)) (k (says d) (tree_keeps d s.0))
