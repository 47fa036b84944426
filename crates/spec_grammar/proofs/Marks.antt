-- Texts that begin with the same tokens have the same marks on them. By induction over the tokens: a token's kind decides its mark
-- and what is still to come (Steps.antt). Assumes nothing.
use mathlib.Core.Path.{◌≡◌, refl, sym, ◌∙◌, ap}
use mathlib.Core.List.{List, [], ◌∷◌, ◌++◌}
use Prim.Native.Nat.{suc}
use lib.ListN.{length, take, length-append}
use Rattle.spec_grammar.specs.Token.{Token}
use Rattle.spec_grammar.specs.Tree.{Text}
use Rattle.spec_grammar.specs.Grammar.{NonTerminal, text, Says, Mark, Sym, Fun, text_production}
use Rattle.spec_grammar.specs.Derivation.{Tree, by, Trees, empty, token, child, span, spans, mark, marks, Reads}
use Rattle.spec_grammar.specs.Reader.{Step, stuck, skip, to, advance}
use Rattle.spec_grammar.proofs.Trees.{Has}
use Rattle.spec_grammar.proofs.Steps.{Ok, Spec, Past, advance_spec}
use Rattle.spec_grammar.proofs.Runs.{nothing_left}
use Rattle.spec_grammar.proofs.Exact.{ok_text, reads_has}

-- Two lists that symbols derive, alike on w, have the same marks on w.
abbrev Alike : List Token → Type 0
Alike w = (S : NonTerminal) (γ : List Sym) (κ : Fun γ (Says S)) → Ok γ → (a b : List Token) (es fs : List Mark) (u v : Says S) → Has S γ κ (w ++ a) es u
    → Has S γ κ (w ++ b) fs v → take (length w) es ≡ take (length w) fs

alike_step : (x : Token) (w : List Token) → Alike w
    → (S : NonTerminal) (γ : List Sym) (κ : Fun γ (Says S)) (a b : List Token) (es fs : List Mark) (u v : Says S) → Has S γ κ (x ∷ (w ++ a)) es u
    → Has S γ κ (x ∷ (w ++ b)) fs v → (s : Step S []) → Spec S x γ κ [] (Unit {0}) s → take (suc (length w)) es ≡ take (suc (length w)) fs
alike_step x w ih S γ κ a b es fs u v h k stuck n = absurd (n (w ++ a) es u h)
alike_step x w ih S γ κ a b es fs u v h k (skip κ') n = absurd (nothing_left S κ' x (w ++ a) es u (n.2 (w ++ a) es u h))
alike_step x w ih S γ κ a b es fs u v h k (to m δ κ') n =
    let p : Past S m δ κ' (w ++ a) es u = n.2 (w ++ a) es u h in
    let q : Past S m δ κ' (w ++ b) fs v = n.2 (w ++ b) fs v k in
    let e : take (length w) p.others ≡ take (length w) q.others = ih S δ κ' n.0 a b p.others q.others u v p.has q.has in
    ap (take (suc (length w))) p.begin ∙ (ap (λ (l : List Mark). m ∷ l) e ∙ sym (ap (take (suc (length w))) q.begin))

alike : (w : List Token) → Alike w
alike [] S γ κ o a b es fs u v h k = refl
alike (x ∷ w) S γ κ o a b es fs u v h k = alike_step x w (alike w) S γ κ a b es fs u v h k (advance S x γ κ) (advance_spec S x γ κ o)

-- Two texts that begin with the tokens w have the same marks on w.
pub marks_alike : (w a b : List Token) (es fs : List Mark) (u v : Text) → Reads text (w ++ a) es u → Reads text (w ++ b) fs v
    → take (length w) es ≡ take (length w) fs
marks_alike w a b es fs u v h k =
    alike w text text_production.rhs text_production.says ok_text a b es fs u v (reads_has (w ++ a) es u h) (reads_has (w ++ b) fs v k)

-- Each token has one mark.
mutual
  unfolding span mark

  pub mark_length : {M : NonTerminal} (d : Tree M) → length (mark d) ≡ length (span d)
  mark_length (by r m ds) = marks_length ds

  pub marks_length : {γ : List Sym} (ds : Trees γ) → length (marks ds) ≡ length (spans ds)
  marks_length empty = refl
  marks_length (token x e ds) = ap suc (marks_length ds)
  marks_length (child d ds) = simp (length-append, mark_length d, marks_length ds)
