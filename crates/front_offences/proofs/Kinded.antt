-- In the tree of a derivation every token has the kind that its place in the grammar asks for: a property of what each nonterminal says, kept by
-- every production. Assumes nothing.
use mathlib.Core.Path.{◌≡◌, refl, sym, subst}
use mathlib.Core.Logic.{inl, inr}
use mathlib.Core.List.{List}
use Prim.Native.Nat.{ℕ, ◌<◌}
use native.Mathlib.Omega.{arith}
use lib.ListN.{length}
use Rattle.base_codes.specs.Token.{one_of, NAME, IF}
use Rattle.spec_grammar.specs.Token.{Token}
use Rattle.spec_grammar.specs.Tree.{Expr, binary, Stmt, Body, Text}
use Rattle.spec_grammar.specs.Grammar.{NonTerminal, text, ports, more_ports, port, names, more_names, mode, type, init, value, vars, body, more, statement}
use Rattle.spec_grammar.specs.Grammar.{target, else_part, expression, chain, ands, ors, xors, relation, compared, simple, terms, term, factors, factor, primary}
use Rattle.spec_grammar.specs.Grammar.{Says, Mark, productions, text_production}
use Rattle.spec_grammar.specs.Derivation.{span, Reads}
use Rattle.spec_grammar.specs.Limits.{Each}
use Rattle.spec_grammar.proofs.Each.{each_any}
use Rattle.spec_grammar.proofs.Keeping.{KeepAll, tree_keeps}
use Rattle.front_offences.specs.Kinded.{IsType, OperatorKind, IsOperator, KindedExpr, KindedStmt, KindedBody, KindedInit, KindedGroup, Kinded}

-- what goes on after an operand keeps it
abbrev Goes : (Expr → Expr) → Type 0
Goes f = (a : Expr) → KindedExpr a → KindedExpr (f a)

-- what is kept
abbrev Kept : (M : NonTerminal) → Says M → Type 0
Kept text t = Kinded t
Kept ports gs = Each KindedGroup gs
Kept more_ports gs = Each KindedGroup gs
Kept port g = KindedGroup g
Kept names v = Each (λ (x : Token). x.kind ≡ NAME) v × (0 < length v)
Kept more_names v = Each (λ (x : Token). x.kind ≡ NAME) v
Kept mode m = Unit {0}
Kept type v = IsType v
Kept init v = KindedInit v
Kept value v = KindedInit v
Kept vars gs = Each KindedGroup gs
Kept body v = KindedBody v
Kept more f = (s : Stmt) → KindedStmt s → KindedBody (f s)
Kept statement v = KindedStmt v
Kept target f = (x : Token) → x.kind ≡ NAME → KindedStmt (f x)
Kept else_part f = (i : Token) (e : Expr) (a : Body) → i.kind ≡ IF → KindedExpr e → KindedBody a → KindedStmt (f i e a)
Kept expression v = KindedExpr v
Kept chain f = Goes f
Kept ands f = Goes f
Kept ors f = Goes f
Kept xors f = Goes f
Kept relation v = KindedExpr v
Kept compared f = Goes f
Kept simple v = KindedExpr v
Kept terms f = Goes f
Kept term v = KindedExpr v
Kept factors f = Goes f
Kept factor v = KindedExpr v
Kept primary v = KindedExpr v

-- an operator's kind is one of fifteen
operator : (x : Token) (k : ℕ) → OperatorKind k → x.kind ≡ k → IsOperator x
operator x k h e = subst OperatorKind (sym e) h

joined : (x : Token) (k : ℕ) → OperatorKind k → x.kind ≡ k → (b : Expr) → KindedExpr b → (f : Expr → Expr) → Goes f → Goes (λ (a : Expr). f (binary x a b))
joined x k h e b kb f g a ka = g _ (operator x k h e, ka, kb)

all_keep : (M : NonTerminal) → KeepAll (λ (k : ℕ) (x : Token). x.kind ≡ k) Kept M (productions M)
unfolding productions text_production one_of
all_keep text = (
  λ _ _ e he _ _ _ _ _ _ ps hp _ _ _ _ _ _ e' he' _ _ _ _ a ha _ _ o ho _ _ _ _ p hpr vs hv _ _ b hb _ _ _ _ _ _ _ _ a' ha' _ _.
      record { entity = he; ports = hp; end_of_entity = he'; arch = ha; of_arch = ho; process = hpr; vars = hv; body = hb; end_of_arch = ha' },
  tt,
)
all_keep ports = (λ g h gs k. (h, k), tt)
all_keep more_ports = (tt, (λ _ _ g h gs k. (h, k), tt))
all_keep port = (λ ns hn _ _ m _ t ht i hi. record { names = hn.0; some = hn.1; type = ht; init = hi }, tt)
all_keep names = (λ n h ns k. ((h, k), omega arith), tt)
all_keep more_names = (tt, (λ _ _ n h ns k. (h, k), tt))
all_keep mode = (λ _ _. tt, (λ _ _. tt, tt))
all_keep type = (λ x h. inl h, (λ x h. inr h, tt))
all_keep init = (tt, (λ _ _ i h. h, tt))
all_keep value = (λ x h. h, (λ s hs x hx. (hs, hx), (λ x h. inl h, (λ x h. inr h, tt))))
all_keep vars = (tt, (λ _ _ ns hn _ _ t ht i hi _ _ vs hv. (record { names = hn.0; some = hn.1; type = ht; init = hi }, hv), tt))
all_keep body = (λ s hs f hf. hf s hs, tt)
all_keep more = (λ s hs. hs, (λ t ht f hf s hs. (hs, hf t ht), tt))
all_keep statement = (
  λ x hx f hf. hf x hx,
  (
    λ _ _ _ _. tt,
    (
      λ _ _ _ _ n hn _ _ _ _ _ _. hn,
      (λ i hi e he _ _ a ha f hf _ _ _ _ _ _. hf i e a hi he ha, (λ w hw e he _ _ a ha _ _ _ _ _ _. (hw, he, ha), tt)),
    ),
  ),
)
all_keep target = (λ _ _ e he _ _ x hx. (hx, he), (λ _ _ e he _ _ x hx. (hx, he), tt))
all_keep else_part = (λ i e a hi he ha. (hi, he, ha), (λ _ _ b hb i e a hi he ha. (hi, he, ha, hb), tt))
all_keep expression = (λ a ha f hf. hf a ha, tt)
all_keep chain = (
  λ a ha. ha,
  (
    λ x hx b hb f hf. joined x _ refl hx b hb f hf,
    (
      λ x hx b hb f hf. joined x _ refl hx b hb f hf,
      (λ x hx b hb f hf. joined x _ refl hx b hb f hf, tt),
    ),
  ),
)
all_keep ands = (λ a ha. ha, (λ x hx b hb f hf. joined x _ refl hx b hb f hf, tt))
all_keep ors = (λ a ha. ha, (λ x hx b hb f hf. joined x _ refl hx b hb f hf, tt))
all_keep xors = (λ a ha. ha, (λ x hx b hb f hf. joined x _ refl hx b hb f hf, tt))
all_keep relation = (λ a ha f hf. hf a ha, tt)
all_keep compared = (
  λ a ha. ha,
  (
    λ x hx b hb a ha. (operator x _ refl hx, ha, hb),
    (
      λ x hx b hb a ha. (operator x _ refl hx, ha, hb),
      (
        λ x hx b hb a ha. (operator x _ refl hx, ha, hb),
        (
          λ x hx b hb a ha. (operator x _ refl hx, ha, hb),
          (λ x hx b hb a ha. (operator x _ refl hx, ha, hb), (λ x hx b hb a ha. (operator x _ refl hx, ha, hb), tt)),
        ),
      ),
    ),
  ),
)
all_keep simple = (λ a ha f hf. hf a ha, (λ s hs a ha f hf. hf _ (hs, ha), tt))
all_keep terms = (λ a ha. ha, (λ x hx b hb f hf. joined x _ refl hx b hb f hf, (λ x hx b hb f hf. joined x _ refl hx b hb f hf, tt)))
all_keep term = (λ a ha f hf. hf a ha, tt)
all_keep factors = (
  λ a ha. ha,
  (
    λ x hx b hb f hf. joined x _ refl hx b hb f hf,
    (
      λ x hx b hb f hf. joined x _ refl hx b hb f hf,
      (λ x hx b hb f hf. joined x _ refl hx b hb f hf, (λ x hx b hb f hf. joined x _ refl hx b hb f hf, tt)),
    ),
  ),
)
all_keep factor = (λ a ha. ha, (λ x hx a ha. (hx, ha), tt))
all_keep primary = (λ x h. h, (λ x h. inl h, (λ x h. inr h, (λ x h. h, (λ _ _ e he _ _. he, tt)))))

-- every tree that the grammar reads has its tokens' kinds
pub kinded : {ts : List Token} {es : List Mark} {t : Text} → Reads text ts es t → Kinded t
kinded r =
    subst Kinded r.said
    (tree_keeps (λ (k : ℕ) (x : Token). x.kind ≡ k) Kept (λ (x : Token). Unit {0}) (λ k x e _. e) all_keep r.tree
    (each_any (λ (x : Token). Unit {0}) (λ x. tt) (span r.tree)))
