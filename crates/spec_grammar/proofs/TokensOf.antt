-- Every token in the tree of a derivation is one of the tokens that the derivation spans: what holds of each of those holds of each in the tree.
-- A property of what each nonterminal says, kept by every production. Assumes nothing.
use mathlib.Core.Path.{sym, subst}
use mathlib.Core.List.{List}
use Prim.Native.Nat.{ℕ}
use Rattle.spec_grammar.specs.Token.{Token}
use Rattle.spec_grammar.specs.Tree.{Expr, number, bit, name, sign, negate, binary, parens, Stmt, output, assign, null, wait, if_then, if_else, while}
use Rattle.spec_grammar.specs.Tree.{Body, only, and_then, Init, without, integer_literal, logic_literal, minus, Group, Text}
use Rattle.spec_grammar.specs.Grammar.{NonTerminal, text, ports, more_ports, port, names, more_names, mode, type, init, value, vars, body, more, statement}
use Rattle.spec_grammar.specs.Grammar.{target, else_part, expression, chain, ands, ors, xors, relation, compared, simple, terms, term, factors, factor}
use Rattle.spec_grammar.specs.Grammar.{primary}
use Rattle.spec_grammar.specs.Grammar.{Says, Mark, productions, text_production}
use Rattle.spec_grammar.specs.Derivation.{Reads}
use Rattle.spec_grammar.specs.Limits.{Each}
use Rattle.spec_grammar.proofs.Keeping.{KeepAll, tree_keeps}

module _ (P : Token → Type 0) where
  -- P holds of each token of an expression, of a statement, of statements, of an initial value
  abbrev pub InExpr : Expr → Type 0
  InExpr (number x) = P x
  InExpr (bit x) = P x
  InExpr (name x) = P x
  InExpr (sign x a) = P x × InExpr a
  InExpr (negate x a) = P x × InExpr a
  InExpr (binary x a b) = P x × InExpr a × InExpr b
  InExpr (parens a) = InExpr a

  abbrev mutual
    pub InStmt : Stmt → Type 0
    InStmt (output x e) = P x × InExpr e
    InStmt (assign x e) = P x × InExpr e
    InStmt null = Unit {0}
    InStmt (wait x) = P x
    InStmt (if_then i e a) = P i × InExpr e × InBody a
    InStmt (if_else i e a b) = P i × InExpr e × InBody a × InBody b
    InStmt (while w e a) = P w × InExpr e × InBody a

    pub InBody : Body → Type 0
    InBody (only s) = InStmt s
    InBody (and_then s b) = InStmt s × InBody b

  abbrev pub InInit : Init → Type 0
  InInit without = Unit {0}
  InInit (integer_literal x) = P x
  InInit (logic_literal x) = P x
  InInit (minus s x) = P s × P x

  -- of a group
  pub record InGroup (g : Group) : Type 0 where
    pub names : Each P g.names
    pub type : P g.type
    pub init : InInit g.init

  -- and of a text
  pub record InText (t : Text) : Type 0 where
    pub entity : P t.entity
    pub ports : Each InGroup t.ports
    pub end_of_entity : P t.end_of_entity
    pub arch : P t.arch
    pub of_arch : P t.of_arch
    pub process : P t.process
    pub vars : Each InGroup t.vars
    pub body : InBody t.body
    pub end_of_arch : P t.end_of_arch

  -- what goes on after an operand keeps it
  abbrev Goes : (Expr → Expr) → Type 0
  Goes f = (a : Expr) → InExpr a → InExpr (f a)

  -- what is kept
  abbrev Kept : (M : NonTerminal) → Says M → Type 0
  Kept text t = InText t
  Kept ports gs = Each InGroup gs
  Kept more_ports gs = Each InGroup gs
  Kept port g = InGroup g
  Kept names v = Each P v
  Kept more_names v = Each P v
  Kept mode m = Unit {0}
  Kept type v = P v
  Kept init v = InInit v
  Kept value v = InInit v
  Kept vars gs = Each InGroup gs
  Kept body v = InBody v
  Kept more f = (s : Stmt) → InStmt s → InBody (f s)
  Kept statement v = InStmt v
  Kept target f = (x : Token) → P x → InStmt (f x)
  Kept else_part f = (i : Token) (e : Expr) (a : Body) → P i → InExpr e → InBody a → InStmt (f i e a)
  Kept expression v = InExpr v
  Kept chain f = Goes f
  Kept ands f = Goes f
  Kept ors f = Goes f
  Kept xors f = Goes f
  Kept relation v = InExpr v
  Kept compared f = Goes f
  Kept simple v = InExpr v
  Kept terms f = Goes f
  Kept term v = InExpr v
  Kept factors f = Goes f
  Kept factor v = InExpr v
  Kept primary v = InExpr v

  -- an operator with its right operand, and what goes on after them
  joined : (x : Token) → P x → (b : Expr) → InExpr b → (f : Expr → Expr) → Goes f → Goes (λ (a : Expr). f (binary x a b))
  joined x hx b hb f g a ha = g _ (hx, ha, hb)

  all_keep : (M : NonTerminal) → KeepAll (λ (k : ℕ) (x : Token). P x) Kept M (productions M)
  unfolding productions text_production
  all_keep text = (
    λ _ _ e he _ _ _ _ _ _ ps hp _ _ _ _ _ _ e' he' _ _ _ _ a ha _ _ o ho _ _ _ _ p hpr vs hv _ _ b hb _ _ _ _ _ _ _ _ a' ha' _ _.
        record { entity = he; ports = hp; end_of_entity = he'; arch = ha; of_arch = ho; process = hpr; vars = hv; body = hb; end_of_arch = ha' },
    tt,
  )
  all_keep ports = (λ g h gs k. (h, k), tt)
  all_keep more_ports = (tt, (λ _ _ g h gs k. (h, k), tt))
  all_keep port = (λ ns hn _ _ m _ t ht i hi. record { names = hn; type = ht; init = hi }, tt)
  all_keep names = (λ n h ns k. (h, k), tt)
  all_keep more_names = (tt, (λ _ _ n h ns k. (h, k), tt))
  all_keep mode = (λ _ _. tt, (λ _ _. tt, tt))
  all_keep type = (λ x h. h, (λ x h. h, tt))
  all_keep init = (tt, (λ _ _ i h. h, tt))
  all_keep value = (λ x h. h, (λ s hs x hx. (hs, hx), (λ x h. h, (λ x h. h, tt))))
  all_keep vars = (tt, (λ _ _ ns hn _ _ t ht i hi _ _ vs hv. (record { names = hn; type = ht; init = hi }, hv), tt))
  all_keep body = (λ s hs f hf. hf s hs, tt)
  all_keep more = (λ s hs. hs, (λ t ht f hf s hs. (hs, hf t ht), tt))
  all_keep statement = (
    λ x hx f hf. hf x hx,
    (
      λ _ _ _ _. tt,
      (λ _ _ _ _ n hn _ _ _ _ _ _. hn, (λ i hi e he _ _ a ha f hf _ _ _ _ _ _. hf i e a hi he ha, (λ w hw e he _ _ a ha _ _ _ _ _ _. (hw, he, ha), tt))),
    ),
  )
  all_keep target = (λ _ _ e he _ _ x hx. (hx, he), (λ _ _ e he _ _ x hx. (hx, he), tt))
  all_keep else_part = (λ i e a hi he ha. (hi, he, ha), (λ _ _ b hb i e a hi he ha. (hi, he, ha, hb), tt))
  all_keep expression = (λ a ha f hf. hf a ha, tt)
  all_keep chain = (λ a ha. ha, (joined, (joined, (joined, tt))))
  all_keep ands = (λ a ha. ha, (joined, tt))
  all_keep ors = (λ a ha. ha, (joined, tt))
  all_keep xors = (λ a ha. ha, (joined, tt))
  all_keep relation = (λ a ha f hf. hf a ha, tt)
  all_keep compared = (λ a ha. ha, (two, (two, (two, (two, (two, (two, tt)))))))
    where
      two : (x : Token) → P x → (b : Expr) → InExpr b → Goes (λ (a : Expr). binary x a b)
      two x hx b hb a ha = (hx, ha, hb)
  all_keep simple = (λ a ha f hf. hf a ha, (λ s hs a ha f hf. hf _ (hs, ha), tt))
  all_keep terms = (λ a ha. ha, (joined, (joined, tt)))
  all_keep term = (λ a ha f hf. hf a ha, tt)
  all_keep factors = (λ a ha. ha, (joined, (joined, (joined, (joined, tt)))))
  all_keep factor = (λ a ha. ha, (λ x hx a ha. (hx, ha), tt))
  all_keep primary = (λ x h. h, (λ x h. h, (λ x h. h, (λ x h. h, (λ _ _ e he _ _. he, tt)))))

-- what holds of each of the tokens that are read holds of each token of the tree
pub tokens_of : (P : Token → Type 0) {ts : List Token} {es : List Mark} {t : Text} → Reads text ts es t → Each P ts → InText P t
tokens_of P r h = subst (InText P) r.said
    (tree_keeps (λ (k : ℕ) (x : Token). P x) (Kept P) P (λ k x e h. h) (all_keep P) r.tree (subst (Each P) (sym r.spanned) h))
