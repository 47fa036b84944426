-- What the tokens of a text do to a count is decided by its tree: the tree can be walked in their place. Proved for any count that looks at a token
-- only where it is a name or a number, by a relation R between what each nonterminal says and the count before and after its tokens:
-- each production keeps R, so each derivation does. Assumes nothing.
use mathlib.Core.Path.{◌≡◌, refl, sym, subst, ap}
use mathlib.Core.Bool.{cond}
use mathlib.Core.List.{List, [], ◌∷◌, ◌++◌}
use Prim.Native.Nat.{ℕ}
use native.Mathlib.Omega.{arith}
use lib.Dec.{eqb}
use lib.ListN.{length}
use Rattle.spec_grammar.specs.Token.{Token}
use Rattle.base_codes.specs.Token.{NAME, NUMBER}
use Rattle.spec_grammar.specs.Tree.{Expr, number, bit, name, sign, negate, binary, parens, Stmt, output, assign, null, wait, if_then, if_else, while}
use Rattle.spec_grammar.specs.Tree.{Body, only, and_then, Init, without, integer_literal, logic_literal, minus, Mode, input, output_port, variable_mode}
use Rattle.spec_grammar.specs.Tree.{Group, Text}
use Rattle.spec_grammar.specs.Grammar.{NonTerminal, text, ports, more_ports, port, names, more_names, mode, type, init, value, vars, body, more, statement}
use Rattle.spec_grammar.specs.Grammar.{target, else_part, expression, chain, ands, ors, xors, relation, compared, simple, terms, term, factors, factor}
use Rattle.spec_grammar.specs.Grammar.{primary, Says}
use Rattle.spec_grammar.specs.Grammar.{Mark, plain, item, opens, closes, fresh, stmt, stmt_fresh, deeper, shallower, declares, ins, outs, variables, Sym}
use Rattle.spec_grammar.specs.Grammar.{tk, nt, Fun, Production, productions, text_production}
use Rattle.spec_grammar.specs.Derivation.{◌∈◌, here, there, Tree, by, Trees, empty, token, child, span, spans, mark, marks, says, says_all, Reads}
use Rattle.spec_grammar.proofs.Marks.{mark_length}

-- A machine whose state is a count: what a name, a number, and any other token, does to it, by its mark.
pub record Machine (C : Type 0) : Type 0 where
  pub other : Mark → C → C
  pub named : Mark → Token → C → C
  pub numbered : Mark → Token → C → C

-- The mark of the names of a port group. No port of a text has the mode of a variable; its names would count for nothing.
abbrev pub port_mark : Mode → Mark
port_mark input = declares
port_mark output_port = declares
port_mark variable_mode = plain

module _ {C : Type 0} (μ : Machine C) where
  -- A token with the mark plain.
  abbrev p : C → C
  p c = μ.other plain c

  -- A token of kind k.
  abbrev pub step : Mark → ℕ → Token → C → C
  step m k x c = cond (eqb k NAME) (μ.named m x c) (cond (eqb k NUMBER) (μ.numbered m x c) (μ.other m c))

  -- All tokens of a list, whose marks es begins with.
  unfoldable pub steps : C → List Token → List Mark → C
  steps c [] es = c
  steps c (x ∷ ts) [] = c
  steps c (x ∷ ts) (e ∷ es) = steps (step e x.kind x c) ts es

  -- The same by the tree: an expression, statements, groups, a text.
  unfoldable pub on_expr : Expr → C → C
  on_expr (number x) c = μ.numbered item x c
  on_expr (bit x) c = μ.other item c
  on_expr (name x) c = μ.named item x c
  on_expr (sign x a) c = on_expr a (μ.other item c)
  on_expr (negate x a) c = on_expr a (μ.other item c)
  on_expr (binary x a b) c = on_expr b (μ.other item (on_expr a c))
  on_expr (parens a) c = μ.other closes (on_expr a (μ.other opens c))

  unfoldable mutual
    pub on_stmt : Stmt → C → C
    on_stmt (output x e) c = p (on_expr e (μ.other fresh (μ.named stmt x c)))
    on_stmt (assign x e) c = p (on_expr e (μ.other fresh (μ.named stmt x c)))
    on_stmt null c = p (μ.other stmt c)
    on_stmt (wait x) c = p (p (p (μ.named plain x (p (μ.other stmt c)))))
    on_stmt (if_then i e a) c = p (p (μ.other shallower (on_body a (μ.other deeper (on_expr e (μ.other stmt_fresh c))))))
    on_stmt (if_else i e a b) c = p (p (μ.other shallower (on_body b (p (on_body a (μ.other deeper (on_expr e (μ.other stmt_fresh c))))))))
    on_stmt (while w e a) c = p (p (μ.other shallower (on_body a (μ.other deeper (on_expr e (μ.other stmt_fresh c))))))

    pub on_body : Body → C → C
    on_body (only s) c = on_stmt s c
    on_body (and_then s b) c = on_body b (on_stmt s c)

  -- the names of a group, which have the mark m
  unfoldable pub on_more_names : Mark → List Token → C → C
  on_more_names m [] c = c
  on_more_names m (x ∷ l) c = on_more_names m l (μ.named m x (p c))

  unfoldable pub on_names : Mark → List Token → C → C
  on_names m [] c = c
  on_names m (x ∷ l) c = on_more_names m l (μ.named m x c)

  unfoldable pub on_mode : Mode → C → C
  on_mode input c = μ.other ins c
  on_mode output_port c = μ.other outs c
  on_mode variable_mode c = c

  unfoldable pub on_init : Init → C → C
  on_init without c = c
  on_init (integer_literal x) c = μ.numbered plain x (p c)
  on_init (logic_literal x) c = p (p c)
  on_init (minus s x) c = μ.numbered plain x (p (p c))

  unfoldable pub on_port : Group → C → C
  on_port g c = on_init g.init (p (on_mode g.mode (p (on_names (port_mark g.mode) g.names c))))

  unfoldable pub on_more_ports : List Group → C → C
  on_more_ports [] c = c
  on_more_ports (g ∷ gs) c = on_more_ports gs (on_port g (p c))

  unfoldable pub on_ports : List Group → C → C
  on_ports [] c = c
  on_ports (g ∷ gs) c = on_more_ports gs (on_port g c)

  unfoldable pub on_vars : List Group → C → C
  on_vars [] c = c
  on_vars (g ∷ gs) c = on_vars gs (p (on_init g.init (p (p (on_names declares g.names (μ.other variables c))))))

  -- `entity E is port (`, then the ports, then up to `process`, then the variables, `begin`, the statements, and what comes after them
  abbrev opening : Text → C → C
  opening t c = p (p (p (μ.named plain t.entity (p c))))

  abbrev middle : Text → C → C
  middle t c = p (p (p (μ.named plain t.of_arch (p (μ.named plain t.arch (p (p (μ.named plain t.end_of_entity (p (p (p c)))))))))))

  abbrev closing : Text → C → C
  closing t c = p (μ.named plain t.end_of_arch (p (p (p (p c)))))

  unfoldable pub on_text : Text → C → C
  on_text t c = closing t (on_body t.body (p (on_vars t.vars (middle t (on_ports t.ports (opening t c))))))

  -- What a nonterminal says, against the count before and after its tokens. One that goes on after an operand is related through every such operand.
  abbrev Continues : (Expr → Expr) → C → C → Type 0
  Continues f c d = (a : Expr) (b : C) → c ≡ on_expr a b → d ≡ on_expr (f a) b

  abbrev IsMode : Mode → C → C → Type 0
  IsMode input c d = d ≡ μ.other ins c
  IsMode output_port c d = d ≡ μ.other outs c
  IsMode variable_mode c d = ⊥

  -- c before, d after
  abbrev R : (M : NonTerminal) → Says M → C → C → Type 0
  R text t c d = d ≡ on_text t c
  R ports gs c d = d ≡ on_ports gs c
  R more_ports gs c d = d ≡ on_more_ports gs c
  R port g c d = d ≡ on_port g c
  R names l c d = d ≡ on_names declares l c
  R more_names l c d = d ≡ on_more_names declares l c
  R mode m c d = IsMode m c d
  R type x c d = d ≡ p c
  R init i c d = d ≡ on_init i c
  R value i c d = (b : C) → c ≡ p b → d ≡ on_init i b
  R vars gs c d = d ≡ on_vars gs c
  R body b c d = d ≡ on_body b c
  R more f c d = (s : Stmt) (b : C) → c ≡ on_stmt s b → d ≡ on_body (f s) b
  R statement s c d = d ≡ on_stmt s c
  R target f c d = (x : Token) (b : C) → c ≡ μ.named stmt x b → d ≡ on_stmt (f x) b
  R else_part f c d = (i : Token) (e : Expr) (a : Body) (b : C) → c ≡ on_body a (μ.other deeper (on_expr e (μ.other stmt_fresh b)))
      → p (p (μ.other shallower d)) ≡ on_stmt (f i e a) b
  R expression e c d = d ≡ on_expr e c
  R chain f c d = Continues f c d
  R ands f c d = Continues f c d
  R ors f c d = Continues f c d
  R xors f c d = Continues f c d
  R relation e c d = d ≡ on_expr e c
  R compared f c d = Continues f c d
  R simple e c d = d ≡ on_expr e c
  R terms f c d = Continues f c d
  R term e c d = d ≡ on_expr e c
  R factors f c d = Continues f c d
  R factor e c d = d ≡ on_expr e c
  R primary e c d = d ≡ on_expr e c

  -- the same of a production that began at c, with the symbols γ still to come at d; and of each production of a list
  abbrev RFun : (γ : List Sym) (M : NonTerminal) → Fun γ (Says M) → C → C → Type 0
  RFun [] M f c d = R M f c d
  RFun (tk m k ∷ γ) M f c d = (x : Token) → x.kind ≡ k → RFun γ M (f x) c (step m k x d)
  RFun (nt A ∷ γ) M f c d = (v : Says A) (e : C) → R A v d e → RFun γ M (f v) c e

  abbrev RAll : (M : NonTerminal) → List (Production M) → Type 0
  RAll M [] = Unit {0}
  RAll M (r ∷ rs) = ((c : C) → RFun r.rhs M r.says c c) × RAll M rs

  -- a port group goes by its mode
  port_as : (c : C) (ns : List Token) (d1 : C) → d1 ≡ on_names declares ns c → (m : Mode) (d2 : C) → IsMode m (p d1) d2 → (t : Token) (d3 : C) → d3 ≡ p d2
      → (i : Init) (d4 : C) → d4 ≡ on_init i d3 → d4 ≡ on_port (record { names = ns; mode = m; type = t; init = i }) c
  unfolding on_port on_mode
  port_as c ns d1 h1 input d2 h2 t d3 h3 i d4 h4 = cc
  port_as c ns d1 h1 output_port d2 h2 t d3 h3 i d4 h4 = cc
  port_as c ns d1 h1 variable_mode d2 h2 t d3 h3 i d4 h4 = absurd h2

  -- Each production keeps R.
  all_walked : (M : NonTerminal) → RAll M (productions M)
  unfolding productions text_production on_expr on_stmt on_more_names on_names on_mode on_init on_port on_more_ports on_ports on_vars on_text
  all_walked text = (λ c _ _ e _ _ _ _ _ _ _ ps d1 h1 _ _ _ _ _ _ e' _ _ _ _ _ a _ _ _ o _ _ _ _ _ pr _ vs d2 h2 _ _ b d3 h3 _ _ _ _ _ _ _ _ a' _ _ _. cc, tt)
  all_walked ports = (λ c g d h gs e k. cc, tt)
  all_walked more_ports = (λ c. refl, (λ c _ _ g d h gs e k. cc, tt))
  all_walked port = (λ c ns d1 h1 _ _ m d2 h2 t d3 h3 i d4 h4. port_as c ns d1 h1 m d2 h2 t d3 h3 i d4 h4, tt)
  all_walked names = (λ c n _ ns d h. cc, tt)
  all_walked more_names = (λ c. refl, (λ c _ _ n _ ns d h. cc, tt))
  all_walked mode = (λ c _ _. refl, (λ c _ _. refl, tt))
  all_walked type = (λ c _ _. refl, (λ c _ _. refl, tt))
  all_walked init = (λ c. refl, (λ c _ _ i d h. h c refl, tt))
  all_walked value = (λ c x e b h. ap (μ.numbered plain x) h, (λ c s _ x e b h. cc, (λ c x e b h. ap p h, (λ c x e b h. ap p h, tt))))
  all_walked vars = (λ c. refl, (λ c _ _ ns d1 h1 _ _ t d2 h2 i d3 h3 _ _ vs d4 h4. cc, tt))
  all_walked body = (λ c s d h f e k. k s c h, tt)
  all_walked more = (λ c s b h. h, (λ c t d h f e k s b g. k t (on_stmt s b) (cc), tt))
  all_walked statement = (
    λ c x _ f d h. h x c refl,
    (
      λ c _ _ _ _. refl,
      (
        λ c _ _ _ _ n _ _ _ _ _ _ _. refl,
        (λ c i _ e d1 h1 _ _ a d2 h2 f d3 h3 _ _ _ _ _ _. h3 i e a c (cc), (λ c w _ e d1 h1 _ _ a d2 h2 _ _ _ _ _ _. cc, tt)),
      ),
    ),
  )
  all_walked target = (λ c _ _ e d h _ _ x b g. cc, (λ c _ _ e d h _ _ x b g. cc, tt))
  all_walked else_part = (λ c i e a b h. cc, (λ c _ _ b d h i e a r g. cc, tt))
  all_walked expression = (λ c a d h f e k. k a c h, tt)
  all_walked chain = (
    λ c a b h. h,
    (
      λ c x _ b d h f e k a r g. k (binary x a b) r (cc),
      (λ c x _ b d h f e k a r g. k (binary x a b) r (cc), (λ c x _ b d h f e k a r g. k (binary x a b) r (cc), tt)),
    ),
  )
  all_walked ands = (λ c a b h. h, (λ c x _ b d h f e k a r g. k (binary x a b) r (cc), tt))
  all_walked ors = (λ c a b h. h, (λ c x _ b d h f e k a r g. k (binary x a b) r (cc), tt))
  all_walked xors = (λ c a b h. h, (λ c x _ b d h f e k a r g. k (binary x a b) r (cc), tt))
  all_walked relation = (λ c a d h f e k. k a c h, tt)
  all_walked compared = (
    λ c a b h. h,
    (
      λ c x _ b d h a r g. cc,
      (λ c x _ b d h a r g. cc, (λ c x _ b d h a r g. cc, (λ c x _ b d h a r g. cc, (λ c x _ b d h a r g. cc, (λ c x _ b d h a r g. cc, tt))))),
    ),
  )
  all_walked simple = (λ c a d h f e k. k a c h, (λ c s _ a d h f e k. k (sign s a) c h, tt))
  all_walked terms = (λ c a b h. h, (λ c x _ b d h f e k a r g. k (binary x a b) r (cc), (λ c x _ b d h f e k a r g. k (binary x a b) r (cc), tt)))
  all_walked term = (λ c a d h f e k. k a c h, tt)
  all_walked factors = (
    λ c a b h. h,
    (
      λ c x _ b d h f e k a r g. k (binary x a b) r (cc),
      (
        λ c x _ b d h f e k a r g. k (binary x a b) r (cc),
        (λ c x _ b d h f e k a r g. k (binary x a b) r (cc), (λ c x _ b d h f e k a r g. k (binary x a b) r (cc), tt)),
      ),
    ),
  )
  all_walked factor = (λ c a d h. h, (λ c x _ a d h. h, tt))
  all_walked primary = (λ c x _. refl, (λ c x _. refl, (λ c x _. refl, (λ c x _. refl, (λ c _ _ a d h _ _. cc, tt)))))

  picked : {M : NonTerminal} (r : Production M) (rs : List (Production M)) → r ∈ rs → RAll M rs → (c : C) → RFun r.rhs M r.says c c
  picked r rs here h = h.0
  picked r rs (there {rs = qs} m) h = picked r qs m h.1

  -- the tokens of one list, then those of another
  steps_append : (c : C) (ts us : List Token) (es fs : List Mark) → length es ≡ length ts → steps c (ts ++ us) (es ++ fs) ≡ steps (steps c ts es) us fs
  unfolding steps
  steps_append c [] us [] fs h = refl
  steps_append c [] us (e ∷ es) fs h = absurd (omega arith)
  steps_append c (x ∷ ts) us [] fs h = absurd (omega arith)
  steps_append c (x ∷ ts) us (e ∷ es) fs h = steps_append (step e x.kind x c) ts us es fs (omega arith)

  -- So each derivation does.
  mutual
    unfolding span mark says steps

    tree_walked : {M : NonTerminal} (d : Tree M) (c : C) → R M (says d) c (steps c (span d) (mark d))
    tree_walked {M} (by r m ds) c = trees_walked ds M r.says c c (picked r (productions M) m (all_walked M) c)

    trees_walked : {γ : List Sym} (ds : Trees γ) (S : NonTerminal) (f : Fun γ (Says S)) (c d : C) → RFun γ S f c d
        → R S (says_all ds S f) c (steps d (spans ds) (marks ds))
    trees_walked empty S f c d k = k
    trees_walked (token {m} {k = j} x e ds) S f c d k =
        subst (λ (i : ℕ). R S (says_all ds S (f x)) c (steps (step m i x d) (spans ds) (marks ds))) (sym e) (trees_walked ds S (f x) c (step m j x d) (k x e))
    trees_walked (child t ds) S f c d k =
        rw (steps_append d (span t) (spans ds) (mark t) (marks ds) (mark_length t))
        (trees_walked ds S (f (says t)) c (steps d (span t) (mark t)) (k (says t) (steps d (span t) (mark t)) (tree_walked t d)))

  -- The tokens of a text do to a count what its tree does.
  pub text_walked : (ts : List Token) (es : List Mark) (t : Text) → Reads text ts es t → (c : C) → steps c ts es ≡ on_text t c
  text_walked ts es t r c = rw (← r.spanned, ← r.marked, ← r.said) (tree_walked r.tree c)
