-- What one token does to the symbols that are still to come, in terms of what they derive. Assumes nothing.
use mathlib.Core.Path.{◌≡◌, refl, sym, ◌∙◌, subst, ap}
use mathlib.Core.Logic.{◌⊎◌, inl, inr}
use mathlib.Core.Bool.{Bool, true, false, ◌&&◌, not}
use mathlib.Core.List.{List, [], ◌∷◌, ◌++◌}
use Prim.Native.Nat.{ℕ, zero, suc, ◌<◌}
use native.Mathlib.Omega.{arith}
use lib.Dec.{T, eqb, ltb, eqb_refl, eqb→eq, ltb→lt}
use Rattle.spec_grammar.specs.Token.{Token}
use Rattle.spec_grammar.specs.Grammar.{NonTerminal, Says, Mark, Sym, tk, nt, Fun, Production, productions}
use Rattle.spec_grammar.specs.Derivation.{◌∈◌, Trees, token, spans, marks, says_all}
use Rattle.spec_grammar.specs.Reader.{nullable, first, follow, rank, elem, choose, nullables, firsts, chosen, compose, Pick, take, no_rule, pick, Step}
use Rattle.spec_grammar.specs.Reader.{stuck, skip, to, on_skip, shift, through, by_rule, enter, advance}
use Rattle.spec_grammar.proofs.Sets.{and_left, and_right, elem_left, elem_right, elem_cases, elem_choose, choose_elem, subset, within, not_T}
use Rattle.spec_grammar.proofs.Tables.{inside, lead, inside_ok, lead_ok, vanishes, pick_finds, pick_rule, take_same, no_rule_take, rank_ok, if_so}
use Rattle.spec_grammar.proofs.Trees.{cons_head, cons_tail, Has, By, down, up, starts}

-- What can come after each nonterminal that is still to come is in that nonterminal's table, and something must come.
abbrev pub Ok : List Sym → Type 0
Ok [] = Unit {0}
Ok (tk m k ∷ γ) = Ok γ
Ok (nt M ∷ γ) = ((k : ℕ) → T (elem k (firsts γ)) → T (elem k (follow M))) × (T (nullables γ) → ⊥) × Ok γ

-- the same as a test
unfoldable pub ok_syms : List Sym → Bool
ok_syms [] = true
ok_syms (tk m k ∷ γ) = ok_syms γ
ok_syms (nt M ∷ γ) = subset (firsts γ) (follow M) && (not (nullables γ) && ok_syms γ)

pub tested : (γ : List Sym) → T (ok_syms γ) → Ok γ
unfolding ok_syms
tested [] t = tt
tested (tk m k ∷ γ) t = tested γ t
tested (nt M ∷ γ) t =
    let u : T (not (nullables γ) && ok_syms γ) = and_right (subset (firsts γ) (follow M)) (not (nullables γ) && ok_syms γ) t in (
      within (firsts γ) (follow M) (and_left (subset (firsts γ) (follow M)) (not (nullables γ) && ok_syms γ) t),
      not_T (nullables γ) (and_left (not (nullables γ)) (ok_syms γ) u),
      tested γ (and_right (not (nullables γ)) (ok_syms γ) u),
    )

firsts_append : (k : ℕ) (γ δ : List Sym) → T (elem k (firsts (γ ++ δ))) → T (elem k (firsts γ)) ⊎ (T (nullables γ) × T (elem k (firsts δ)))
unfolding firsts nullables
firsts_append k [] δ t = inr (tt, t)
firsts_append k (tk m j ∷ γ) δ t = inl t
firsts_append k (nt M ∷ γ) δ t = go (elem_cases k (first M) (choose (nullable M) (firsts (γ ++ δ)) []) t) (firsts_append k γ δ)
  where
    both : (a b : Bool) → T a → T b → T (a && b)
    both true b t u = u
    both false b t u = t

    go : T (elem k (first M)) ⊎ T (elem k (choose (nullable M) (firsts (γ ++ δ)) []))
        → (T (elem k (firsts (γ ++ δ))) → T (elem k (firsts γ)) ⊎ (T (nullables γ) × T (elem k (firsts δ))))
        → T (elem k (first M ++ choose (nullable M) (firsts γ) [])) ⊎ (T (nullable M && nullables γ) × T (elem k (firsts δ)))
    go (inl u) ih = inl (elem_left k (first M) (choose (nullable M) (firsts γ) []) u)
    go (inr u) ih = elim (ih (elem_choose k (nullable M) (firsts (γ ++ δ)) u).1) [
      | inl w ↦ inl (elem_right k (first M) (choose (nullable M) (firsts γ) [])
          (choose_elem k (nullable M) (firsts γ) (elem_choose k (nullable M) (firsts (γ ++ δ)) u).0 w))
      | inr w ↦ inr (both (nullable M) (nullables γ) (elem_choose k (nullable M) (firsts (γ ++ δ)) u).0 w.0, w.1)
    ]

nullables_append : (γ δ : List Sym) → T (nullables (γ ++ δ)) → T (nullables δ)
unfolding nullables
nullables_append [] δ t = t
nullables_append (tk m k ∷ γ) δ t = absurd t
nullables_append (nt M ∷ γ) δ t = nullables_append γ δ (and_right (nullable M) (nullables (γ ++ δ)) t)

-- a production's right-hand side in place of its nonterminal
pub ok_rule_lem : (M : NonTerminal) (γ δ : List Sym) → T (inside M γ) → Ok (nt M ∷ δ) → Ok (γ ++ δ)
unfolding inside
ok_rule_lem M [] δ t o = o.2
ok_rule_lem M (tk m k ∷ γ) δ t o = ok_rule_lem M γ δ t o
ok_rule_lem M (nt A ∷ γ) δ t o = (
  λ k u. elim (firsts_append k γ δ u) [
    | inl w ↦ within (firsts γ) (follow A) (and_left (subset (firsts γ) (follow A)) (choose (nullables γ) (subset (follow M) (follow A)) true && inside M γ) t)
        k w
    | inr w ↦ within (follow M) (follow A) (if_so (nullables γ) (subset (follow M) (follow A))
        (and_left (choose (nullables γ) (subset (follow M) (follow A)) true) (inside M γ)
        (and_right (subset (firsts γ) (follow A)) (choose (nullables γ) (subset (follow M) (follow A)) true && inside M γ) t)) w.0) k (o.0 k w.1)
  ],
  (λ u. o.1 (nullables_append γ δ u)),
  ok_rule_lem M γ δ (and_right (choose (nullables γ) (subset (follow M) (follow A)) true) (inside M γ)
      (and_right (subset (firsts γ) (follow A)) (choose (nullables γ) (subset (follow M) (follow A)) true && inside M γ) t)) o,
)

-- What a step says of σ, κ before it, with x the token: Q is what a skip shows besides.
-- Back: what is derived after it is derived before it. Forth: what is derived before it, from x on, is derived after it.
abbrev Back : (S : NonTerminal) (σ : List Sym) → Fun σ (Says S) → (γ : List Sym) → Fun γ (Says S) → Type 0
Back S σ κ γ κ' = (ts : List Token) (es : List Mark) (v : Says S) → Has S γ κ' ts es v → Has S σ κ ts es v

abbrev Forth : (S : NonTerminal) (x : Token) (σ : List Sym) → Fun σ (Says S) → (γ : List Sym) → Fun γ (Says S) → Type 0
Forth S x σ κ γ κ' = (ts : List Token) (es : List Mark) (v : Says S) → Has S σ κ (x ∷ ts) es v → Has S γ κ' (x ∷ ts) es v

-- the same where x is taken, with the mark m
abbrev pub Onto : (S : NonTerminal) (x : Token) (m : Mark) (σ : List Sym) → Fun σ (Says S) → (γ : List Sym) → Fun γ (Says S) → Type 0
Onto S x m σ κ γ κ' = (ts : List Token) (es : List Mark) (v : Says S) → Has S γ κ' ts es v → Has S σ κ (x ∷ ts) (m ∷ es) v

pub record Past (S : NonTerminal) (m : Mark) (γ : List Sym) (κ : Fun γ (Says S)) (ts : List Token) (es : List Mark) (v : Says S) : Type 0 where
  pub others : List Mark
  pub begin : es ≡ m ∷ others
  pub has : Has S γ κ ts others v

abbrev pub Off : (S : NonTerminal) (x : Token) (m : Mark) (σ : List Sym) → Fun σ (Says S) → (γ : List Sym) → Fun γ (Says S) → Type 0
Off S x m σ κ γ κ' = (ts : List Token) (es : List Mark) (v : Says S) → Has S σ κ (x ∷ ts) es v → Past S m γ κ' ts es v

abbrev pub Never : (S : NonTerminal) (x : Token) (σ : List Sym) → Fun σ (Says S) → Type 0
Never S x σ κ = (ts : List Token) (es : List Mark) (v : Says S) → Has S σ κ (x ∷ ts) es v → ⊥

abbrev pub Spec : (S : NonTerminal) (x : Token) (σ : List Sym) → Fun σ (Says S) → (γ : List Sym) → Type 0 → Step S γ → Type 0
Spec S x σ κ γ Q stuck = Never S x σ κ
Spec S x σ κ γ Q (skip κ') = Q × Back S σ κ γ κ' × Forth S x σ κ γ κ'
Spec S x σ κ γ Q (to m δ κ') = Ok δ × Onto S x m σ κ δ κ' × Off S x m σ κ δ κ'

-- one step after another
then_spec : (S : NonTerminal) (x : Token) (σ : List Sym) (κ : Fun σ (Says S)) (γ δ : List Sym) (P Q : Type 0) (κ' : Fun γ (Says S)) → Back S σ κ γ κ'
    → Forth S x σ κ γ κ' → (P → Q) → (s : Step S δ) → Spec S x γ κ' δ P s → Spec S x σ κ δ Q s
then_spec S x σ κ γ δ P Q κ' b f i stuck h = λ ts es v a. h ts es v (f ts es v a)
then_spec S x σ κ γ δ P Q κ' b f i (skip κ'') h = (i h.0, (λ ts es v a. b ts es v (h.1 ts es v a)), λ ts es v a. h.2 ts es v (f ts es v a))
then_spec S x σ κ γ δ P Q κ' b f i (to m ε κ'') h = (h.0, (λ ts es v a. b (x ∷ ts) (m ∷ es) v (h.1 ts es v a)), λ ts es v a. h.2 ts es v (f ts es v a))

on_skip_spec : (S : NonTerminal) (x : Token) (σ : List Sym) (κ : Fun σ (Says S)) (γ δ : List Sym) (P P' Q : Type 0) (s : Step S γ)
    (f : Fun γ (Says S) → Step S δ) → Spec S x σ κ γ P s → ((κ' : Fun γ (Says S)) → P → Spec S x γ κ' δ P' (f κ')) → (P → P' → Q)
    → Spec S x σ κ δ Q (on_skip s f)
unfolding on_skip
on_skip_spec S x σ κ γ δ P P' Q stuck f h g i = h
on_skip_spec S x σ κ γ δ P P' Q (skip κ') f h g i = then_spec S x σ κ γ δ P' Q κ' h.1 h.2 (i h.0) (f κ') (g κ' h.0)
on_skip_spec S x σ κ γ δ P P' Q (to m ε κ') f h g i = h

-- a token
token_up : (S : NonTerminal) (x : Token) (m : Mark) (k : ℕ) (δ : List Sym) (κ : Token → Fun δ (Says S)) → x.kind ≡ k → Onto S x m (tk m k ∷ δ) κ δ (κ x)
unfolding spans marks says_all
token_up S x m k δ κ e ts es v h = record
    { trees = token x e h.trees; spanned = ap (λ (l : List Token). x ∷ l) h.spanned; marked = ap (λ (l : List Mark). m ∷ l) h.marked; said = h.said }

token_down' : (S : NonTerminal) (x : Token) {m : Mark} {k : ℕ} {δ : List Sym} (κ : Token → Fun δ (Says S)) (ts : List Token) (es : List Mark) (v : Says S)
    (ds : Trees (tk m k ∷ δ)) → spans ds ≡ x ∷ ts → marks ds ≡ es → says_all ds S κ ≡ v → (x.kind ≡ k) × Past S m δ (κ x) ts es v
unfolding spans marks says_all
token_down' S x {m} {k} {δ} κ ts es v (token y w ds) e p q = (
  subst (λ (z : Token). z.kind ≡ k) (cons_head e) w,
  record {
    others = marks ds;
    begin = sym p;
    has = record { trees = ds; spanned = cons_tail e; marked = refl; said = subst (λ (z : Token). says_all ds S (κ z) ≡ v) (cons_head e) q };
  },
)

token_down : (S : NonTerminal) (x : Token) (m : Mark) (k : ℕ) (δ : List Sym) (κ : Token → Fun δ (Says S)) (ts : List Token) (es : List Mark) (v : Says S)
    → Has S (tk m k ∷ δ) κ (x ∷ ts) es v → (x.kind ≡ k) × Past S m δ (κ x) ts es v
token_down S x m k δ κ ts es v h = token_down' S x κ ts es v h.trees h.spanned h.marked h.said

shift_spec : (S : NonTerminal) (x : Token) (m : Mark) (k : ℕ) (δ γ : List Sym) (κ : Token → Fun δ (Says S)) (Q : Type 0) → Ok δ → (b : Bool)
    → eqb x.kind k ≡ b → Spec S x (tk m k ∷ δ) κ γ Q (shift S γ m δ b (κ x))
unfolding shift
shift_spec S x m k δ γ κ Q o true e = (o, token_up S x m k δ κ (eqb→eq x.kind k (subst T (sym e) tt)), λ ts es v h. (token_down S x m k δ κ ts es v h).1)
shift_spec S x m k δ γ κ Q o false e = λ ts es v h. subst T (ap (eqb x.kind) (token_down S x m k δ κ ts es v h).0 ∙ e) (eqb_refl x.kind)

-- a nonterminal, as rec has it
abbrev Entered : (S : NonTerminal) (x : Token) (n : ℕ) (rec : (M : NonTerminal) (γ : List Sym) → (Says M → Fun γ (Says S)) → Step S γ) → Type 0
Entered S x n rec = (M : NonTerminal) → rank M < n → (γ : List Sym) (κ : Says M → Fun γ (Says S)) → Ok (nt M ∷ γ)
    → Spec S x (nt M ∷ γ) κ γ (T (nullable M)) (rec M γ κ)

both : (a b : Bool) → T a → T b → T (a && b)
both true b t u = u
both false b t u = t

-- through the symbols of a right-hand side
through_spec : (S : NonTerminal) (x : Token) (n : ℕ) (rec : (M : NonTerminal) (γ : List Sym) → (Says M → Fun γ (Says S)) → Step S γ) → Entered S x n rec
    → (δ γ : List Sym) (κ : Fun (δ ++ γ) (Says S)) → T (lead n δ) → Ok (δ ++ γ) → Spec S x (δ ++ γ) κ γ (T (nullables δ)) (through S x rec δ γ κ)
unfolding through nullables lead
through_spec S x n rec h [] γ κ l o = (tt, (λ ts es v a. a), λ ts es v a. a)
through_spec S x n rec h (tk m k ∷ δ) γ κ l o = shift_spec S x m k (δ ++ γ) γ κ (T false) o (eqb x.kind k) refl
through_spec S x n rec h (nt M ∷ δ) γ κ l o =
    on_skip_spec S x (nt M ∷ (δ ++ γ)) κ (δ ++ γ) γ (T (nullable M)) (T (nullables δ)) (T (nullable M && nullables δ))
    (rec M (δ ++ γ) κ) (λ κ'. through S x rec δ γ κ')
    (h M (ltb→lt (rank M) n (and_left (ltb (rank M) n) (choose (nullable M) (lead n δ) true) l)) (δ ++ γ) κ o)
    (λ κ' u. through_spec S x n rec h δ γ κ' (if_so (nullable M) (lead n δ) (and_right (ltb (rank M) n) (choose (nullable M) (lead n δ) true) l) u) o.2)
    (both (nullable M) (nullables δ))

-- a tree of a nonterminal is by the production that the token's kind picks
picked : (S M : NonTerminal) (γ : List Sym) (κ : Says M → Fun γ (Says S)) → Ok (nt M ∷ γ)
    → (x : Token) (ts : List Token) (es : List Mark) (v : Says S) (b : By S M γ κ (x ∷ ts) es v) → pick (productions M) x.kind ≡ take b.rule
unfolding chosen
picked S M γ κ o x ts es v b =
    let r : Production M = b.rule in
    pick_finds x.kind b.one_of
    (elim (firsts_append x.kind r.rhs γ (starts b.has.trees x ts b.has.spanned)) [
      | inl u ↦ elem_left x.kind (firsts r.rhs) (choose (nullables r.rhs) (follow M) []) u
      | inr u ↦ elem_right x.kind (firsts r.rhs) (choose (nullables r.rhs) (follow M) [])
          (choose_elem x.kind (nullables r.rhs) (follow M) u.0 (o.0 x.kind u.1))
    ])

lower : (n m : ℕ) (rec-M : ℕ) → m < suc n → rec-M < m → rec-M < n
lower n m k h g = omega arith

by_rule_spec : (S : NonTerminal) (x : Token) (n : ℕ) (rec : (M : NonTerminal) (γ : List Sym) → (Says M → Fun γ (Says S)) → Step S γ) → Entered S x n rec
    → (M : NonTerminal) → rank M < suc n → (γ : List Sym) (κ : Says M → Fun γ (Says S)) → Ok (nt M ∷ γ) → (p : Pick M) → pick (productions M) x.kind ≡ p
    → Spec S x (nt M ∷ γ) κ γ (T (nullable M)) (by_rule S x rec M γ κ p)
unfolding by_rule
by_rule_spec S x n rec h M l γ κ o no_rule e = λ ts es v a.
    let b : By S M γ κ (x ∷ ts) es v = down S M γ κ (x ∷ ts) es v a in
    no_rule_take (sym e ∙ picked S M γ κ o x ts es v b)
by_rule_spec S x n rec h M l γ κ o (take r) e =
    then_spec S x (nt M ∷ γ) κ (r.rhs ++ γ) γ (T (nullables r.rhs)) (T (nullable M)) (compose M S r.rhs γ r.says κ)
    (λ ts es v a. up S M γ κ ts es v (record { rule = r; one_of = m; has = a }))
    (λ ts es v a.
    let b : By S M γ κ (x ∷ ts) es v = down S M γ κ (x ∷ ts) es v a in
    subst (λ (q : Production M). Has S (q.rhs ++ γ) (compose M S q.rhs γ q.says κ) (x ∷ ts) es v)
    (take_same b.rule r (sym (picked S M γ κ o x ts es v b) ∙ e)) b.has)
    (vanishes m)
    (through S x rec r.rhs γ (compose M S r.rhs γ r.says κ))
    (through_spec S x (rank M) rec (λ A q. h A (lower n (rank M) (rank A) l q)) r.rhs γ (compose M S r.rhs γ r.says κ) (lead_ok m)
    (ok_rule_lem M r.rhs γ (inside_ok m) o))
  where
    m : r ∈ productions M
    m = pick_rule r x.kind e

enter_spec : (n : ℕ) (S : NonTerminal) (x : Token) → Entered S x n (enter n S x)
unfolding enter
enter_spec zero S x M l γ κ o = absurd (below l)
  where
    below : {m : ℕ} → m < 0 → ⊥
    below h = omega arith
enter_spec (suc n) S x M l γ κ o = by_rule_spec S x n (enter n S x) (enter_spec n S x) M l γ κ o (pick (productions M) x.kind) refl

either_way : (b : Bool) → T (choose b true true)
either_way true = tt
either_way false = tt

lead_one : (M : NonTerminal) → T (lead 8 (nt M ∷ []))
unfolding lead
lead_one M = both (ltb (rank M) 8) (choose (nullable M) true true) (rank_ok M) (either_way (nullable M))

-- through all that is still to come
pub advance_spec : (S : NonTerminal) (x : Token) (γ : List Sym) (κ : Fun γ (Says S)) → Ok γ → Spec S x γ κ [] (Unit {0}) (advance S x γ κ)
unfolding advance through
advance_spec S x [] κ o = (tt, (λ ts es v a. a), λ ts es v a. a)
advance_spec S x (tk m k ∷ γ) κ o =
    on_skip_spec S x (tk m k ∷ γ) κ γ [] (Unit {0}) (Unit {0}) (Unit {0}) (through S x (enter 8 S x) (tk m k ∷ []) γ κ) (λ κ'. advance S x γ κ')
    (shift_spec S x m k γ γ κ (Unit {0}) o (eqb x.kind k) refl)
    (λ κ' u. advance_spec S x γ κ' o) (λ u w. tt)
advance_spec S x (nt M ∷ γ) κ o =
    on_skip_spec S x (nt M ∷ γ) κ γ [] (T (nullables (nt M ∷ []))) (Unit {0}) (Unit {0}) (through S x (enter 8 S x) (nt M ∷ []) γ κ) (λ κ'. advance S x γ κ')
    (through_spec S x 8 (enter 8 S x) (enter_spec 8 S x) (nt M ∷ []) γ κ (lead_one M) o)
    (λ κ' u. advance_spec S x γ κ' o.2) (λ u w. tt)
