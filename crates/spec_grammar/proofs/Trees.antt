-- Derivation trees: laid end to end and cut again, and what they can begin with. Assumes nothing.
use mathlib.Core.Path.{◌≡◌, refl, sym, ◌∙◌, subst, ap}
use mathlib.Core.Bool.{Bool, true, false, ◌&&◌}
use mathlib.Core.List.{List, [], ◌∷◌, ◌++◌, append_assoc}
use Prim.Native.Nat.{ℕ}
use native.Mathlib.Omega.{arith}
use lib.Dec.{T, eqb, eqb_refl}
use Rattle.spec_grammar.specs.Token.{Token}
use Rattle.spec_grammar.specs.Grammar.{NonTerminal, Says, Mark, Sym, tk, nt, Fun, Production, productions}
use Rattle.spec_grammar.specs.Derivation.{◌∈◌, Tree, by, Trees, empty, token, child, span, spans, mark, marks, says, says_all}
use Rattle.spec_grammar.specs.Reader.{nullable, first, elem, choose, nullables, firsts, compose}
use Rattle.spec_grammar.proofs.Sets.{elem_left, elem_right, choose_elem, or_left}
use Rattle.spec_grammar.proofs.Tables.{begins, vanishes}

-- Lists of tokens.
pub cons_head : {x y : Token} {a b : List Token} → x ∷ a ≡ y ∷ b → x ≡ y
cons_head e = cc

pub cons_tail : {x y : Token} {a b : List Token} → x ∷ a ≡ y ∷ b → a ≡ b
cons_tail e = cc

pub nil_cons : {x : Token} {a : List Token} → [] ≡ x ∷ a → ⊥
nil_cons e = let z : ◌≡◌ {A = ℕ} 0 1 = cc in omega arith

-- End to end.
unfoldable pub join : {γ δ : List Sym} → Trees γ → Trees δ → Trees (γ ++ δ)
join empty bs = bs
join (token x e cs) bs = token x e (join cs bs)
join (child d cs) bs = child d (join cs bs)

pub spans_join : {γ δ : List Sym} (cs : Trees γ) (bs : Trees δ) → spans (join cs bs) ≡ spans cs ++ spans bs
unfolding join spans
spans_join empty bs = refl
spans_join (token x e cs) bs = ap (λ (l : List Token). x ∷ l) (spans_join cs bs)
spans_join (child d cs) bs = ap (λ (l : List Token). span d ++ l) (spans_join cs bs) ∙ sym (append_assoc (span d) (spans cs) (spans bs))

pub marks_join : {γ δ : List Sym} (cs : Trees γ) (bs : Trees δ) → marks (join cs bs) ≡ marks cs ++ marks bs
unfolding join marks
marks_join empty bs = refl
marks_join (token {m} x e cs) bs = ap (λ (l : List Mark). m ∷ l) (marks_join cs bs)
marks_join (child d cs) bs = ap (λ (l : List Mark). mark d ++ l) (marks_join cs bs) ∙ sym (append_assoc (mark d) (marks cs) (marks bs))

pub says_join : (M S : NonTerminal) {γ δ : List Sym} (cs : Trees γ) (bs : Trees δ) (f : Fun γ (Says M)) (κ : Says M → Fun δ (Says S))
    → says_all (join cs bs) S (compose M S γ δ f κ) ≡ says_all bs S (κ (says_all cs M f))
unfolding join says_all compose
says_join M S empty bs f κ = refl
says_join M S (token x e cs) bs f κ = says_join M S cs bs (f x) κ
says_join M S (child d cs) bs f κ = says_join M S cs bs (f (says d)) κ

-- Cut.
pub record Cut (γ δ : List Sym) (ds : Trees (γ ++ δ)) : Type 0 where
  pub front : Trees γ
  pub back : Trees δ
  pub whole : join front back ≡ ds

pub cut : (γ δ : List Sym) (ds : Trees (γ ++ δ)) → Cut γ δ ds
unfolding join
cut [] δ ds = record { front = empty; back = ds; whole = refl }
cut (tk m k ∷ γ) δ (token x e ds) =
    let c : Cut γ δ ds = cut γ δ ds in
    record { front = token x e c.front; back = c.back; whole = ap (token x e) c.whole }
cut (nt M ∷ γ) δ (child d ds) =
    let c : Cut γ δ ds = cut γ δ ds in
    record { front = child d c.front; back = c.back; whole = ap (child d) c.whole }

-- A list of symbols derives the tokens ts, with the marks es, which say v.
pub record Has (S : NonTerminal) (γ : List Sym) (κ : Fun γ (Says S)) (ts : List Token) (es : List Mark) (v : Says S) : Type 0 where
  pub trees : Trees γ
  pub spanned : spans trees ≡ ts
  pub marked : marks trees ≡ es
  pub said : says_all trees S κ ≡ v

-- A nonterminal is derived as the right-hand side of a production is.
pub record By (S M : NonTerminal) (γ : List Sym) (κ : Says M → Fun γ (Says S)) (ts : List Token) (es : List Mark) (v : Says S) : Type 0 where
  pub rule : Production M
  pub one_of : rule ∈ productions M
  pub has : Has S (rule.rhs ++ γ) (compose M S rule.rhs γ rule.says κ) ts es v

down' : (S : NonTerminal) {M : NonTerminal} {γ : List Sym} (κ : Says M → Fun γ (Says S)) (ts : List Token) (es : List Mark) (v : Says S) (ds : Trees (nt M ∷ γ))
    → spans ds ≡ ts → marks ds ≡ es → says_all ds S κ ≡ v → By S M γ κ ts es v
unfolding spans marks says_all
down' S {M} {γ} κ ts es v (child (by r m cs) bs) e q w =
    record {
      rule = r;
      one_of = m;
      has = record
          { trees = join cs bs; spanned = spans_join cs bs ∙ e; marked = marks_join cs bs ∙ q; said = says_join M S cs bs r.says κ ∙ w };
    }

pub down : (S M : NonTerminal) (γ : List Sym) (κ : Says M → Fun γ (Says S)) (ts : List Token) (es : List Mark) (v : Says S) → Has S (nt M ∷ γ) κ ts es v
    → By S M γ κ ts es v
down S M γ κ ts es v h = down' S κ ts es v h.trees h.spanned h.marked h.said

pub up : (S M : NonTerminal) (γ : List Sym) (κ : Says M → Fun γ (Says S)) (ts : List Token) (es : List Mark) (v : Says S) → By S M γ κ ts es v
    → Has S (nt M ∷ γ) κ ts es v
unfolding spans marks says_all
up S M γ κ ts es v b =
    let r : Production M = b.rule in
    let c : Cut r.rhs γ b.has.trees = cut r.rhs γ b.has.trees in
    record {
      trees = child (by r b.one_of c.front) c.back;
      spanned = sym (spans_join c.front c.back) ∙ (ap spans c.whole ∙ b.has.spanned);
      marked = sym (marks_join c.front c.back) ∙ (ap marks c.whole ∙ b.has.marked);
      said = sym (says_join M S c.front c.back r.says κ)
          ∙ (ap (λ (t : Trees (r.rhs ++ γ)). says_all t S (compose M S r.rhs γ r.says κ)) c.whole ∙ b.has.said);
    }

-- What a tree can begin with, and which parts can be empty.
starts_case : (M : NonTerminal) (γ : List Sym) (l m : List Token) (x : Token) (ts : List Token) → l ++ m ≡ x ∷ ts → (l ≡ [] → T (nullable M))
    → ((y : Token) (us : List Token) → l ≡ y ∷ us → T (elem y.kind (first M))) → (m ≡ x ∷ ts → T (elem x.kind (firsts γ)))
    → T (elem x.kind (first M ++ choose (nullable M) (firsts γ) []))
starts_case M γ [] m x ts e n f g = elem_right x.kind (first M) (choose (nullable M) (firsts γ) [])
    (choose_elem x.kind (nullable M) (firsts γ) (n refl) (g e))
starts_case M γ (y ∷ l) m x ts e n f g =
    elem_left x.kind (first M) (choose (nullable M) (firsts γ) []) (subst (λ (z : Token). T (elem z.kind (first M))) (cons_head e) (f y l refl))

empty_left : (l m : List Token) → l ++ m ≡ [] → l ≡ []
empty_left [] m e = refl
empty_left (x ∷ l) m e = absurd (nil_cons (sym e))

pub empty_right : (l m : List Token) → l ++ m ≡ [] → m ≡ []
empty_right [] m e = e
empty_right (x ∷ l) m e = absurd (nil_cons (sym e))

both : (a b : Bool) → T a → T b → T (a && b)
both true b t u = u
both false b t u = t

self : (k j : ℕ) → k ≡ j → T (elem k (j ∷ []))
unfolding elem
self k j e = or_left (eqb k j) false (subst (λ (i : ℕ). T (eqb k i)) e (eqb_refl k))

mutual
  unfolding span nullables firsts

  pub null : {M : NonTerminal} (d : Tree M) → span d ≡ [] → T (nullable M)
  null (by r m ds) e = vanishes m (nulls ds e)

  pub nulls : {γ : List Sym} (ds : Trees γ) → spans ds ≡ [] → T (nullables γ)
  nulls empty e = tt
  nulls (token x w ds) e = absurd (nil_cons (sym e))
  nulls (child {M} {γ} d ds) e = both (nullable M) (nullables γ) (null d (empty_left (span d) (spans ds) e)) (nulls ds (empty_right (span d) (spans ds) e))

  pub start : {M : NonTerminal} (d : Tree M) (x : Token) (ts : List Token) → span d ≡ x ∷ ts → T (elem x.kind (first M))
  start (by r m ds) x ts e = begins m x.kind (starts ds x ts e)

  pub starts : {γ : List Sym} (ds : Trees γ) (x : Token) (ts : List Token) → spans ds ≡ x ∷ ts → T (elem x.kind (firsts γ))
  starts empty x ts e = absurd (nil_cons e)
  starts (token {k} y w ds) x ts e = self x.kind k (subst (λ (z : Token). z.kind ≡ k) (cons_head e) w)
  starts (child {M} {γ} d ds) x ts e = starts_case M γ (span d) (spans ds) x ts e (λ n. null d n) (λ y us q. start d y us q) (λ q. starts ds x ts q)
