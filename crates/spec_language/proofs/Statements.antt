-- Statements without offences mean the computed statement and nothing else, and its classes are the tree's. Assumes nothing.
use mathlib.Core.Path.{◌≡◌, refl, sym, ◌∙◌, ap, subst}
use mathlib.Core.Bool.{Bool, true}
use mathlib.Core.Option.{Option, none, some}
use mathlib.Core.List.{List, [], ◌∷◌, ◌++◌}
use Prim.Native.Nat.{ℕ}
use Rattle.spec_grammar.specs.Token.{Token}
use Rattle.spec_grammar.specs.Tree as T
use Rattle.spec_grammar.specs.Tree.{Expr, Body}
use Rattle.spec_design.specs.Types.{Ty, ExprTy, plain, boolean, same_type}
use Rattle.spec_design.specs.Statement as D
use Rattle.spec_design.specs.Statement.{Class, A, B, C, seq_class, if_class, class_of, LoopsC}
use Rattle.spec_design.proofs.Types.{same_type_eq}
use Rattle.spec_language.specs.Lists.{unless, each, filter}
use Rattle.spec_language.specs.Declarations.{Decl, Scope, scope_for, find, is_a, is_output, is_variable, type_in, within, statements}
use Rattle.spec_language.specs.Names.{doubled, names_in, names_of}
use Rattle.spec_language.specs.Typing.{type_of, types_in, wants, types_of}
use Rattle.spec_language.specs.Clock.{reads_in, reads_of}
use Rattle.spec_language.specs.Classes.{pair, looped, class, classes}
use Rattle.spec_language.specs.Elaboration.{Kth, Means, Does, DoesAll, output, assign, null, wait, if_then, if_else, while, only, and_then, position, code}
use Rattle.spec_language.specs.Elaboration.{stmt, stmts}
use Rattle.spec_language.proofs.Facts.{clash, no_some, both_nil, each_nil, unless_nil, kth_found, found_kth}
use Rattle.spec_language.proofs.Expressions.{Unread, typed}
use Rattle.spec_language.proofs.Expressions as E

abbrev pub Unreads : Option Token → List T.Stmt → Type 0
Unreads none l = Unit {0}
Unreads (some w) l = each (reads_of w.value) l ≡ []

abbrev UnreadBy : Option Token → T.Stmt → Type 0
UnreadBy none s = Unit {0}
UnreadBy (some w) s = reads_of w.value s ≡ []

-- no offence of 5, 6 and 8 in a list of statements; in one
pub record Fair (Δ : List Decl) (c : Option Token) (l : List T.Stmt) : Type 0 where
  pub names : each (names_of Δ) l ≡ []
  pub types : each (types_of Δ) l ≡ []
  pub reads : Unreads c l

record FairOne (Δ : List Decl) (c : Option Token) (s : T.Stmt) : Type 0 where
  names : names_of Δ s ≡ []
  types : types_of Δ s ≡ []
  reads : UnreadBy c s

unreads_append : (c : Option Token) (a b : List T.Stmt) → Unreads c (a ++ b) → Unreads c a × Unreads c b
unreads_append none a b u = (tt, tt)
unreads_append (some w) a b u = each_nil (reads_of w.value) a b u

unreads_cons : (c : Option Token) (s : T.Stmt) (l : List T.Stmt) → Unreads c (s ∷ l) → UnreadBy c s × Unreads c l
unfolding each
unreads_cons none s l u = (tt, tt)
unreads_cons (some w) s l u = both_nil (reads_of w.value s) (each (reads_of w.value) l) u

fair_append : (Δ : List Decl) (c : Option Token) (a b : List T.Stmt) → Fair Δ c (a ++ b) → Fair Δ c a × Fair Δ c b
fair_append Δ c a b f =
    let n = each_nil (names_of Δ) a b f.names in
    let t = each_nil (types_of Δ) a b f.types in
    let u = unreads_append c a b f.reads in
    (record { names = n.0; types = t.0; reads = u.0 }, record { names = n.1; types = t.1; reads = u.1 })

fair_cons : (Δ : List Decl) (c : Option Token) (s : T.Stmt) (l : List T.Stmt) → Fair Δ c (s ∷ l) → FairOne Δ c s × Fair Δ c l
unfolding each
fair_cons Δ c s l f =
    let n = both_nil (names_of Δ s) (each (names_of Δ) l) f.names in
    let t = both_nil (types_of Δ s) (each (types_of Δ) l) f.types in
    let u = unreads_cons c s l f.reads in
    (record { names = n.0; types = t.0; reads = u.0 }, record { names = n.1; types = t.1; reads = u.1 })

-- an expression where a type is wanted has that type
wanted : (Δ : List Decl) (c : Option Token) (e : Expr) (w : Option ExprTy) (t : ExprTy) (p : ℕ) → w ≡ some t → names_in Δ e ≡ []
    → types_in Δ e ++ wants w (type_of Δ e) p ≡ [] → Unread c e → Means (scope_for Δ c) e (code Δ (scope_for Δ c) e) t
unfolding wants
wanted Δ c e w t p q n k u =
    let s = both_nil (types_in Δ e) (wants w (type_of Δ e) p) k in
    let i = typed Δ c e n s.0 u in
    fits i.type (type_of Δ e) i.typed s.1 i.means
  where
    fits : (r : ExprTy) (o : Option ExprTy) → o ≡ some r → wants w o p ≡ [] → Means (scope_for Δ c) e (code Δ (scope_for Δ c) e) r
        → Means (scope_for Δ c) e (code Δ (scope_for Δ c) e) t
    fits r o h k m = let z : unless (same_type t r) p ≡ [] = rw (q, h) at k in
        subst (Means (scope_for Δ c) e (code Δ (scope_for Δ c) e)) (sym (same_type_eq t r (unless_nil (same_type t r) p z))) m

unread_at : (c : Option Token) (s : T.Stmt) (e : Expr) → ((v : ℕ) → reads_of v s ≡ reads_in v e) → UnreadBy c s → Unread c e
unread_at none s e h u = tt
unread_at (some w) s e h u = sym (h w.value) ∙ u

-- a target that passes the test of its kind
pub is_a_some : (p : Decl → Bool) (o : Option Decl) → is_a p o ≡ true → (d : Decl) × (o ≡ some d) × (p d ≡ true)
unfolding is_a
is_a_some p none e = clash (sym e)
is_a_some p (some d) e = (d, refl, e)

record Target (p : Decl → Bool) (Δ : List Decl) (c : Option Token) (x : Token) (e : Expr) : Type 0 where
  type : Ty
  kth : Kth (filter p Δ) x.value (position (filter p Δ) x.value) type
  means : Means (scope_for Δ c) e (code Δ (scope_for Δ c) e) (plain type)

target : (p : Decl → Bool) (Δ : List Decl) (c : Option Token) (x : Token) (e : Expr) → unless (is_a p (find Δ x.value)) x.place ++ names_in Δ e ≡ []
    → types_in Δ e ++ wants (type_in (find Δ x.value)) (type_of Δ e) x.place ≡ [] → Unread c e → Target p Δ c x e
unfolding type_in
target p Δ c x e n k u =
    let m = both_nil (unless (is_a p (find Δ x.value)) x.place) (names_in Δ e) n in
    let d = is_a_some p (find Δ x.value) (unless_nil (is_a p (find Δ x.value)) x.place m.0) in
    let w : type_in (find Δ x.value) ≡ some (plain d.0.type) = ap type_in d.1 in
    record {
      type = d.0.type;
      kth = kth_found p Δ x.value d.0 d.1 d.2;
      means = wanted Δ c e (type_in (find Δ x.value)) (plain d.0.type)
          x.place w m.1 k u;
    }

-- without offences they mean the computed statement
mutual
  unfolding within statements stmt stmts names_of types_of reads_of scope_for

  pub does : (Δ : List Decl) (c : Option Token) (s : T.Stmt) → Fair Δ c (within s) → Does (scope_for Δ c) s (stmt Δ (scope_for Δ c) s)
  does Δ c (T.output x e) f =
      let h = (fair_cons Δ c (T.output x e) [] f).0 in
      let t = target (λ (d : Decl). is_output d.mode) Δ c x e h.names h.types (unread_at c (T.output x e) e (λ v. refl) h.reads) in
      output x t.kth t.means
  does Δ c (T.assign x e) f =
      let h = (fair_cons Δ c (T.assign x e) [] f).0 in
      let t = target (λ (d : Decl). is_variable d.mode) Δ c x e h.names h.types (unread_at c (T.assign x e) e (λ v. refl) h.reads) in
      assign x t.kth t.means
  does Δ c T.null f = null
  does Δ c (T.wait x) f = wait x
  does Δ c (T.if_then i e a) f =
      let h = fair_cons Δ c (T.if_then i e a) (statements a) f in
      if_then i (wanted Δ c e (some boolean) boolean i.place refl h.0.names h.0.types (unread_at c (T.if_then i e a) e (λ v. refl) h.0.reads))
      (does_all Δ c a h.1)
  does Δ c (T.if_else i e a b) f =
      let h = fair_cons Δ c (T.if_else i e a b) (statements a ++ statements b) f in
      let g = fair_append Δ c (statements a) (statements b) h.1 in
      if_else i (wanted Δ c e (some boolean) boolean i.place refl h.0.names h.0.types (unread_at c (T.if_else i e a b) e (λ v. refl) h.0.reads))
      (does_all Δ c a g.0) (does_all Δ c b g.1)
  does Δ c (T.while i e a) f =
      let h = fair_cons Δ c (T.while i e a) (statements a) f in
      while i (wanted Δ c e (some boolean) boolean i.place refl h.0.names h.0.types (unread_at c (T.while i e a) e (λ v. refl) h.0.reads))
      (does_all Δ c a h.1)

  pub does_all : (Δ : List Decl) (c : Option Token) (b : Body) → Fair Δ c (statements b) → DoesAll (scope_for Δ c) b (stmts Δ (scope_for Δ c) b)
  does_all Δ c (T.only s) f = only (does Δ c s f)
  does_all Δ c (T.and_then s b) f = let g = fair_append Δ c (within s) (statements b) f in and_then (does Δ c s g.0) (does_all Δ c b g.1)

-- and nothing else
module _ (Δ : List Decl) (c : Option Token) (n : doubled Δ ≡ []) where
  mutual
    unfolding stmt stmts scope_for

    pub does_only : {s : T.Stmt} {r : D.Stmt} → Does (scope_for Δ c) s r → stmt Δ (scope_for Δ c) s ≡ r
    does_only (output {k} {t} x h m) =
        let f = found_kth (λ (d : Decl). is_output d.mode) Δ x.value k t n h in
        let g = E.only Δ c n m in
        rw (f.position, g.coded)
    does_only (assign {k} {t} x h m) =
        let f = found_kth (λ (d : Decl). is_variable d.mode) Δ x.value k t n h in
        let g = E.only Δ c n m in
        rw (f.position, g.coded)
    does_only null = refl
    does_only (wait x) = refl
    does_only (if_then x m a) = let g = E.only Δ c n m in rw (g.coded, all_only a)
    does_only (if_else x m a b) = let g = E.only Δ c n m in rw (g.coded, all_only a, all_only b)
    does_only (while x m a) = let g = E.only Δ c n m in rw (g.coded, all_only a)

    pub all_only : {b : Body} {r : D.Stmt} → DoesAll (scope_for Δ c) b r → stmts Δ (scope_for Δ c) b ≡ r
    all_only (only s) = does_only s
    all_only (and_then s b) = rw (does_only s, all_only b)

-- classes
pub pair_some : (f : Class → Class → Class) (o q : Option Class) (k : Class) → pair f o q ≡ some k → (x y : Class) × (o ≡ some x) × (q ≡ some y) × (f x y ≡ k)
unfolding pair
pair_some f none q k e = no_some e
pair_some f (some x) none k e = no_some e
pair_some f (some x) (some y) k e = (x, y, refl, refl, cc)

some_eq : {x y : Class} → some x ≡ some y → x ≡ y
some_eq e = cc

pub looped_some : (o : Option Class) (k : Class) → looped o ≡ some k → (o ≡ some C) × (B ≡ k)
unfolding looped
looped_some none k e = no_some e
looped_some (some A) k e = no_some e
looped_some (some B) k e = no_some e
looped_some (some C) k e = (refl, cc)

pub record Classed (s : D.Stmt) (k : Class) : Type 0 where
  pub is : class_of s ≡ k
  pub good : LoopsC s

-- a classed tree's statement has that class, and every while in it a body of class C
mutual
  unfolding class classes stmt stmts class_of LoopsC

  pub classed : (Δ : List Decl) (Γ : Scope) (s : T.Stmt) (k : Class) → class s ≡ some k → Classed (stmt Δ Γ s) k
  classed Δ Γ (T.output x e) k h = record { is = cc; good = tt }
  classed Δ Γ (T.assign x e) k h = record { is = cc; good = tt }
  classed Δ Γ T.null k h = record { is = cc; good = tt }
  classed Δ Γ (T.wait x) k h = record { is = cc; good = tt }
  classed Δ Γ (T.if_then i e a) k h =
      let p = pair_some if_class (classes a) _ k h in
      let u = classed_all Δ Γ a p.0 p.2 in
      let z : A ≡ p.1 = some_eq p.3 in
      record { is = ap (λ (y : Class). if_class y A) u.is ∙ (ap (if_class p.0) z ∙ p.4); good = u.good }
  classed Δ Γ (T.if_else i e a b) k h =
      let p = pair_some if_class (classes a) (classes b) k h in
      let u = classed_all Δ Γ a p.0 p.2 in
      let v = classed_all Δ Γ b p.1 p.3 in
      record { is = ap (λ (y : Class). if_class y (class_of (stmts Δ Γ b))) u.is ∙ (ap (if_class p.0) v.is ∙ p.4); good = (u.good, v.good) }
  classed Δ Γ (T.while w e a) k h =
      let p = looped_some (classes a) k h in
      let u = classed_all Δ Γ a C p.0 in
      record { is = p.1; good = (u.is, u.good) }

  pub classed_all : (Δ : List Decl) (Γ : Scope) (b : Body) (k : Class) → classes b ≡ some k → Classed (stmts Δ Γ b) k
  classed_all Δ Γ (T.only s) k h = classed Δ Γ s k h
  classed_all Δ Γ (T.and_then s b) k h =
      let p = pair_some seq_class (class s) (classes b) k h in
      let u = classed Δ Γ s p.0 p.2 in
      let v = classed_all Δ Γ b p.1 p.3 in
      record { is = ap (λ (y : Class). seq_class y (class_of (stmts Δ Γ b))) u.is ∙ (ap (seq_class p.0) v.is ∙ p.4); good = (u.good, v.good) }
