-- The process of a text within the limits is well typed: what an expression of the tree means has, by the design's own rules, the type that the tree
-- gives it and as many items, and initial values are of their types. By induction on the meaning (Means, Does) and on the groups. Assumes nothing.
use mathlib.Core.Path.{◌≡◌, refl, ◌∙◌, ap}
use mathlib.Core.Bool.{Bool, true, false, cond}
use mathlib.Core.Option.{Option, some}
use mathlib.Core.List.{List, [], ◌∷◌, map}
use Prim.Native.Nat.{ℕ, zero, suc, ◌≤◌}
use native.Mathlib.Omega.{arith}
use lib.Dec.{eqb, leb, le→leb}
use lib.IntN.{pos}
use Rattle.spec_grammar.specs.Token.{Token}
use Rattle.spec_grammar.specs.Tree as G
use Rattle.spec_grammar.specs.Tree.{Body, Init, Group}
use Rattle.spec_grammar.specs.Limits.{Each, expr_numbers, exprs_numbers, init_numbers, group_numbers, stmt_exprs, body_exprs, item_count}
use Rattle.spec_grammar.proofs.Each.{each_split, each_join}
use Rattle.spec_design.specs.Types.{Ty, std_logic, integer, ExprTy, same_ty, in_range, in_type}
use Rattle.spec_design.specs.Expression.{Expr, items, nth, plainly, leaf_type, given, given2, type_of, type_of_unary, type_of_binary}
use Rattle.spec_design.specs.Expression as E
use Rattle.spec_design.specs.Statement as D
use Rattle.spec_design.specs.Process.{source_types, slot_types, is_type, fits, typed_act, typed, Initialised}
use Rattle.spec_design.proofs.Types.{same_ty_eq, same_type_refl}
use Rattle.spec_language.specs.Lists.{each, filter}
use Rattle.spec_language.specs.Declarations.{Decl, Scope, type_named, declare, spread, is_input}
use Rattle.spec_language.specs.Typing.{initial_of, initials_of}
use Rattle.spec_language.specs.Values.{first_at, missing, values_of}
use Rattle.spec_language.specs.Elaboration.{Kth, here, there, Means, Does, DoesAll, bit_value, minus, initial, source, slot}
use Rattle.spec_language.specs.Elaboration as L
use Rattle.spec_language.proofs.Facts.{no_cons, both_nil, unless_nil, T_is}

-- LITERALS

-- "literal 2147483647"
abbrev pub Small : Token → Type 0
Small x = x.value ≤ 2147483647

-- a number within the limit, and its negative, are integers
number_fits : (n : ℕ) → n ≤ 2147483647 → in_range (pos n) ≡ true
unfolding in_range
number_fits n h = T_is (leb n 2147483647) (le→leb n 2147483647 h)

minus_fits : (n : ℕ) → n ≤ 2147483647 → in_range (minus n) ≡ true
unfolding minus in_range
minus_fits zero h = refl
minus_fits (suc n) h = rw (T_is (leb n 2147483647) (le→leb n 2147483647 (omega arith)))

-- an expression within the limits on items and literals
pub record Bounded (e : G.Expr) : Type 0 where
  pub items : item_count e ≤ 64
  pub literals : Each Small (expr_numbers e)

-- from the limits on a text's expressions and literals
pub bounded : (es : List G.Expr) → Each (λ (e : G.Expr). item_count e ≤ 64) es → Each Small (exprs_numbers es) → Each Bounded es
unfolding exprs_numbers
bounded [] i n = tt
bounded (e ∷ es) i n = let s = each_split Small (expr_numbers e) (exprs_numbers es) n in (record { items = i.0; literals = s.0 }, bounded es i.1 s.1)

-- EXPRESSIONS

-- the types of declarations, in declared order
abbrev pub types : List Decl → List Ty
types ds = map (λ (d : Decl). d.type) ds

-- the k-th of a list of declarations has the k-th type
nth_kth : {ds : List Decl} {v k : ℕ} {t : Ty} → Kth ds v k t → nth (types ds) k ≡ some t
unfolding nth
nth_kth (here e) = refl
nth_kth (there h) = nth_kth h

-- operators whose operands have their type
given_same : (f : ExprTy → Option ExprTy) (t : ExprTy) (o : Option ExprTy) → o ≡ some t → given f t o ≡ f t
unfolding given
given_same f t o e = rw (e, same_type_refl t)

given2_same : (f : ExprTy → Option ExprTy) (t : ExprTy) (o q : Option ExprTy) → o ≡ some t → q ≡ some t → given2 f t o q ≡ f t
unfolding given2
given2_same f t o q e g = rw (e, same_type_refl t) (given_same f t q g)

module _ (Γ : Scope) where
  -- the design's type of what an expression means is the tree's
  pub has_type : {e : G.Expr} {c : Expr} {t : ExprTy} → Means Γ e c t → Each Small (expr_numbers e)
      → type_of (types Γ.inputs) (types Γ.variables) c ≡ some t
  unfolding expr_numbers type_of leaf_type plainly type_of_unary
  has_type (L.Means.number x) h = rw (number_fits x.value h.0)
  has_type (L.Means.bit x) h = refl
  has_type (L.Means.input x k) h = ap plainly (nth_kth k)
  has_type (L.Means.variable x k) h = ap plainly (nth_kth k)
  has_type (L.Means.sign {c} {t} x e m) h = given_same (type_of_unary E.sign) t (type_of (types Γ.inputs) (types Γ.variables) c) (has_type m h) ∙ e
  has_type (L.Means.invert {c} {t} x e m) h = given_same (type_of_unary E.invert) t (type_of (types Γ.inputs) (types Γ.variables) c) (has_type m h) ∙ e
  has_type (L.Means.binary {a} {b} {c} {d} {o} {t} x f e m n) h =
      let s = each_split Small (expr_numbers a) (expr_numbers b) h in
      given2_same (type_of_binary o) t (type_of (types Γ.inputs) (types Γ.variables) c) (type_of (types Γ.inputs) (types Γ.variables) d)
      (has_type m s.0) (has_type n s.1) ∙ e
  has_type (L.Means.parens m) h = has_type m h

  -- and it has as many items
  pub items_means : {e : G.Expr} {c : Expr} {t : ExprTy} → Means Γ e c t → items c ≡ item_count e
  unfolding items item_count
  items_means (L.Means.number x) = refl
  items_means (L.Means.bit x) = refl
  items_means (L.Means.input x k) = refl
  items_means (L.Means.variable x k) = refl
  items_means (L.Means.sign x e m) = ap suc (items_means m)
  items_means (L.Means.invert x e m) = ap suc (items_means m)
  items_means (L.Means.binary x f e m n) = rw (items_means m, items_means n)
  items_means (L.Means.parens m) = items_means m

  -- so it fits where that type is needed
  fits_means : {e : G.Expr} {c : Expr} {t : ExprTy} → Means Γ e c t → Bounded e → fits (types Γ.inputs) (types Γ.variables) c (some t) ≡ true
  unfolding fits is_type
  fits_means {e} {c} {t} m b =
      let i = items_means m in
      let k : leb (items c) 64 ≡ true = T_is (leb (items c) 64) (le→leb (items c) 64 (let h = b.items in omega arith)) in
      rw (k, has_type m b.literals) (same_type_refl t)

  -- STATEMENTS

  -- every target and condition fits
  mutual
    unfolding stmt_exprs body_exprs typed typed_act plainly

    does_typed : {s : G.Stmt} {r : D.Stmt} → Does Γ s r → Each Bounded (stmt_exprs s)
        → typed (types Γ.inputs) (types Γ.outputs) (types Γ.variables) r ≡ true
    does_typed (L.Does.output x k m) h = rw (nth_kth k) (fits_means m h.0)
    does_typed (L.Does.assign x k m) h = rw (nth_kth k) (fits_means m h.0)
    does_typed L.Does.null h = refl
    does_typed (L.Does.wait x) h = refl
    does_typed (L.Does.if_then x m a) h = rw (fits_means m h.0) (all_typed a h.1)
    does_typed (L.Does.if_else {a} {b} x m p q) h =
        let s = each_split Bounded (body_exprs a) (body_exprs b) h.1 in
        rw (fits_means m h.0, all_typed p s.0) (all_typed q s.1)
    does_typed (L.Does.while x m a) h = rw (fits_means m h.0) (all_typed a h.1)

    pub all_typed : {b : Body} {r : D.Stmt} → DoesAll Γ b r → Each Bounded (body_exprs b)
        → typed (types Γ.inputs) (types Γ.outputs) (types Γ.variables) r ≡ true
    all_typed (L.DoesAll.only d) h = does_typed d h
    all_typed (L.DoesAll.and_then {s} {b} d p) h =
        let k = each_split Bounded (stmt_exprs s) (body_exprs b) h in
        rw (does_typed d k.0) (all_typed p k.1)

-- the types of a process's inputs, outputs and variables are those declared
pub source_types_lem : (ds : List Decl) → source_types (map source ds) ≡ types ds
unfolding source
source_types_lem [] = refl
source_types_lem (d ∷ ds) = ap (λ (l : List Ty). d.type ∷ l) (source_types_lem ds)

pub slot_types_lem : (ds : List Decl) → slot_types (map slot ds) ≡ types ds
unfolding slot
slot_types_lem [] = refl
slot_types_lem (d ∷ ds) = ap (λ (l : List Ty). d.type ∷ l) (slot_types_lem ds)

-- INITIAL VALUES

bit_fits : (b : Bool) → in_type std_logic (bit_value b) ≡ true
unfolding in_type bit_value
bit_fits true = refl
bit_fits false = refl

-- a value that is there, of the right type and not too large
init_fits : (t : Ty) (i : Init) (xs : List Token) (x : Token) → initial_of t i ≡ [] → missing (x ∷ xs) i ≡ []
    → Each Small (init_numbers i) → in_type t (initial i) ≡ true
unfolding initial_of missing first_at initial init_numbers in_type
init_fits t G.without xs x a b h = no_cons b
init_fits t (G.integer_literal y) xs x a b h = rw (same_ty_eq t integer (unless_nil (same_ty t integer) y.place a)) (number_fits y.value h.0)
init_fits t (G.logic_literal y) xs x a b h = rw (same_ty_eq t std_logic (unless_nil (same_ty t std_logic) y.place a)) (bit_fits (eqb y.value 1))
init_fits t (G.minus s y) xs x a b h = rw (same_ty_eq t integer (unless_nil (same_ty t integer) s.place a)) (minus_fits y.value h.0)

-- where d is an output or a variable, its initial value is of its type
abbrev Held : Decl → Type 0
Held d = is_input d.mode ≡ false → in_type d.type (initial d.init) ≡ true

-- the declarations of a group, and of groups, without offences of 6 and 7
held_declare : (g : Group) (xs : List Token) → (is_input g.mode ≡ false → in_type (type_named g.type) (initial g.init) ≡ true) → Each Held (declare g xs)
unfolding declare
held_declare g [] h = tt
held_declare g (x ∷ xs) h = (h, held_declare g xs h)

held_group : (g : Group) (xs : List Token) → cond (is_input g.mode) [] (initial_of (type_named g.type) g.init) ≡ []
    → cond (is_input g.mode) [] (missing xs g.init) ≡ [] → Each Small (init_numbers g.init) → Each Held (declare g xs)
unfolding declare
held_group g [] a b n = tt
held_group g (x ∷ xs) a b n = held_declare g (x ∷ xs) (λ e. init_fits (type_named g.type) g.init xs x (rw e at a) (rw e at b) n)

held_groups : (gs : List Group) → each initials_of gs ≡ [] → each values_of gs ≡ [] → Each Small (group_numbers gs) → Each Held (spread gs)
unfolding each spread initials_of values_of group_numbers
held_groups [] a b n = tt
held_groups (g ∷ gs) a b n =
    let s = both_nil (initials_of g) (each initials_of gs) a in
    let r = both_nil (values_of g) (each values_of gs) b in
    let m = each_split Small (init_numbers g.init) (group_numbers gs) n in
    each_join Held (declare g g.names) (spread gs) (held_group g g.names s.0 r.0 m.0) (held_groups gs s.1 r.1 m.1)

held_slots : (p : Decl → Bool) → ((d : Decl) → p d ≡ true → is_input d.mode ≡ false) → (Δ : List Decl) → Each Held Δ → Initialised (map slot (filter p Δ))
unfolding filter slot
held_slots p h [] k = tt
held_slots p h (d ∷ Δ) k = go (p d) refl (held_slots p h Δ k.1)
  where
    go : (b : Bool) → p d ≡ b → Initialised (map slot (filter p Δ)) → Initialised (map slot (cond b (d ∷ filter p Δ) (filter p Δ)))
    go true e r = (k.0 (h d e), r)
    go false e r = r

-- the outputs, or the variables, that such groups declare
pub initialised : (p : Decl → Bool) → ((d : Decl) → p d ≡ true → is_input d.mode ≡ false) → (gs : List Group) → each initials_of gs ≡ []
    → each values_of gs ≡ []
    → Each Small (group_numbers gs) → Initialised (map slot (filter p (spread gs)))
initialised p h gs a b n = held_slots p h (spread gs) (held_groups gs a b n)
