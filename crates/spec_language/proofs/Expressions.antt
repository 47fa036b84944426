-- An expression without offences has one type and one meaning, and these are the computed ones: by induction on the expression. Assumes nothing.
use mathlib.Core.Path.{◌≡◌, refl, sym, ◌∙◌, ap, subst}
use mathlib.Core.Bool.{Bool, true, false, not}
use mathlib.Core.Option.{Option, none, some}
use mathlib.Core.List.{List, [], ◌++◌}
use Prim.Native.Nat.{ℕ}
use lib.Dec.{eqb}
use Rattle.spec_grammar.specs.Token.{Token}
use Rattle.spec_grammar.specs.Tree as T
use Rattle.spec_grammar.specs.Tree.{Mode}
use Rattle.spec_design.specs.Types.{Ty, std_logic, integer, ExprTy, plain, same_type}
use Rattle.spec_design.specs.Expression as E
use Rattle.spec_design.specs.Expression.{Expr, leaf, Binary, sum_type, logical_type, type_of_binary}
use Rattle.spec_design.proofs.Types.{same_type_eq, same_type_refl}
use Rattle.spec_language.specs.Declarations.{Decl, scope_for, find, is_a, is_input, is_output, is_variable, is_clock, is_data, type_in}
use Rattle.spec_language.specs.Names.{doubled, readable, names_in}
use Rattle.spec_language.specs.Typing.{on_one, result_of, on_two, type_of, wrong1, wrong2, types_in}
use Rattle.base_codes.specs.Operation.{operator_of}
use Rattle.spec_language.specs.Clock.{reads_in}
use Rattle.spec_language.specs.Elaboration.{Means, number, bit, input, variable, sign, invert, binary, parens, name_code, named, or_boolean}
use Rattle.spec_language.specs.Elaboration.{or_plus, code}
use Rattle.spec_language.proofs.Facts.{clash, no_cons, no_some, both_nil, unless_nil, not-true, find_name, kth_found, Found, found_kth}

-- the clock, where there is one, is not read
abbrev pub Unread : Option Token → T.Expr → Type 0
Unread none e = Unit {0}
Unread (some w) e = reads_in w.value e ≡ []

pub record Typed (Δ : List Decl) (c : Option Token) (e : T.Expr) : Type 0 where
  pub type : ExprTy
  pub typed : type_of Δ e ≡ some type
  pub means : Means (scope_for Δ c) e (code Δ (scope_for Δ c) e) type

unread_name : (c : Option Token) (x : Token) → Unread c (T.name x) → is_clock c x.value ≡ false
unfolding reads_in is_clock
unread_name none x u = refl
unread_name (some w) x u = not-true (eqb x.value w.value) (unless_nil (not (eqb x.value w.value)) x.place u)

unread_sign : (c : Option Token) (x : Token) (a : T.Expr) → Unread c (T.sign x a) → Unread c a
unfolding reads_in
unread_sign none x a u = tt
unread_sign (some w) x a u = u

unread_negate : (c : Option Token) (x : Token) (a : T.Expr) → Unread c (T.negate x a) → Unread c a
unfolding reads_in
unread_negate none x a u = tt
unread_negate (some w) x a u = u

unread_parens : (c : Option Token) (a : T.Expr) → Unread c (T.parens a) → Unread c a
unfolding reads_in
unread_parens none a u = tt
unread_parens (some w) a u = u

unread_both : (c : Option Token) (x : Token) (a b : T.Expr) → Unread c (T.binary x a b) → Unread c a × Unread c b
unfolding reads_in
unread_both none x a b u = (tt, tt)
unread_both (some w) x a b u = both_nil (reads_in w.value a) (reads_in w.value b) u

wrong1_some : (t : ExprTy) (r : Option ExprTy) (p : ℕ) → wrong1 (some t) r p ≡ [] → (u : ExprTy) × (r ≡ some u)
unfolding wrong1
wrong1_some t none p e = no_cons e
wrong1_some t (some u) p e = (u, refl)

result_of_some : (o : Option Binary) (t u : ExprTy) → result_of o t ≡ some u → (q : Binary) × (o ≡ some q) × (type_of_binary q t ≡ some u)
unfolding result_of
result_of_some none t u e = no_some e
result_of_some (some q) t u e = (q, refl, e)

on_two_some : (f : ExprTy → Option ExprTy) (t u r : ExprTy) → on_two f (some t) (some u) ≡ some r → (t ≡ u) × (f t ≡ some r)
unfolding on_two
on_two_some f t u r e = go (same_type t u) refl
  where
    go : (b : Bool) → same_type t u ≡ b → (t ≡ u) × (f t ≡ some r)
    go true q = (same_type_eq t u q, rw q at e)
    go false q = no_some (rw q at e)

-- an operator that is not wrong, on operands with types
judge1 : (f : ExprTy → Option ExprTy) (o : Option ExprTy) (t : ExprTy) (p : ℕ) → o ≡ some t → wrong1 o (on_one f o) p ≡ [] → (u : ExprTy) × (f t ≡ some u)
unfolding on_one
judge1 f o t p q e = let e' : wrong1 (some t) (f t) p ≡ [] = rw q at e in wrong1_some t (f t) p e'

judge2 : (f : ExprTy → Option ExprTy) (o s : Option ExprTy) (t u : ExprTy) (p : ℕ) → o ≡ some t → s ≡ some u → wrong2 o s (on_two f o s) p ≡ []
    → (t ≡ u) × (r : ExprTy) × (f t ≡ some r)
unfolding wrong2
judge2 f o s t u p q h e =
    let e' : wrong1 (some u) (on_two f (some t) (some u)) p ≡ [] = rw (q, h) at e in
    let w = wrong1_some u (on_two f (some t) (some u)) p e' in
    let d = on_two_some f t u w.0 w.1 in
    (d.0, w.0, d.1)

-- a name
read_name : (Δ : List Decl) (c : Option Token) (x : Token) → names_in Δ (T.name x) ≡ [] → Unread c (T.name x) → Typed Δ c (T.name x)
unfolding names_in type_of code named type_in is_a readable is_data is_input is_output is_variable scope_for name_code
read_name Δ c x n u = go (find Δ x.value) refl
  where
    ok : is_a readable (find Δ x.value) ≡ true
    ok = unless_nil (is_a readable (find Δ x.value)) x.place n

    at : (d : Decl) (m : Mode) → d.mode ≡ m → find Δ x.value ≡ some d → Typed Δ c (T.name x)
    at d T.input h f =
        let z : is_clock c d.name.value ≡ false = ap (is_clock c) (find_name Δ x.value d f) ∙ unread_name c x u in
        let p : is_data c d ≡ true = rw (h, z) in
        record { type = plain d.type; typed = rw f; means = rw (f, h) (input x (kth_found (is_data c) Δ x.value d f p)) }
    at d T.output_port h f = clash (sym ok ∙ rw (f, h))
    at d T.variable_mode h f =
        let p : is_variable d.mode ≡ true = rw h in
        record { type = plain d.type; typed = rw f; means = rw (f, h) (variable x (kth_found (λ (y : Decl). is_variable y.mode) Δ x.value d f p)) }

    go : (o : Option Decl) → find Δ x.value ≡ o → Typed Δ c (T.name x)
    go none f = clash (sym ok ∙ rw f)
    go (some d) f = at d d.mode refl f

-- operators, over variables for the facts of their operands
whole : (Δ : List Decl) (c : Option Token) (x : Token) (a b : T.Expr) (t u : ExprTy) (o : Binary) → operator_of x.kind ≡ some o → type_of_binary o t ≡ some u
    → type_of Δ a ≡ some t → Means (scope_for Δ c) a (code Δ (scope_for Δ c) a) t → type_of Δ b ≡ some t → Means (scope_for Δ c) b (code Δ (scope_for Δ c) b) t
    → Typed Δ c (T.binary x a b)
unfolding type_of code on_two result_of or_boolean or_plus
whole Δ c x a b t u o e f p m q l = record { type = u; typed = rw (p, q, same_type_refl t, e) f; means = rw (p, e) (binary x e f m l) }

signed : (Δ : List Decl) (c : Option Token) (x : Token) (a : T.Expr) (t u : ExprTy) → sum_type t ≡ some u
    → type_of Δ a ≡ some t → Means (scope_for Δ c) a (code Δ (scope_for Δ c) a) t → Typed Δ c (T.sign x a)
unfolding type_of code on_one or_boolean
signed Δ c x a t u e p m = record { type = u; typed = rw p e; means = rw p (sign x e m) }

inverted : (Δ : List Decl) (c : Option Token) (x : Token) (a : T.Expr) (t u : ExprTy) → logical_type t ≡ some u
    → type_of Δ a ≡ some t → Means (scope_for Δ c) a (code Δ (scope_for Δ c) a) t → Typed Δ c (T.negate x a)
unfolding type_of code on_one or_boolean
inverted Δ c x a t u e p m = record { type = u; typed = rw p e; means = rw p (invert x e m) }

-- without offences it is typed, and means the computed expression
pub typed : (Δ : List Decl) (c : Option Token) (e : T.Expr) → names_in Δ e ≡ [] → types_in Δ e ≡ [] → Unread c e → Typed Δ c e
unfolding names_in types_in type_of code wrong2 on_one or_boolean or_plus
typed Δ c (T.number x) n k u = record { type = plain integer; typed = refl; means = number x }
typed Δ c (T.bit x) n k u = record { type = plain std_logic; typed = refl; means = bit x }
typed Δ c (T.name x) n k u = read_name Δ c x n u
typed Δ c (T.sign x a) n k u =
    let s = both_nil (types_in Δ a) (wrong1 (type_of Δ a) (on_one sum_type (type_of Δ a)) x.place) k in
    let i = typed Δ c a n s.0 (unread_sign c x a u) in
    let w = judge1 sum_type (type_of Δ a) i.type x.place i.typed s.1 in
    signed Δ c x a i.type w.0 w.1 i.typed i.means
typed Δ c (T.negate x a) n k u =
    let s = both_nil (types_in Δ a) (wrong1 (type_of Δ a) (on_one logical_type (type_of Δ a)) x.place) k in
    let i = typed Δ c a n s.0 (unread_negate c x a u) in
    let w = judge1 logical_type (type_of Δ a) i.type x.place i.typed s.1 in
    inverted Δ c x a i.type w.0 w.1 i.typed i.means
typed Δ c (T.binary x a b) n k u =
    let m = both_nil (names_in Δ a) (names_in Δ b) n in
    let f = result_of (operator_of x.kind) in
    let s = both_nil (types_in Δ a) (types_in Δ b ++ wrong2 (type_of Δ a) (type_of Δ b) (on_two f (type_of Δ a) (type_of Δ b)) x.place) k in
    let r = both_nil (types_in Δ b) (wrong2 (type_of Δ a) (type_of Δ b) (on_two f (type_of Δ a) (type_of Δ b)) x.place) s.1 in
    let v = unread_both c x a b u in
    let i = typed Δ c a m.0 s.0 v.0 in
    let j = typed Δ c b m.1 r.0 v.1 in
    let w = judge2 f (type_of Δ a) (type_of Δ b) i.type j.type x.place i.typed j.typed r.1 in
    let z = result_of_some (operator_of x.kind) i.type w.1 w.2 in
    whole Δ c x a b i.type w.1 z.0 z.1 z.2 i.typed i.means (j.typed ∙ ap some (sym w.0))
    (subst (Means (scope_for Δ c) b (code Δ (scope_for Δ c) b)) (sym w.0) j.means)
typed Δ c (T.parens a) n k u = let i = typed Δ c a n k (unread_parens c a u) in record { type = i.type; typed = i.typed; means = parens i.means }

-- and it means nothing else, where no name is declared twice
pub record Only (Δ : List Decl) (c : Option Token) (e : T.Expr) (d : Expr) (t : ExprTy) : Type 0 where
  pub typed : type_of Δ e ≡ some t
  pub coded : code Δ (scope_for Δ c) e ≡ d

pub only : (Δ : List Decl) (c : Option Token) → doubled Δ ≡ [] → {e : T.Expr} {d : Expr} {t : ExprTy} → Means (scope_for Δ c) e d t → Only Δ c e d t
unfolding type_of code named name_code type_in on_one on_two result_of or_boolean or_plus scope_for is_data is_input is_variable
only Δ c n (number x) = record { typed = refl; coded = refl }
only Δ c n (bit x) = record { typed = refl; coded = refl }
only Δ c n (input {k} {t} x h) = go r.decl.mode refl
  where
    r : Found (is_data c) Δ x.value k t
    r = found_kth (is_data c) Δ x.value k t n h

    go : (m : Mode) → r.decl.mode ≡ m → Only Δ c (T.name x) (leaf (E.input k)) (plain t)
    go T.input f = record {
      typed = rw r.found (ap (λ (y : Ty). some (plain y)) r.type);
      coded = rw (r.found, f)
          (ap (λ (y : ℕ). leaf (E.input y)) r.position);
    }
    go T.output_port f = clash (sym r.passes ∙ rw f)
    go T.variable_mode f = clash (sym r.passes ∙ rw f)
only Δ c n (variable {k} {t} x h) = go r.decl.mode refl
  where
    r : Found (λ (y : Decl). is_variable y.mode) Δ x.value k t
    r = found_kth (λ (y : Decl). is_variable y.mode) Δ x.value k t n h

    go : (m : Mode) → r.decl.mode ≡ m → Only Δ c (T.name x) (leaf (E.variable k)) (plain t)
    go T.input f = clash (sym r.passes ∙ rw f)
    go T.output_port f = clash (sym r.passes ∙ rw f)
    go T.variable_mode f = record {
      typed = rw r.found (ap (λ (y : Ty). some (plain y)) r.type);
      coded = rw (r.found, f)
          (ap (λ (y : ℕ). leaf (E.variable y)) r.position);
    }
only Δ c n (sign {t} x e m) = let i = only Δ c n m in record { typed = rw i.typed e; coded = rw i.typed (ap (E.unary E.sign t) i.coded) }
only Δ c n (invert {t} x e m) = let i = only Δ c n m in record { typed = rw i.typed e; coded = rw i.typed (ap (E.unary E.invert t) i.coded) }
only Δ c n (binary {o} {t} x e f m l) =
    let i = only Δ c n m in
    let j = only Δ c n l in
    record { typed = rw (i.typed, j.typed, same_type_refl t, e) f; coded = rw (i.typed, e, i.coded, j.coded) }
only Δ c n (parens m) = let i = only Δ c n m in record { typed = i.typed; coded = i.coded }
