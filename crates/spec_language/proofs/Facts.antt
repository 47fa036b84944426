-- Small facts on lists of offences, tests and declarations. Assumes nothing.
use mathlib.Core.Path.{◌≡◌, refl, sym, ◌∙◌, ap, subst}
use mathlib.Core.Bool.{Bool, true, false, not, ◌&&◌}
use mathlib.Core.Logic.{◌⊎◌, inl, inr}
use mathlib.Core.Option.{none, some}
use mathlib.Core.List.{List, [], ◌∷◌, ◌++◌, append_assoc}
use Prim.Native.Nat.{ℕ, zero, suc}
use native.Mathlib.Omega.{arith}
use lib.Dec.{T, eqb, eqb→eq, eqb_refl}
use Rattle.spec_language.specs.Lists.{unless, each, filter}
use Rattle.spec_design.specs.Types.{Ty}
use Rattle.spec_language.specs.Declarations.{Decl, find}
use Rattle.spec_language.specs.Names.{again, doubled}
use Rattle.spec_language.specs.Elaboration.{Kth, here, there, position}

pub clash : {A : Type 0} → true ≡ false → A
clash e = absurd (let z : ◌≡◌ {A = ℕ} 0 1 = cc in omega arith)

pub no_cons : {A : Type 0} {p : ℕ} {l : List ℕ} → p ∷ l ≡ [] → A
no_cons e = absurd (let z : ◌≡◌ {A = ℕ} 0 1 = cc in omega arith)

pub no_some : {A B : Type 0} {a : B} → none ≡ some a → A
no_some e = absurd (let z : ◌≡◌ {A = ℕ} 0 1 = cc in omega arith)

pub both_nil : (a b : List ℕ) → a ++ b ≡ [] → (a ≡ []) × (b ≡ [])
both_nil [] b e = (refl, e)
both_nil (x ∷ a) b e = no_cons e

pub unless_nil : (b : Bool) (p : ℕ) → unless b p ≡ [] → b ≡ true
unfolding unless
unless_nil true p e = refl
unless_nil false p e = no_cons e

pub each_append : {A : Type 0} (f : A → List ℕ) (a b : List A) → each f (a ++ b) ≡ each f a ++ each f b
unfolding each
each_append f [] b = refl
each_append f (x ∷ a) b = ap (λ l. f x ++ l) (each_append f a b) ∙ sym (append_assoc (f x) (each f a) (each f b))

pub each_nil : {A : Type 0} (f : A → List ℕ) (a b : List A) → each f (a ++ b) ≡ [] → (each f a ≡ []) × (each f b ≡ [])
each_nil f a b e = both_nil (each f a) (each f b) (sym (each_append f a b) ∙ e)

pub is_T : {b : Bool} → b ≡ true → T b
is_T e = subst T (sym e) tt

pub eqb_eq : (m n : ℕ) → eqb m n ≡ true → m ≡ n
eqb_eq m n e = eqb→eq m n (is_T e)

pub T_is : (b : Bool) → T b → b ≡ true
T_is true h = refl
T_is false h = absurd h

pub eq-eqb : (m n : ℕ) → m ≡ n → eqb m n ≡ true
eq-eqb m n e = T_is (eqb m n) (subst (λ (k : ℕ). T (eqb m k)) e (eqb_refl m))

pub not-true : (b : Bool) → not b ≡ true → b ≡ false
not-true true e = clash (sym e)
not-true false e = refl

pub and_true_both : (a b : Bool) → a && b ≡ true → (a ≡ true) × (b ≡ true)
and_true_both true b e = (refl, e)
and_true_both false b e = clash (sym e)

-- what is found has the name
pub find_name : (Δ : List Decl) (v : ℕ) (d : Decl) → find Δ v ≡ some d → d.name.value ≡ v
unfolding find
find_name [] v d e = no_some e
find_name (x ∷ Δ) v d e = go (eqb x.name.value v) refl (find_name Δ v d)
  where
    go : (b : Bool) → eqb x.name.value v ≡ b → (find Δ v ≡ some d → d.name.value ≡ v) → d.name.value ≡ v
    go true q ih = let s : some x ≡ some d = rw q at e in let z : x ≡ d = cc in ap (λ (y : Decl). y.name.value) (sym z) ∙ eqb_eq x.name.value v q
    go false q ih = ih (rw q at e)

-- a declaration found that passes the test stands in the filtered list, at its position there
pub kth_found : (p : Decl → Bool) (Δ : List Decl) (v : ℕ) (d : Decl) → find Δ v ≡ some d → p d ≡ true → Kth (filter p Δ) v (position (filter p Δ) v) d.type
unfolding find filter position
kth_found p [] v d e h = no_some e
kth_found p (x ∷ Δ) v d e h = go (eqb x.name.value v) refl (p x) refl (λ f. kth_found p Δ v d f h)
  where
    go : (b : Bool) → eqb x.name.value v ≡ b → (c : Bool) → p x ≡ c → (find Δ v ≡ some d → Kth (filter p Δ) v (position (filter p Δ) v) d.type)
        → Kth (filter p (x ∷ Δ)) v (position (filter p (x ∷ Δ)) v) d.type
    go true q c f ih =
        let s : some x ≡ some d = rw q at e in
        let z : x ≡ d = cc in
        let g : p x ≡ true = ap p z ∙ h in
        rw (g, q, ← z) (here (eqb_eq x.name.value v q))
    go false q true f ih = rw (f, q) (there (ih (rw q at e)))
    go false q false f ih = rw f (ih (rw q at e))

-- a name that does not come again is not found
pub again_not : (Δ : List Decl) (v : ℕ) (d : Decl) → again v Δ ≡ [] → find Δ v ≡ some d → ⊥
unfolding find again each
again_not [] v d a e = no_some e
again_not (x ∷ Δ) v d a e =
    let s = both_nil _ _ a in
    let n = not-true (eqb x.name.value v) (unless_nil (not (eqb x.name.value v)) x.name.place s.0) in
    again_not Δ v d s.1 (rw n at e)

pub kth_cons : {x : Decl} {l : List Decl} {v k : ℕ} {t : Ty} → Kth (x ∷ l) v k t
    → ((x.name.value ≡ v) × (k ≡ zero) × (t ≡ x.type)) ⊎ ((j : ℕ) × (k ≡ suc j) × Kth l v j t)
kth_cons (here e) = inl (e, refl, refl)
kth_cons (there {k = j} h) = inr (j, refl, h)

kth_none : {A : Type 0} {v k : ℕ} {t : Ty} → Kth [] v k t → A
kth_none h = elim h [ ]

pub record Found (p : Decl → Bool) (Δ : List Decl) (v k : ℕ) (t : Ty) : Type 0 where
  pub decl : Decl
  pub found : find Δ v ≡ some decl
  pub passes : p decl ≡ true
  pub type : decl.type ≡ t
  pub position : position (filter p Δ) v ≡ k

doubled_split : (x : Decl) (Δ : List Decl) → doubled (x ∷ Δ) ≡ [] → (again x.name.value Δ ≡ []) × (doubled Δ ≡ [])
unfolding doubled
doubled_split x Δ n = both_nil (again x.name.value Δ) (doubled Δ) n

-- where no name is declared twice, the k-th of the filtered list with that name is the one found
pub found_kth : (p : Decl → Bool) (Δ : List Decl) (v k : ℕ) (t : Ty) → doubled Δ ≡ [] → Kth (filter p Δ) v k t → Found p Δ v k t
unfolding find filter position doubled
found_kth p [] v k t n h = kth_none h
found_kth p (x ∷ Δ) v k t n h = go (p x) refl (λ j. found_kth p Δ v j t (doubled_split x Δ n).1)
  where
    -- x itself has another name
    other : (d : Decl) → find Δ v ≡ some d → eqb x.name.value v ≡ false
    other d e = at (eqb x.name.value v) refl
      where
        at : (b : Bool) → eqb x.name.value v ≡ b → b ≡ false
        at false q = refl
        at true q = absurd (again_not Δ x.name.value d (doubled_split x Δ n).0 (ap (find Δ) (eqb_eq x.name.value v q) ∙ e))

    go : (c : Bool) → p x ≡ c → ((j : ℕ) → Kth (filter p Δ) v j t → Found p Δ v j t) → Found p (x ∷ Δ) v k t
    go true f ih = on (kth_cons (rw f at h))
      where
        on : ((x.name.value ≡ v) × (k ≡ zero) × (t ≡ x.type)) ⊎ ((j : ℕ) × (k ≡ suc j) × Kth (filter p Δ) v j t) → Found p (x ∷ Δ) v k t
        on (inl (e, z, w)) = let q = eq-eqb x.name.value v e in record { decl = x; found = rw q; passes = f; type = sym w; position = rw (f, q) (sym z) }
        on (inr (j, z, g)) = let r = ih j g in let q = other r.decl r.found in
            record { decl = r.decl; found = rw q r.found; passes = r.passes; type = r.type; position = rw (f, q) (ap suc r.position ∙ sym z) }
    go false f ih = let r = ih k (rw f at h) in let q = other r.decl r.found in
        record { decl = r.decl; found = rw q r.found; passes = r.passes; type = r.type; position = rw f r.position }
