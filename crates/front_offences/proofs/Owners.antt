-- The declaration that a name stands for, and its number: what the array has under the number is what the declaration says. Assumes nothing.
use mathlib.Core.Path.{◌≡◌, refl, sym, ◌∙◌, ap}
use mathlib.Core.Bool.{Bool, true, false, cond}
use mathlib.Core.Option.{Option, none, some}
use mathlib.Core.List.{List, [], ◌∷◌, map, map-append}
use Prim.Native.Nat.{ℕ, zero, suc, ◌+◌, ◌*◌, ◌<◌}
use native.Mathlib.Omega.{arith}
use native.Mathlib.Nat.{add-zero}
use borrow.Author.Tests.{lt-ltb, le-ltb, eqb-true, eqb-false, eq-eqb, ne_eqb}
use lib.Dec.{eqb}
use lib.ListN.{length, get_or, length-map}
use Rattle.base_codes.specs.Declaration as D
use Rattle.spec_grammar.specs.Token.{Token}
use Rattle.spec_grammar.specs.Tree.{Group, Text}
use Rattle.spec_language.specs.Declarations.{Decl, declare, spread, groups, declared, find}
use Rattle.spec_language.specs.Elaboration.{position}
use Rattle.front_layout.specs.Tokens.{token_at}
use Rattle.front_layout.specs.Headings.{mode_code, Heading, names_of, group_names, groups_names, headings, decls_from, heading_seen, DeclsIn}
use Rattle.spec_design.specs.Types.{type_byte}
use Rattle.front_offences.specs.Positions.{mode_in, type_in}
use Rattle.front_offences.proofs.Loops.{list_from}

-- what a declared name and a declaration have in common
pub record Outline : Type 0 where
  pub name : Token
  pub mode : ℕ
  pub type : ℕ

abbrev pub of_decl : Decl → Outline
of_decl d = record { name = d.name; mode = mode_code d.mode; type = type_byte d.type }

abbrev of_heading : Heading → Outline
of_heading h = record { name = h.name; mode = h.mode; type = h.type }

abbrev pub outline_in : List Token → List ℕ → ℕ → Outline
outline_in ts decls j = record { name = token_at ts (get_or decls (6 * j) 0); mode = get_or decls (6 * j + 1) 0; type = get_or decls (6 * j + 2) 0 }

names_declare : (g : Group) (f : Token) (xs : List Token) → map of_heading (names_of g f xs) ≡ map of_decl (declare g xs)
unfolding names_of declare
names_declare g f [] = refl
names_declare g f (x ∷ xs) = rw (names_declare g f xs)

group_declare : (g : Group) (xs : List Token) → map of_heading (group_names g xs) ≡ map of_decl (declare g xs)
unfolding group_names declare
group_declare g [] = refl
group_declare g (x ∷ xs) = names_declare g x (x ∷ xs)

groups_declare : (gs : List Group) → map of_heading (groups_names gs) ≡ map of_decl (spread gs)
unfolding groups_names spread
groups_declare [] = refl
groups_declare (g ∷ gs) =
    map-append of_heading (group_names g g.names) (groups_names gs)
    ∙ (rw (group_declare g g.names, groups_declare gs) (sym (map-append of_decl (declare g g.names) (spread gs))))

decls_list : (ts : List Token) (decls : List ℕ) (j c : ℕ) → list_from (outline_in ts decls) j c ≡ map of_heading (map (heading_seen ts) (decls_from decls j c))
unfolding list_from decls_from
decls_list ts decls j zero = refl
decls_list ts decls j (suc c) = ap (λ (l : List Outline). outline_in ts decls j ∷ l) (decls_list ts decls (j + 1) c)

-- the array has the declarations
pub decls_are : (ts : List Token) (t : Text) (decls : List ℕ) (d : ℕ) → DeclsIn ts (headings t) decls d
    → list_from (outline_in ts decls) 0 d ≡ map of_decl (declared t)
unfolding headings declared
decls_are ts t decls d h = decls_list ts decls 0 d ∙ (ap (map of_heading) h.are ∙ groups_declare (groups t))

list_count : {A : Type 0} (at : ℕ → A) (j c : ℕ) → length (list_from at j c) ≡ c
unfolding list_from
list_count at j zero = refl
list_count at j (suc c) = ap suc (list_count at (j + 1) c)

pub decls_count : (ts : List Token) (t : Text) (decls : List ℕ) (d : ℕ) → DeclsIn ts (headings t) decls d → length (declared t) ≡ d
decls_count ts t decls d h =
    sym (length-map (declared t) of_decl) ∙ (ap length (sym (decls_are ts t decls d h)) ∙ list_count (outline_in ts decls) 0 d)

-- what the number says: a name that is found stands under it, and one that is not has the number after the last
pub data Numbered (at : ℕ → Outline) (c : ℕ) (Δ : List Decl) (j p : ℕ) : Option Decl → Type 0 where
  there : (d : Decl) → p < c → at (j + p) ≡ of_decl d → Numbered at c Δ j p (some d)
  nowhere : p ≡ c → Numbered at c Δ j p none

numbered : (at : ℕ → Outline) (v : ℕ) (Δ : List Decl) (j c : ℕ) → list_from at j c ≡ map of_decl Δ → Numbered at c Δ j (position Δ v) (find Δ v)
unfolding list_from position find
numbered at v [] j zero e = nowhere refl
numbered at v [] j (suc c) e = absurd (let z : ◌≡◌ {A = ℕ} 0 1 = cc in omega arith)
numbered at v (d ∷ Δ) j zero e = absurd (let z : ◌≡◌ {A = ℕ} 0 1 = cc in omega arith)
numbered at v (d ∷ Δ) j (suc c) e = go (eqb d.name.value v) (numbered at v Δ (j + 1) c (cc))
  where
    first : at j ≡ of_decl d
    first = cc

    more : {o : Option Decl} → Numbered at c Δ (j + 1) (position Δ v) o → Numbered at (suc c) (d ∷ Δ) j (suc (position Δ v)) o
    more (nowhere h) = nowhere (ap suc h)
    more (there x h k) = there x (omega arith) (ap at (omega arith) ∙ k)

    go : (b : Bool) → Numbered at c Δ (j + 1) (position Δ v) (find Δ v)
        → Numbered at (suc c) (d ∷ Δ) j (cond b zero (suc (position Δ v))) (cond b (some d) (find Δ v))
    go true q = there d (omega arith) (ap at (add-zero j) ∙ first)
    go false q = more q

-- the mode and the type of a declaration that is there or not
unfoldable pub mode_of : Option Decl → ℕ
mode_of none = D.NO_MODE
mode_of (some d) = mode_code d.mode

unfoldable pub type_of : Option Decl → ℕ
type_of none = D.NO_TYPE
type_of (some d) = type_byte d.type

module _ (ts : List Token) (t : Text) (decls : List ℕ) (d : ℕ) (h : DeclsIn ts (headings t) decls d) (v : ℕ) where
  under : Numbered (outline_in ts decls) d (declared t) 0 (position (declared t) v) (find (declared t) v)
  under = numbered (outline_in ts decls) v (declared t) 0 d (decls_are ts t decls d h)

  pub mode_found : mode_in decls d (position (declared t) v) ≡ mode_of (find (declared t) v)
  unfolding mode_of
  mode_found = go (position (declared t) v) under
    where
      go : (p : ℕ) {o : Option Decl} → Numbered (outline_in ts decls) d (declared t) 0 p o → mode_in decls d p ≡ mode_of o
      go p (there x l e) =
          let z : 0 + p ≡ p = omega arith in
          let s = h.short in
          rw (lt-ltb p d l, lt-ltb p 65 (omega arith)) (ap (λ (o : Outline). o.mode) (ap (outline_in ts decls) (sym z) ∙ e))
      go p (nowhere e) = rw (le-ltb p d (omega arith))

  pub type_found : type_in decls d (position (declared t) v) ≡ type_of (find (declared t) v)
  unfolding type_of
  type_found = go (position (declared t) v) under
    where
      go : (p : ℕ) {o : Option Decl} → Numbered (outline_in ts decls) d (declared t) 0 p o → type_in decls d p ≡ type_of o
      go p (there x l e) =
          let z : 0 + p ≡ p = omega arith in
          let s = h.short in
          rw (lt-ltb p d l, lt-ltb p 65 (omega arith)) (ap (λ (o : Outline). o.type) (ap (outline_in ts decls) (sym z) ∙ e))
      go p (nowhere e) = rw (le-ltb p d (omega arith))

-- Names by their numbers: what has the number of a declared name is that name.
position_name : (Δ : List Decl) (v w : ℕ) (d : Decl) → find Δ w ≡ some d → position Δ v ≡ position Δ w → v ≡ w
unfolding find position
position_name [] v w d e p = absurd (let z : ◌≡◌ {A = ℕ} 0 1 = cc in omega arith)
position_name (x ∷ Δ) v w d e p = go (eqb x.name.value v) refl (eqb x.name.value w) refl e p (position_name Δ v w d)
  where
    go : (a : Bool) → eqb x.name.value v ≡ a → (b : Bool) → eqb x.name.value w ≡ b → cond b (some x) (find Δ w) ≡ some d
        → cond a zero (suc (position Δ v)) ≡ cond b zero (suc (position Δ w)) → (find Δ w ≡ some d → position Δ v ≡ position Δ w → v ≡ w) → v ≡ w
    go true a true b f q ih = sym (eqb-true x.name.value v a) ∙ eqb-true x.name.value w b
    go true a false b f q ih = absurd (omega arith)
    go false a true b f q ih = absurd (omega arith)
    go false a false b f q ih = ih f (omega arith)

pub same_owner : (Δ : List Decl) (v w : ℕ) (d : Decl) → find Δ w ≡ some d → eqb (position Δ v) (position Δ w) ≡ eqb v w
same_owner Δ v w d e = go (eqb v w) refl
  where
    go : (b : Bool) → eqb v w ≡ b → eqb (position Δ v) (position Δ w) ≡ b
    go true q = eq-eqb (position Δ v) (position Δ w) (ap (position Δ) (eqb-true v w q))
    go false q = ne_eqb (position Δ v) (position Δ w) (λ p. eqb-false v w q (position_name Δ v w d e p))
