-- Declared names in text order, as their array has them: each declaration's own row. Assumes nothing.
use mathlib.Core.Path.{◌≡◌, refl, sym, ◌∙◌, ap, subst}
use mathlib.Core.Bool.{Bool, true, false, cond, not, ◌&&◌}
use mathlib.Core.Option.{Option, some}
use mathlib.Core.List.{List, [], ◌∷◌, map, map-append}
use Prim.Native.Nat.{ℕ, suc, ◌+◌, ◌*◌, ◌≤◌, ◌<◌}
use native.Mathlib.Omega.{arith}
use lib.Dec.{eqb}
use lib.ListN.{length, length-map}
use borrow.Author.Tests.{lt-ltb}
use Rattle.spec_grammar.specs.Token.{Token}
use Rattle.spec_grammar.specs.Tree.{Mode, input, output_port, variable_mode, Group, Text}
use Rattle.spec_grammar.specs.Reader.{choose}
use Rattle.spec_language.specs.Lists.{filter}
use Rattle.spec_language.specs.Declarations.{Decl, type_named, declare, spread, groups, declared, is_input, is_output, is_variable, find, is_clock, is_data}
use Rattle.spec_language.specs.Elaboration.{position}
use Rattle.spec_language.proofs.Facts.{no_some}
use Rattle.front_layout.specs.Tokens.{no_token, token_at}
use Rattle.front_layout.specs.Headings.{mode_code, init_code, init_token, value_token, Heading, names_of, group_names, groups_names, headings, DeclRow, decl_in}
use Rattle.front_layout.specs.Headings.{decls_from, value_index, heading_seen, DeclsIn}
use Rattle.spec_design.specs.Types.{type_byte}
use Rattle.front_elaborator.specs.Positions.{field_at}
use Rattle.front_elaborator.specs.Names.{of_mode, count_from, picked, in_mode, Along}

-- the row of a declaration, all but its group's first name
abbrev clear : Heading → Heading
clear h = record { name = h.name; mode = h.mode; type = h.type; init = h.init; sign = h.sign; value = h.value; first = no_token }

abbrev heading_of : Decl → Heading
heading_of d = record {
  name = d.name;
  mode = mode_code d.mode;
  type = type_byte d.type;
  init = init_code d.init;
  sign = init_token
      d.init;
  value = value_token d.init;
  first = no_token;
}

names_are : (g : Group) (f : Token) (xs : List Token) → map clear (names_of g f xs) ≡ map heading_of (declare g xs)
unfolding names_of declare
names_are g f [] = refl
names_are g f (x ∷ xs) = ap (λ (l : List Heading). heading_of (record { name = x; mode = g.mode; type = type_named g.type; init = g.init }) ∷ l)
    (names_are g f xs)

group_are : (g : Group) (xs : List Token) → map clear (group_names g xs) ≡ map heading_of (declare g xs)
unfolding group_names declare
group_are g [] = refl
group_are g (x ∷ xs) = names_are g x (x ∷ xs)

groups_are : (gs : List Group) → map clear (groups_names gs) ≡ map heading_of (spread gs)
unfolding groups_names spread
groups_are [] = refl
groups_are (g ∷ gs) = rw (
  map-append clear (group_names g g.names) (groups_names gs),
  map-append heading_of (declare g g.names) (spread gs),
  group_are g
      g.names,
  groups_are gs,
)

headings_are : (t : Text) → map clear (headings t) ≡ map heading_of (declared t)
unfolding headings declared
headings_are t = groups_are (groups t)

-- what the array has of a declaration
pub record RowOf (ts : List Token) (decls : List ℕ) (k : ℕ) (d : Decl) : Type 0 where
  pub inside : k < 65
  pub name : token_at ts (field_at decls k 0) ≡ d.name
  pub mode : field_at decls k 1 ≡ mode_code d.mode
  pub type : field_at decls k 2 ≡ type_byte d.type
  pub init : field_at decls k 3 ≡ init_code d.init
  pub first : token_at ts (field_at decls k 4) ≡ init_token d.init
  pub value : token_at ts (value_index (field_at decls k 3) (field_at decls k 4)) ≡ value_token d.init

row_of : (ts : List Token) (decls : List ℕ) (k : ℕ) (d : Decl) → k < 65 → clear (heading_seen ts (decl_in decls k)) ≡ heading_of d → RowOf ts decls k d
row_of ts decls k d h e =
    let q = lt-ltb k 65 h in
    let z : 6 * k + 0 ≡ 6 * k = omega arith in
    record {
      inside = h;
      name = rw (q, z) (ap (λ (x : Heading). x.name) e);
      mode = rw q (ap (λ (x : Heading). x.mode) e);
      type = rw q (ap (λ (x : Heading). x.type) e);
      init = rw q (ap (λ (x : Heading). x.init) e);
      first = rw q (ap (λ (x : Heading). x.sign) e);
      value = rw q (ap (λ (x : Heading). x.value) e);
    }

rows_along : (ts : List Token) (decls : List ℕ) (Δ : List Decl) (k : ℕ) → k + length Δ ≤ 65
    → map (λ (r : DeclRow). clear (heading_seen ts r)) (decls_from decls k (length Δ)) ≡ map heading_of Δ → Along (RowOf ts decls) k Δ
unfolding decls_from
rows_along ts decls [] k h e = tt
rows_along ts decls (d ∷ Δ) k h e = (row_of ts decls k d (omega arith) (head e), rows_along ts decls Δ (k + 1) (omega arith) (tail e))
  where
    head : {x y : Heading} {xs ys : List Heading} → x ∷ xs ≡ y ∷ ys → x ≡ y
    head q = cc

    tail : {x y : Heading} {xs ys : List Heading} → x ∷ xs ≡ y ∷ ys → xs ≡ ys
    tail q = cc

map_twice : {A B C : Type 0} (g : B → C) (f : A → B) (l : List A) → map g (map f l) ≡ map (λ (x : A). g (f x)) l
map_twice g f [] = refl
map_twice g f (x ∷ l) = ap (λ (r : List _). g (f x) ∷ r) (map_twice g f l)

-- as many as declared
pub declared_count : (ts : List Token) (t : Text) (decls : List ℕ) (d : ℕ) → DeclsIn ts (headings t) decls d → length (declared t) ≡ d
declared_count ts t decls d h =
    let e = ap length (headings_are t) in
    let a = length-map (headings t) clear in
    let b = length-map (declared t) heading_of in
    let c = h.count in
    omega arith

-- the array of a text's declared names has each declaration's row
pub laid : (ts : List Token) (t : Text) (decls : List ℕ) (d : ℕ) → DeclsIn ts (headings t) decls d → Along (RowOf ts decls) 0 (declared t)
laid ts t decls d h =
    let n = declared_count ts t decls d h in
    let s = h.short in
    rows_along ts decls (declared t) 0 (omega arith)
    (rw n (sym (map_twice clear (heading_seen ts) (decls_from decls 0 d)) ∙ (ap (map clear) h.are ∙ headings_are t)))

-- TESTS

-- the tests of the three modes; only an input can be the clock
pub of_input : (c : Option Token) (decls : List ℕ) (clock k : ℕ) (d : Decl) → field_at decls k 1 ≡ mode_code d.mode → eqb k clock ≡ is_clock c d.name.value
    → of_mode decls clock 0 k ≡ in_mode c input d
unfolding of_mode is_data mode_code is_input
of_input c decls clock k d e f = rw (e, f) (go d.mode (not (is_clock c d.name.value)))
  where
    go : (m : Mode) (b : Bool) → choose (eqb (mode_code m) 0) b false ≡ is_input m && b
    go input b = refl
    go output_port b = refl
    go variable_mode b = refl

pub of_output : (c : Option Token) (decls : List ℕ) (clock k : ℕ) (d : Decl) → field_at decls k 1 ≡ mode_code d.mode
    → of_mode decls clock 1 k ≡ in_mode c output_port d
unfolding of_mode mode_code is_output
of_output c decls clock k d e = rw e (go d.mode)
  where
    go : (m : Mode) → choose (eqb (mode_code m) 1) true false ≡ is_output m
    go input = refl
    go output_port = refl
    go variable_mode = refl

pub of_variable : (c : Option Token) (decls : List ℕ) (clock k : ℕ) (d : Decl) → field_at decls k 1 ≡ mode_code d.mode
    → of_mode decls clock 2 k ≡ in_mode c variable_mode d
unfolding of_mode mode_code is_variable
of_variable c decls clock k d e = rw e (go d.mode)
  where
    go : (m : Mode) → choose (eqb (mode_code m) 2) true false ≡ is_variable m
    go input = refl
    go output_port = refl
    go variable_mode = refl

-- LISTS BY POSITION

-- what is picked by number is what the declarations that pass the test have
pub picked_is : {A : Type 0} (p : ℕ → Bool) (f : ℕ → A) (q : Decl → Bool) (g : Decl → A) (Δ : List Decl) (k : ℕ)
    → Along (λ (i : ℕ) (d : Decl). (p i ≡ q d) × (f i ≡ g d)) k Δ → picked p f k (length Δ) ≡ map g (filter q Δ)
unfolding picked filter
picked_is p f q g [] k h = refl
picked_is {A} p f q g (d ∷ Δ) k h = rw (h.0.0, h.0.1, picked_is p f q g Δ (k + 1) h.1) (go (q d) (filter q Δ))
  where
    go : (b : Bool) (l : List Decl) → choose b (g d ∷ map g l) (map g l) ≡ map g (cond b (d ∷ l) l)
    go true l = refl
    go false l = refl

-- how many pass the test before the declaration of a name is that name's position among those that pass it
pub count_is : (p : ℕ → Bool) (q : Decl → Bool) (Δ : List Decl) (k v : ℕ) (e : Decl) → Along (λ (i : ℕ) (d : Decl). p i ≡ q d) k Δ
    → find Δ v ≡ some e → q e ≡ true → count_from p k (position Δ v) ≡ position (filter q Δ) v
unfolding count_from find filter position
count_is p q [] k v e h s t = no_some s
count_is p q (d ∷ Δ) k v e h s t = go (eqb d.name.value v) refl (q d) refl (λ r. count_is p q Δ (k + 1) v e h.1 r t)
  where
    go : (b : Bool) → eqb d.name.value v ≡ b → (c : Bool) → q d ≡ c → (find Δ v ≡ some e → count_from p (k + 1) (position Δ v) ≡ position (filter q Δ) v)
        → count_from p k (position (d ∷ Δ) v) ≡ position (filter q (d ∷ Δ)) v
    go true a c b ih =
        let r : some d ≡ some e = rw a at s in
        let z : d ≡ e = cc in
        let y : q d ≡ true = ap q z ∙ t in
        rw (a, y, a)
    go false a true b ih = let x = h.0 in let i = ih (rw a at s) in rw (a, b, a, x, b) (omega arith)
    go false a false b ih = let x = h.0 in let i = ih (rw a at s) in rw (a, b, x, b) (omega arith)

-- what holds along the declarations holds of the one found
pub found_at : (R : ℕ → Decl → Type 0) (Δ : List Decl) (k v : ℕ) (e : Decl) → Along R k Δ → find Δ v ≡ some e → R (k + position Δ v) e
unfolding find position
found_at R [] k v e h s = no_some s
found_at R (d ∷ Δ) k v e h s = go (eqb d.name.value v) refl (found_at R Δ (k + 1) v e h.1)
  where
    go : (b : Bool) → eqb d.name.value v ≡ b → (find Δ v ≡ some e → R (k + 1 + position Δ v) e) → R (k + position (d ∷ Δ) v) e
    go true a ih =
        let r : some d ≡ some e = rw a at s in
        let z : d ≡ e = cc in
        let y : k + 0 ≡ k = omega arith in
        rw (a, y) (subst (R k) z h.0)
    go false a ih = let y : k + suc (position Δ v) ≡ k + 1 + position Δ v = omega arith in rw (a, y) (ih (rw a at s))

pub position_inside : (Δ : List Decl) (v : ℕ) (e : Decl) → find Δ v ≡ some e → position Δ v < length Δ
unfolding find position
position_inside [] v e s = no_some s
position_inside (d ∷ Δ) v e s = go (eqb d.name.value v) refl (position_inside Δ v e)
  where
    go : (b : Bool) → eqb d.name.value v ≡ b → (find Δ v ≡ some e → position Δ v < length Δ) → position (d ∷ Δ) v < length (d ∷ Δ)
    go true a ih = rw a (omega arith)
    go false a ih = let i = ih (rw a at s) in rw a (omega arith)

-- two facts along the declarations
pub along_both : (R S T : ℕ → Decl → Type 0) (Δ : List Decl) (k : ℕ) → ((i : ℕ) (d : Decl) → R i d → S i d → T i d) → Along R k Δ → Along S k Δ → Along T k Δ
along_both R S T [] k f a b = tt
along_both R S T (d ∷ Δ) k f a b = (f k d a.0 b.0, along_both R S T Δ (k + 1) f a.1 b.1)

pub along_one : (R T : ℕ → Decl → Type 0) (Δ : List Decl) (k : ℕ) → ((i : ℕ) (d : Decl) → R i d → T i d) → Along R k Δ → Along T k Δ
along_one R T [] k f a = tt
along_one R T (d ∷ Δ) k f a = (f k d a.0, along_one R T Δ (k + 1) f a.1)
