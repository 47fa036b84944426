-- The type of a name by position is the type of the declaration that it stands for. Assumes nothing.
use mathlib.Core.Path.{◌≡◌, refl, sym, ap, ◌∙◌}
use mathlib.Core.Bool.{Bool, true, false, cond}
use mathlib.Core.Option.{some}
use mathlib.Core.List.{List, [], ◌∷◌, map, map-map, map-append}
use Prim.Native.Nat.{ℕ, zero, suc, ◌+◌, ◌*◌, ◌≤◌, ◌<◌}
use native.Mathlib.Omega.{arith}
use native.Mathlib.Decide.{dec_lt}
use borrow.Author.Tests.{lt-ltb, le-ltb}
use lib.Dec.{eqb, ltb, leb-suc-suc}
use lib.ListN.{get_or}
use Rattle.spec_grammar.specs.Token.{Token}
use Rattle.base_codes.specs.Token.{NAME}
use Rattle.spec_grammar.specs.Tree.{Group, Text}
use Rattle.spec_grammar.specs.Reader.{choose}
use Rattle.spec_design.specs.Types.{type_byte}
use Rattle.base_codes.specs.Declaration.{ROW, TYPE}
use Rattle.base_codes.specs.Types.{NONE, tag_or, declared_type}
use Rattle.base_codes.specs.Limit.{TEXT, NAMES}
use Rattle.base_codes.proofs.TypeLaws.{declared_type_lem}
use Rattle.spec_language.specs.Declarations.{Decl, declare, spread, declared, groups, find, type_in}
use Rattle.spec_language.specs.Elaboration.{position}
use Rattle.front_layout.specs.Tokens.{token_at}
use Rattle.front_layout.specs.Arrays.{TokensIn, OwnersIn}
use Rattle.front_layout.specs.Headings.{Heading, names_of, group_names, groups_names, headings, DeclRow, decls_from, heading_seen, DeclsIn}
use Rattle.front_typing.specs.Expressions.{declared_code, name_code}
use Rattle.front_offences.proofs.Tokens.{kind_inside}

-- the type of a declaration as its heading's number; of the j-th of a list of them
abbrev shown : ℕ → ℕ
shown x = tag_or (declared_type x)

code_at : List ℕ → ℕ → ℕ
code_at [] j = NONE
code_at (x ∷ l) zero = shown x
code_at (x ∷ l) (suc j) = code_at l j

type_of_decl : Decl → ℕ
type_of_decl d = type_byte d.type

-- headings and declarations have the same types
names_types : (g : Group) (f : Token) (xs : List Token) → map (λ (h : Heading). h.type) (names_of g f xs) ≡ map type_of_decl (declare g xs)
unfolding names_of declare type_of_decl
names_types g f [] = refl
names_types g f (x ∷ xs) = rw (names_types g f xs)

group_types : (g : Group) (xs : List Token) → map (λ (h : Heading). h.type) (group_names g xs) ≡ map type_of_decl (declare g xs)
unfolding group_names declare
group_types g [] = refl
group_types g (x ∷ xs) = names_types g x (x ∷ xs)

groups_types : (gs : List Group) → map (λ (h : Heading). h.type) (groups_names gs) ≡ map type_of_decl (spread gs)
unfolding groups_names spread
groups_types [] = refl
groups_types (g ∷ gs) =
    map-append (λ (h : Heading). h.type) (group_names g g.names) (groups_names gs)
    ∙ (rw (group_types g g.names, groups_types gs) (sym (map-append type_of_decl (declare g g.names) (spread gs))))

-- the type at a name's position
found_type : (Δ : List Decl) (v : ℕ) → code_at (map type_of_decl Δ) (position Δ v) ≡ tag_or (type_in (find Δ v))
unfolding code_at position find type_in type_of_decl
found_type [] v = refl
found_type (d ∷ ds) v = go (eqb d.name.value v) (found_type ds v)
  where
    go : (b : Bool) → code_at (map type_of_decl ds) (position ds v) ≡ tag_or (type_in (find ds v))
        → code_at (map type_of_decl (d ∷ ds)) (cond b zero (suc (position ds v))) ≡ tag_or (type_in (cond b (some d) (find ds v)))
    go true h = ap tag_or (declared_type_lem d.type)
    go false h = h

-- the types in the array
array_types : (decls : List ℕ) (m c j : ℕ) → code_at (map (λ (r : DeclRow). r.type) (decls_from decls m c)) j
    ≡ choose (ltb j c) (shown (get_or decls (ROW * (m + j) + TYPE) 0)) NONE
unfolding code_at decls_from
array_types decls m zero j = rw (le-ltb j 0 (omega arith))
array_types decls m (suc c) zero = let z : m + 0 ≡ m = omega arith in rw (lt-ltb 0 (suc c) (omega arith), z)
array_types decls m (suc c) (suc j) = let z : m + suc j ≡ m + 1 + j = omega arith in rw (leb-suc-suc (suc j) c, z) (array_types decls (m + 1) c j)

declared_within : (decls : List ℕ) (d j : ℕ) → d ≤ NAMES → declared_code decls d j ≡ choose (ltb j d) (shown (get_or decls (ROW * j + TYPE) 0)) NONE
declared_within decls d j h = go (dec_lt j d)
  where
    go : Dec (j < d) → declared_code decls d j ≡ choose (ltb j d) (shown (get_or decls (ROW * j + TYPE) 0)) NONE
    go (yes l) = rw (lt-ltb j d l, lt-ltb j NAMES (omega arith))
    go (no l) = rw (le-ltb j d (omega arith))

declared_law : (ts : List Token) (t : Text) (decls : List ℕ) (d v : ℕ) → DeclsIn ts (headings t) decls d
    → declared_code decls d (position (declared t) v) ≡ tag_or (type_in (find (declared t) v))
unfolding headings declared
declared_law ts t decls d v h =
    let p = position (spread (groups t)) v in
    let z : 0 + p ≡ p = omega arith in
    let same : map (λ (r : DeclRow). r.type) (decls_from decls 0 d) ≡ map type_of_decl (spread (groups t))
    = sym (map-map (λ (h : Heading). h.type) (heading_seen ts) (decls_from decls 0 d))
    ∙ (ap (map (λ (h : Heading). h.type)) h.are ∙ groups_types (groups t)) in
    declared_within decls d p h.short ∙
    (sym (rw z at (array_types decls 0 d p)) ∙
    (ap (λ (l : List ℕ). code_at l p) same ∙ found_type (spread (groups t)) v))

-- the type of a name at its index
pub name_law : (ts : List Token) (kinds places owners decls : List ℕ) (n d i : ℕ) (t : Text) → TokensIn ts kinds places n → OwnersIn ts (declared t) owners n
    → DeclsIn ts (headings t) decls d
    → (token_at ts i).kind ≡ NAME → name_code owners decls d i ≡ tag_or (type_in (find (declared t) (token_at ts i).value))
unfolding name_code
name_law ts kinds places owners decls n d i t h o k e =
    let b : i < n = kind_inside h i NAME e (omega arith) in
    rw (lt-ltb i TEXT (omega (arith, b, h.short)), o.owner i b e) (declared_law ts t decls d (token_at ts i).value k)
