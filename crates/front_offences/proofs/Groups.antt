-- A rule over the groups of declared names, and the same over the rows of the array. Assumes nothing.
use mathlib.Core.Path.{◌≡◌, refl, sym, ◌∙◌, ap}
use mathlib.Core.List.{List, [], ◌∷◌, map}
use Prim.Native.Nat.{ℕ, zero, suc, ◌+◌, min}
use native.Mathlib.Omega.{arith}
use Rattle.std.specs.Prelude.{Option, None, Some}
use Rattle.spec_grammar.specs.Token.{Token}
use Rattle.spec_grammar.specs.Tree.{Group, Text}
use Rattle.spec_grammar.specs.Limits.{Each}
use Rattle.spec_design.specs.Types.{type_byte}
use Rattle.spec_language.specs.Lists.{each, lowest}
use Rattle.spec_language.specs.Declarations.{type_named, groups}
use Rattle.spec_language.proofs.Facts.{each_append}
use Rattle.front_offences.specs.Lowest.{option_of, lowest_of, lower, lowest_from}
use Rattle.front_layout.specs.Headings.{mode_code, init_code, init_token, value_token, Heading, names_of, group_names, groups_names, headings, decl_in, decls_from}
use Rattle.front_layout.specs.Headings.{heading_seen, DeclsIn}
use Rattle.front_offences.proofs.Lowest.{lower_none, lowest_append}

lower_self : (a : Option ℕ) → lower a a ≡ a
unfolding lower
lower_self None = refl
lower_self (Some a) = ap Some (omega arith)

-- the heading of the name x in a group whose first name is f
abbrev pub heading_in : Group → Token → Token → Heading
heading_in g f x =
    record {
      name = x;
      mode = mode_code g.mode;
      type = type_byte (type_named g.type);
      init = init_code g.init;
      sign = init_token g.init;
      value = value_token g.init;
      first = f;
    }

-- Over any offences F of a declared name.
module _ (F : Heading → List ℕ) where
  headings_lowest : (ts : List Token) (decls : List ℕ) (f : ℕ → Option ℕ) → ((j : ℕ) → f j ≡ lowest_of (F (heading_seen ts (decl_in decls j))))
      → (j c : ℕ) → lowest_from f j c ≡ lowest_of (each F (map (heading_seen ts) (decls_from decls j c)))
  unfolding lowest_from decls_from each option_of lowest
  headings_lowest ts decls f h j zero = refl
  headings_lowest ts decls f h j (suc c) =
      rw (h j, headings_lowest ts decls f h (j + 1) c)
      (sym (lowest_append (F (heading_seen ts (decl_in decls j))) (each F (map (heading_seen ts) (decls_from decls (j + 1) c)))))

  -- the names of a group have the same offence
  pub names_lowest : (g : Group) (f : Token) (p : List ℕ)
      → ((x : Token) → F (heading_in g f x) ≡ p)
      → (x : Token) (xs : List Token) → lowest_of (each F (names_of g f (x ∷ xs))) ≡ lowest_of p
  unfolding names_of each option_of lowest
  names_lowest g f p h x [] = rw (h x) (lowest_append p [] ∙ lower_none (lowest_of p))
  names_lowest g f p h x (y ∷ ys) = rw (h x)
      (lowest_append p (each F (names_of g f (y ∷ ys))) ∙ (ap (lower (lowest_of p)) (names_lowest g f p h y ys) ∙ lower_self (lowest_of p)))

  -- a rule G that says of a group what F says of its names
  module _ (P : Group → Type 0) (G : Group → List ℕ) (h : (g : Group) → P g → lowest_of (each F (group_names g g.names)) ≡ lowest_of (G g)) where
    groups_lowest : (gs : List Group) → Each P gs → lowest_of (each F (groups_names gs)) ≡ lowest_of (each G gs)
    unfolding groups_names each
    groups_lowest [] w = refl
    groups_lowest (g ∷ gs) w =
        ap lowest_of (each_append F (group_names g g.names) (groups_names gs)) ∙
        (lowest_append (each F (group_names g g.names)) (each F (groups_names gs)) ∙
        (rw (h g w.0, groups_lowest gs w.1) (sym (lowest_append (G g) (each G gs)))))

    -- over the rows of the declared names, of which there are at most 65
    pub rows_lowest : (ts : List Token) (decls : List ℕ) (d : ℕ) (t : Text) (f : ℕ → Option ℕ) → DeclsIn ts (headings t) decls d
        → ((j : ℕ) → f j ≡ lowest_of (F (heading_seen ts (decl_in decls j))))
        → Each P (groups t) → lowest_from f 0 (min d 65) ≡ lowest_of (each G (groups t))
    unfolding headings
    rows_lowest ts decls d t f k e w =
        let z : min d 65 ≡ d = let s = k.short in omega arith in
        rw z (headings_lowest ts decls f e 0 d ∙ (ap (λ (l : List Heading). lowest_of (each F l)) k.are ∙ groups_lowest (groups t) w))
