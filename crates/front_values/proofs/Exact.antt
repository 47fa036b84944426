-- The stage by position answers the lowest offence of refusal 7 of the tree that the arrays hold. Assumes nothing.
use mathlib.Core.Path.{◌≡◌, refl, sym, ap}
use mathlib.Core.Bool.{cond}
use mathlib.Core.List.{List, [], ◌∷◌}
use Prim.Native.Nat.{ℕ}
use Rattle.spec_grammar.specs.Token.{Token}
use Rattle.spec_grammar.specs.Tree.{Init, without, integer_literal, logic_literal, minus, Mode, input, output_port, variable_mode, Group, Text}
use Rattle.spec_grammar.specs.Limits.{Each}
use Rattle.spec_language.specs.Lists.{unless, each}
use Rattle.spec_language.specs.Declarations.{is_input, groups}
use Rattle.spec_language.specs.Values.{first_at, missing, values_of, values}
use Rattle.front_offences.specs.Lowest.{lowest_of}
use Rattle.front_layout.specs.Arrays.{TokensIn}
use Rattle.front_layout.specs.Headings.{mode_code, init_code, Heading, group_names, decl_in, heading_seen}
use Rattle.front_offences.specs.declared.Shape.{Shape}
use Rattle.front_offences.proofs.Tokens.{place_is}
use Rattle.front_offences.proofs.Groups.{names_lowest, rows_lowest}
use Rattle.front_values.specs.Positions.{value_there, value_at, lowest_in}
use Rattle.front_values.specs.Judges.{Held}

-- the offence of a declared name, and that of its group
missing_in : Heading → List ℕ
missing_in h = unless (value_there h.mode h.init) h.first.place

missing_heading : (m : Mode) (i : Init) (x : Token) (xs : List Token) → unless (value_there (mode_code m) (init_code i)) x.place
    ≡ cond (is_input m) [] (missing (x ∷ xs) i)
unfolding mode_code init_code unless is_input missing first_at
missing_heading input i x xs = refl
missing_heading output_port without x xs = refl
missing_heading output_port (integer_literal y) x xs = refl
missing_heading output_port (logic_literal y) x xs = refl
missing_heading output_port (minus z y) x xs = refl
missing_heading variable_mode without x xs = refl
missing_heading variable_mode (integer_literal y) x xs = refl
missing_heading variable_mode (logic_literal y) x xs = refl
missing_heading variable_mode (minus z y) x xs = refl

missing_nothing : (m : Mode) (i : Init) → cond (is_input m) [] (missing [] i) ≡ []
unfolding is_input missing first_at
missing_nothing input i = refl
missing_nothing output_port without = refl
missing_nothing output_port (integer_literal y) = refl
missing_nothing output_port (logic_literal y) = refl
missing_nothing output_port (minus z y) = refl
missing_nothing variable_mode without = refl
missing_nothing variable_mode (integer_literal y) = refl
missing_nothing variable_mode (logic_literal y) = refl
missing_nothing variable_mode (minus z y) = refl

missing_names : (g : Group) (ns : List Token) → lowest_of (each missing_in (group_names g ns)) ≡ lowest_of (cond (is_input g.mode) [] (missing ns g.init))
unfolding group_names each missing_in
missing_names g [] = ap lowest_of (sym (missing_nothing g.mode g.init))
missing_names g (x ∷ xs) = names_lowest missing_in g x (cond (is_input g.mode) [] (missing (x ∷ xs) g.init))
    (λ y. missing_heading g.mode g.init x xs) x xs

everything : {A : Type 0} (l : List A) → Each (λ (a : A). Unit {0}) l
everything [] = tt
everything (a ∷ l) = (tt, everything l)

value_row : {ts : List Token} {kinds starts : List ℕ} {n : ℕ} (decls : List ℕ) (j : ℕ) → TokensIn ts kinds starts n → value_at decls starts n j
    ≡ lowest_of (missing_in (heading_seen ts (decl_in decls j)))
unfolding value_at missing_in
value_row decls j h = rw (place_is h (decl_in decls j).first)

-- THE LAW
pub exact : (starts : List ℕ) (p : Shape) (decls : List ℕ) (t : Text) → Held starts p decls t → lowest_in starts p decls ≡ lowest_of (values t)
unfolding values values_of
exact starts p decls t h =
    rows_lowest missing_in (λ (g : Group). Unit {0}) values_of (λ g w. missing_names g g.names) h.tokens decls p.names t
    (value_at decls starts p.tokens) h.of_decls
    (λ j. value_row decls j h.of_tokens) (everything (groups t))
