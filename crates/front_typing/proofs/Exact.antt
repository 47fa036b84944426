-- The stage by position answers the lowest offence of refusal 6 of the tree that the arrays hold. Assumes nothing.
use mathlib.Core.Path.{◌≡◌, refl, sym, ◌∙◌, ap}
use mathlib.Core.Bool.{cond}
use mathlib.Core.List.{List, [], ◌∷◌}
use Prim.Native.Nat.{ℕ, ◌<◌, min}
use native.Mathlib.Omega.{arith}
use lib.ListN.{length}
use Rattle.spec_grammar.specs.Token.{Token}
use Rattle.spec_grammar.specs.Tree.{Init, without, integer_literal, logic_literal, minus, Mode, input, output_port, variable_mode, Group, Text}
use Rattle.spec_grammar.specs.Limits.{Each}
use Rattle.spec_grammar.proofs.Each.{each_join}
use Rattle.spec_design.specs.Types.{Ty, std_logic, integer, same_ty, type_byte}
use Rattle.spec_language.specs.Lists.{unless, each}
use Rattle.spec_language.specs.Declarations.{declared, type_named, is_input, groups, statements}
use Rattle.spec_language.specs.Typing.{initial_of, initials_of, types_of, types}
use Rattle.front_offences.specs.Lowest.{lowest_of, lowest_from}
use Rattle.front_layout.specs.Arrays.{TokensIn}
use Rattle.front_layout.specs.Headings.{mode_code, init_code, init_token, Heading, group_names, decl_in, heading_seen}
use Rattle.front_offences.specs.Kinded.{KindedGroup, Kinded}
use Rattle.front_offences.proofs.Lowest.{lowest_append}
use Rattle.front_offences.specs.declared.Shape.{Shape}
use Rattle.front_offences.proofs.Tokens.{place_is}
use Rattle.front_offences.proofs.Groups.{names_lowest, rows_lowest}
use Rattle.front_typing.specs.Expressions.{sources}
use Rattle.front_typing.specs.Positions.{initial_fits, initial_at, initials_in, statement_at, statements_in, lowest_in}
use Rattle.front_typing.specs.Judges.{Held}
use Rattle.front_typing.proofs.RowLaws.{statements_law}

-- the offence of a declared name's initial value, and that of its group
initial_in : Heading → List ℕ
initial_in h = unless (initial_fits h.mode h.type h.init) h.sign.place

initial_heading : (m : Mode) (ty : Ty) (i : Init) → unless (initial_fits (mode_code m) (type_byte ty) (init_code i)) (init_token i).place
    ≡ cond (is_input m) [] (initial_of ty i)
unfolding mode_code init_code init_token unless is_input initial_of same_ty
initial_heading input ty i = refl
initial_heading output_port ty without = refl
initial_heading output_port std_logic (integer_literal y) = refl
initial_heading output_port integer (integer_literal y) = refl
initial_heading output_port std_logic (logic_literal y) = refl
initial_heading output_port integer (logic_literal y) = refl
initial_heading output_port std_logic (minus z y) = refl
initial_heading output_port integer (minus z y) = refl
initial_heading variable_mode ty without = refl
initial_heading variable_mode std_logic (integer_literal y) = refl
initial_heading variable_mode integer (integer_literal y) = refl
initial_heading variable_mode std_logic (logic_literal y) = refl
initial_heading variable_mode integer (logic_literal y) = refl
initial_heading variable_mode std_logic (minus z y) = refl
initial_heading variable_mode integer (minus z y) = refl

initial_names : (g : Group) (ns : List Token) → 0 < length ns → lowest_of (each initial_in (group_names g ns)) ≡ lowest_of (initials_of g)
unfolding group_names each initial_in initials_of
initial_names g [] w = absurd (omega arith)
initial_names g (x ∷ xs) w = names_lowest initial_in g x (initials_of g) (λ y. initial_heading g.mode (type_named g.type) g.init) x xs

initial_row : {ts : List Token} {kinds places : List ℕ} {n : ℕ} (decls : List ℕ) (j : ℕ) → TokensIn ts kinds places n → initial_at decls places n j
    ≡ lowest_of (initial_in (heading_seen ts (decl_in decls j)))
unfolding initial_at initial_in
initial_row decls j h = rw (place_is h (decl_in decls j).value)

kinded_groups : (t : Text) → Kinded t → Each KindedGroup (groups t)
unfolding groups
kinded_groups t k = each_join KindedGroup t.ports t.vars k.ports k.vars

module _ (starts : List ℕ) (p : Shape) (codes indices rows decls owners : List ℕ) (t : Text) (h : Held starts p codes indices rows decls owners t) where
  initials_are : initials_in decls p.names starts p.tokens ≡ lowest_of (each initials_of (groups t))
  initials_are =
      rows_lowest initial_in KindedGroup initials_of (λ g w. initial_names g g.names w.some) h.tokens decls p.names t
      (initial_at decls starts p.tokens) h.laid.of_decls
      (λ j. initial_row decls j h.laid.of_tokens) (kinded_groups t h.laid.kinded)

  statements_are : statements_in (sources codes indices starts owners decls p.tokens p.names) rows p.statements
      ≡ lowest_of (each (types_of (declared t)) (statements t.body))
  statements_are =
      let e : min p.statements 512 ≡ p.statements = let s = h.laid.of_rows.short in omega arith in
      ap (lowest_from (statement_at (sources codes indices starts owners decls p.tokens p.names) rows) 0) e
      ∙ statements_law h.tokens h.kinds t (sources codes indices starts owners decls p.tokens p.names) h.laid.of_tokens h.laid.of_owners
      h.laid.of_decls rows p.statements p.items
      h.laid.kinded.body h.limited h.laid.of_rows h.laid.of_items

-- THE LAW
pub exact : (starts : List ℕ) (p : Shape) (codes indices rows decls owners : List ℕ) (t : Text) → Held starts p codes indices rows decls owners t
    → lowest_in starts p codes indices rows decls owners ≡ lowest_of (types t)
unfolding types
exact starts p codes indices rows decls owners t h =
    rw (initials_are starts p codes indices rows decls owners t h, statements_are starts p codes indices rows decls owners t h)
    (sym (lowest_append (each initials_of (groups t)) (each (types_of (declared t)) (statements t.body))))
