-- The process of an accepted text is well formed: its counts are within the limits, its expressions and initial values are of their types, its body is
-- of class C and so is the body of every while. Each part is a lemma of another file. Assumes nothing.
use mathlib.Core.Path.{◌≡◌, subst}
use mathlib.Core.Bool.{Bool, true, false}
use mathlib.Core.List.{List, [], ◌∷◌, ◌++◌, map}
use Prim.Native.Nat.{ℕ, ◌≤◌}
use native.Mathlib.Omega.{arith}
use lib.ListN.{length, length-map}
use Rattle.spec_grammar.specs.Token.{Token}
use Rattle.spec_grammar.specs.Tree.{Group, Text}
use Rattle.spec_grammar.specs.Limits.{Each, init_numbers, exprs_numbers, group_numbers, text_numbers, body_exprs, WithinLimits}
use Rattle.spec_grammar.proofs.Each.{each_split, each_join}
use Rattle.spec_design.specs.Process.{Process, WellFormed, typed_process, Initialised}
use Rattle.spec_language.specs.Lists.{each, filter}
use Rattle.spec_language.specs.Declarations.{Decl, groups, declared, is_input, is_output, is_variable, statements, clock_of, is_data, scope_for, scope_of}
use Rattle.spec_language.specs.Typing.{types, types_of, initials_of}
use Rattle.spec_language.specs.Values.{values}
use Rattle.spec_language.specs.Elaboration.{source, slot, process_for, elaborate}
use Rattle.spec_language.specs.Validity.{Parses, Valid}
use Rattle.spec_language.proofs.Facts.{both_nil}
use Rattle.spec_language.proofs.Statements.{does_all}
use Rattle.spec_language.proofs.Elaborated.{Clean, fair, output_no_input, variable_no_input, whole_C, well_classed, elaborated_only}
use Rattle.spec_language.proofs.Judged.{clean}
use Rattle.spec_language.proofs.Modes.{Moded, moded}
use Rattle.spec_language.proofs.Sizes.{input_count_lem, output_count_lem, variable_count, data_count, size_stmts}
use Rattle.spec_language.proofs.WellTyped.{Small, bounded, all_typed, source_types_lem, slot_types_lem, initialised}

-- the literals of two lists of groups are those of the joined list
numbers_append : (P : Token → Type 0) (a b : List Group) → Each P (group_numbers a) → Each P (group_numbers b) → Each P (group_numbers (a ++ b))
unfolding group_numbers
numbers_append P [] b h k = k
numbers_append P (g ∷ a) b h k =
    let s = each_split P (init_numbers g.init) (group_numbers a) h in
    each_join P (init_numbers g.init) (group_numbers (a ++ b)) s.0 (numbers_append P a b s.1 k)

module _ (t : Text) (m : Moded t) (w : WithinLimits t) (q : Clean t) where
  -- at most 17 inputs, of which the clock is one
  few_inputs : length (elaborate t).inputs ≤ 16
  unfolding elaborate process_for scope_of scope_for
  few_inputs =
      let l = length-map (filter (is_data (clock_of t)) (declared t)) source in
      let d = data_count t q.clock (whole_C t q.loops) in
      let c = input_count_lem t m in
      let k = w.inputs in
      omega arith

  few_outputs : length (elaborate t).outputs ≤ 16
  unfolding elaborate process_for scope_of scope_for
  few_outputs =
      let l = length-map (filter (λ (d : Decl). is_output d.mode) (declared t)) slot in
      let c = output_count_lem t m in
      let k = w.outputs in
      omega arith

  few_variables : length (elaborate t).variables ≤ 32
  unfolding elaborate process_for scope_of scope_for
  few_variables =
      let l = length-map (filter (λ (d : Decl). is_variable d.mode) (declared t)) slot in
      let c = variable_count t m in
      let k = w.variables in
      omega arith

  -- the literals of ports, variables and statements
  small : Each Small (group_numbers t.ports) × Each Small (group_numbers t.vars) × Each Small (exprs_numbers (body_exprs t.body))
  unfolding text_numbers
  small =
      let s = each_split Small (group_numbers t.ports) (group_numbers t.vars ++ exprs_numbers (body_exprs t.body)) w.literals in
      let r = each_split Small (group_numbers t.vars) (exprs_numbers (body_exprs t.body)) s.1 in
      (s.0, r.0, r.1)

  initial_values : (p : Decl → Bool) → ((d : Decl) → p d ≡ true → is_input d.mode ≡ false) → Initialised (map slot (filter p (declared t)))
  unfolding types values declared groups
  initial_values p h =
      initialised p h (t.ports ++ t.vars) (both_nil (each initials_of (groups t)) (each (types_of (declared t)) (statements t.body)) q.types).0
      q.values
      (numbers_append Small t.ports t.vars small.0 small.1)

  well_typed : typed_process (elaborate t) ≡ true
  unfolding elaborate process_for scope_of
  well_typed =
      rw (source_types_lem (scope_of t).inputs, slot_types_lem (scope_of t).outputs, slot_types_lem (scope_of t).variables)
      (all_typed (scope_of t) (does_all (declared t) (clock_of t) t.body (fair t q)) (bounded (body_exprs t.body) w.items small.2))

  -- The process of a tree within the limits and without offences. That ports are no variables and variables no ports is needed, as the limits count
  -- inputs and outputs among the ports, and the names of all variable groups.
  pub well_formed : WellFormed (elaborate t)
  unfolding elaborate process_for scope_of scope_for
  well_formed = record {
    inputs = few_inputs;
    outputs = few_outputs;
    variables = few_variables;
    statements = rw (size_stmts (declared t) (scope_of t) t.body) w.statements;
    initial_outputs = initial_values (λ (d : Decl). is_output d.mode) output_no_input;
    initial_variables = initial_values (λ (d : Decl). is_variable d.mode) variable_no_input;
    typed = well_typed;
    class = (well_classed t q).0;
    loops = (well_classed t q).1;
  }

-- of the tree of a text
pub parses_well_formed : {b : List ℕ} {t : Text} → Parses b t → Clean t → WellFormed (elaborate t)
parses_well_formed {b} {t} p q = well_formed t (moded p.reads) p.limits q

-- of a valid text: the process that it means
pub valid_well_formed : {b : List ℕ} {d : Process} → Valid b d → WellFormed d
valid_well_formed {b} {d} v =
    let q = clean v.tree v.free in
    subst WellFormed (elaborated_only v.tree d q v.means) (parses_well_formed v.parses q)
