-- 15 for a text, exactly: a state record that the direct run does not refuse is the layout of what the equations can keep, and no other. Assumes nothing.
use mathlib.Core.Path.{◌≡◌, refl, sym, subst}
use mathlib.Core.Bool.{Bool, true, false, cond, ◌&&◌, ◌||◌}
use mathlib.Core.Logic.{◌↔◌}
use mathlib.Core.Option.{none}
use Prim.Native.Nat.{ℕ}
use lib.ListN.{length, take, length-map}
use lib.Dec.{eqb}
use Rattle.base_answers.specs.declared.State.{State}
use Rattle.spec_design.specs.Statement.{Stmt, has}
use Rattle.spec_design.specs.Process.{Process, Slot, slot_types, WellFormed}
use Rattle.spec_semantics.specs.Equations.{beginning, at}
use Rattle.spec_semantics.specs.Rows.{row_refusal}
use Rattle.spec_semantics.specs.Values.{Values}
use Rattle.spec_semantics.specs.Answer.{Placed, Invariant}
use Rattle.spec_semantics.specs.Records.{number, slots_ok, pad, state_for}
use Rattle.spec_semantics.specs.Calls.{Call, turned_back}
use Rattle.spec_semantics.specs.Comparison.{fed, laid}
use Rattle.spec_semantics.specs.DirectRow.{fits_text, place_for, kept_of, cycled, direct_row, Described}
use Rattle.spec_semantics.proofs.Basic.{eqb-true, and_left, and_right, or_other}
use Rattle.spec_semantics.proofs.Slots.{counted_slots}
use Rattle.spec_semantics.proofs.DirectRows.{laid_fits}

number_back : (n : ℕ) → number (place_for n) ≡ n
unfolding place_for
number_back n = go (eqb n 512) refl
  where
    go : (b : Bool) → eqb n 512 ≡ b → number (cond b beginning (at n)) ≡ n
    go true e = sym (eqb-true n 512 e)
    go false e = refl

placed_for : (s : Stmt) (n : ℕ) → (eqb n 512 || has s 0 n) ≡ true → Placed s (place_for n)
unfolding place_for Placed
placed_for s n e = go (eqb n 512) refl
  where
    go : (b : Bool) → eqb n 512 ≡ b → Placed s (cond b beginning (at n))
    go true h = tt
    go false h = or_other (eqb n 512) (has s 0 n) h e

module _ (p : Process) (s : State) (f : fits_text p s ≡ true) where
  abbrev pub place_fits : Bool
  place_fits = eqb s.place 512 || has p.body 0 s.place

  abbrev pub outputs_fit : Bool
  outputs_fit = eqb (length s.outputs) 16 && slots_ok (slot_types p.outputs) s.outputs

  abbrev pub variables_fit : Bool
  variables_fit = eqb (length s.variables) 32 && slots_ok (slot_types p.variables) s.variables

  pub parts : (place_fits ≡ true) × (outputs_fit ≡ true) × (variables_fit ≡ true)
  unfolding fits_text
  parts =
      let r = and_right place_fits (outputs_fit && variables_fit) f in
      (and_left place_fits (outputs_fit && variables_fit) f, and_left outputs_fit variables_fit r, and_right outputs_fit variables_fit r)

  -- the used slots, in number and type as declared; with 0 after them they are all slots
  pub used_outputs : Values (slot_types p.outputs) (take (length p.outputs) s.outputs) × (s.outputs ≡ pad 16 (take (length p.outputs) s.outputs))
  used_outputs = rw (length-map p.outputs (λ (x : Slot). x.type)) at (counted_slots 16 (slot_types p.outputs) s.outputs parts.1)

  pub used_variables : Values (slot_types p.variables) (take (length p.variables) s.variables)
      × (s.variables ≡ pad 32 (take (length p.variables) s.variables))
  used_variables = rw (length-map p.variables (λ (x : Slot). x.type)) at (counted_slots 32 (slot_types p.variables) s.variables parts.2)

  -- all slots are there
  pub outputs_long : length s.outputs ≡ 16
  outputs_long = eqb-true (length s.outputs) 16 (and_left (eqb (length s.outputs) 16) _ parts.1)

  pub variables_long : length s.variables ≡ 32
  variables_long = eqb-true (length s.variables) 32 (and_left (eqb (length s.variables) 32) _ parts.2)

  pub kept_invariant : Invariant p (kept_of p s)
  unfolding kept_of
  kept_invariant = record {
    place = placed_for p.body s.place
        parts.0;
    well_typed = record { outputs = used_outputs.0; variables = used_variables.0 };
  }

  -- it is the layout of what the equations keep of it
  pub kept_laid : laid (kept_of p s) ≡ s
  unfolding kept_of state_for
  kept_laid =
      let a = number_back s.place in
      let o = sym used_outputs.1 in
      let v = sym used_variables.1 in
      λ i. record { place = a i; outputs = o i; variables = v i }

-- 15 exactly when the record is none that the State section describes for the text
pub fits_exactly : (p : Process) → WellFormed p → (s : State) → (fits_text p s ≡ true) ↔ Described p s
fits_exactly p w s = (
  λ f. record { kept = kept_of p s; invariant = kept_invariant p s f; layout = kept_laid p s f },
  λ g. subst (λ (x : State). fits_text p x ≡ true) g.layout (laid_fits p w g.kept g.invariant),
)

-- a record that is none gets 15 at 0, where the row does not meet 14
pub direct_15 : (p : Process) → WellFormed p → (s : State) (c : Call) → row_refusal p (fed c) ≡ none → (Described p s → ⊥)
    → direct_row p s c ≡ turned_back 15 0 s c.outputs
unfolding direct_row
direct_15 p w s c r h = rw r (go (fits_text p s) refl)
  where
    go : (b : Bool) → fits_text p s ≡ b → cond b (cycled p (kept_of p s) c) (turned_back 15 0 s c.outputs) ≡ turned_back 15 0 s c.outputs
    go true e = absurd (h ((fits_exactly p w s).0 e))
    go false e = refl
