-- The direct run from what the equations keep is a call of the equations: the state laid out is not refused by 15, and what is kept of it is what was laid
-- out. So, by induction on the list of calls, all calls are. Assumes nothing.
use mathlib.Core.Path.{◌≡◌, refl, ◌∙◌, ap}
use mathlib.Core.Bool.{Bool, true, false, cond, ◌||◌}
use mathlib.Core.Option.{Option, none, some}
use mathlib.Core.List.{List, [], ◌∷◌, map}
use Prim.Native.Nat.{ℕ, ◌≤◌}
use native.Mathlib.Omega.{arith}
use lib.ListN.{length, take, length-map}
use lib.Dec.{eqb}
use Rattle.spec_design.specs.Statement.{Stmt, has}
use Rattle.spec_design.specs.Process.{Process, Slot, slot_types, WellFormed}
use Rattle.spec_semantics.specs.Equations.{Place, beginning, at}
use Rattle.spec_semantics.specs.Rows.{Kept, row_refusal, judged, row, rows_from}
use Rattle.spec_semantics.specs.Answer.{Placed, Invariant}
use Rattle.spec_semantics.specs.Records.{number, pad, state_for}
use Rattle.spec_semantics.specs.Calls.{Call, Called, unless14}
use Rattle.spec_semantics.specs.Comparison.{fed, laid, seen, seen_all, equation_calls}
use Rattle.spec_semantics.specs.DirectRow.{fits_text, place_for, kept_of, cycled, direct_row, direct_rows}
use Rattle.spec_semantics.proofs.Basic.{eqb-true}
use Rattle.spec_semantics.proofs.Results.{has_below}
use Rattle.spec_semantics.proofs.Slots.{pad_length, slots_ok_lem, pad_take}
use Rattle.spec_semantics.proofs.Rows.{row_invariant}

-- a place of the body is read back from its number, which is 512 for the beginning only
place_back : (p : Process) → WellFormed p → (q : Place) → Placed p.body q → place_for (number q) ≡ q
unfolding place_for Placed
place_back p w beginning v = refl
place_back p w (at x) v = go (eqb x 512) refl
  where
    go : (b : Bool) → eqb x 512 ≡ b → cond b beginning (at x) ≡ at x
    go true e = let h = has_below p.body 0 x v in let z = eqb-true x 512 e in let s = w.statements in absurd (omega arith)
    go false e = refl

place_fits : (s : Stmt) (q : Place) → Placed s q → (eqb (number q) 512 || has s 0 (number q)) ≡ true
unfolding Placed
place_fits s beginning v = refl
place_fits s (at x) v = go (eqb x 512)
  where
    go : (b : Bool) → (b || has s 0 x) ≡ true
    go true = refl
    go false = v

module _ (p : Process) (w : WellFormed p) (k : Kept) (v : Invariant p k) where
  few_outputs : length (slot_types p.outputs) ≤ 16
  few_outputs = rw (length-map p.outputs (λ (s : Slot). s.type)) w.outputs

  few_variables : length (slot_types p.variables) ≤ 32
  few_variables = rw (length-map p.variables (λ (s : Slot). s.type)) w.variables

  -- it is not refused by 15
  pub laid_fits : fits_text p (laid k) ≡ true
  unfolding fits_text state_for
  laid_fits =
      rw (
        place_fits p.body k.place v.place,
        pad_length 16 k.memory.outputs,
        pad_length 32 k.memory.variables,
        slots_ok_lem 16 (slot_types p.outputs) k.memory.outputs v.well_typed.outputs few_outputs,
        slots_ok_lem 32 (slot_types p.variables) k.memory.variables v.well_typed.variables few_variables,
      )

  -- what is kept of it is what was laid out
  outputs_back : take (length p.outputs) (pad 16 k.memory.outputs) ≡ k.memory.outputs
  outputs_back = rw (length-map p.outputs (λ (s : Slot). s.type))
      at (pad_take 16 (slot_types p.outputs) k.memory.outputs v.well_typed.outputs few_outputs)

  variables_back : take (length p.variables) (pad 32 k.memory.variables) ≡ k.memory.variables
  variables_back = rw (length-map p.variables (λ (s : Slot). s.type))
      at (pad_take 32 (slot_types p.variables) k.memory.variables v.well_typed.variables few_variables)

  laid_back : kept_of p (laid k) ≡ k
  unfolding kept_of state_for
  laid_back =
      let a = place_back p w k.place v.place in
      λ i. record { place = a i; memory = record { outputs = outputs_back i; variables = variables_back i } }

  -- one call
  pub direct_row_lem : (c : Call) → direct_row p (laid k) c ≡ seen (row p k (fed c)) c
  unfolding direct_row row judged
  direct_row_lem c = rw laid_fits (ap (λ (x : Kept). unless14 (row_refusal p (fed c)) (laid k) c.outputs (cycled p x c)) laid_back ∙ go (row_refusal p (fed c)))
    where
      go : (o : Option ℕ) → unless14 o (laid k) c.outputs (cycled p k c) ≡ seen (judged o p k (fed c)) c
      go none = refl
      go (some x) = refl

-- all calls
pub direct_rows_lem : (p : Process) → WellFormed p → (k : Kept) → Invariant p k → (cs : List Call) → direct_rows p (laid k) cs ≡ equation_calls p k cs
unfolding direct_rows equation_calls
direct_rows_lem p w k v [] = refl
direct_rows_lem p w k v (c ∷ cs) =
    rw (direct_row_lem p w k v c) (ap (λ (l : List Called). seen (row p k (fed c)) c ∷ l) (direct_rows_lem p w (row p k (fed c)).1 (row_invariant p w k (fed c) v) cs))

-- the calls of the equations are their rows, seen call by call
pub calls_seen : (p : Process) (k : Kept) (cs : List Call) → equation_calls p k cs ≡ seen_all (rows_from p k (map fed cs)) cs
unfolding equation_calls seen_all rows_from
calls_seen p k [] = refl
calls_seen p k (c ∷ cs) = ap (λ (l : List Called). seen (row p k (fed c)) c ∷ l) (calls_seen p (row p k (fed c)).1 cs)
