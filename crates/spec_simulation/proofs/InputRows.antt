-- 14 exactly when its clause says so, on the table's side as on the text's: by the exactness that the equations' rows have. Assumes nothing.
use Prim.Native.Nat.{ℕ}
use mathlib.Core.Path.{◌≡◌, refl, sym, ap, ◌∙◌}
use mathlib.Core.Logic.{◌↔◌}
use mathlib.Core.Option.{none, some}
use mathlib.Core.List.{List, [], ◌∷◌, map}
use lib.ListN.{length, length-map}
use lib.IntN.{ℤ}
use Rattle.spec_design.specs.Types.{Ty}
use Rattle.spec_design.specs.Statement.{wait}
use Rattle.spec_design.specs.Process.{Source, Slot, Process, source_types}
use Rattle.spec_semantics.specs.Rows.{Call, row_refusal}
use Rattle.spec_semantics.specs.InputRow.{Fitting as FittingCall, Meets14 as Meets14Call}
use Rattle.spec_semantics.specs.Values.{Values}
use Rattle.spec_semantics.proofs.Basic.{none_some}
use Rattle.spec_semantics.proofs.Rows.{meets_14_exactly, meets_none}
use Rattle.spec_format.specs.Signature.{Cell, Signature}
use Rattle.spec_format.specs.Cycle.{row_place}
use Rattle.spec_simulation.specs.Outcome.{Fitting, Meets14}

-- a process with the types of a signature; names, initial values and body play no part in 14
process : Signature → Process
process σ =
    record {
      inputs = map (λ (t : Ty). record { name = 0; type = t }) σ.inputs;
      outputs = map (λ (c : Cell). record { name = 0; type = c.type; initial = c.initial }) σ.outputs;
      variables = [];
      body = wait;
    }

process_types : (l : List Ty) → source_types (map (λ (t : Ty). record { name = 0; type = t }) l) ≡ l
process_types [] = refl
process_types (t ∷ l) = ap (λ (r : List Ty). t ∷ r) (process_types l)

inputs_length : (l : List Ty) → length (map {B = Source} (λ t. record { name = 0; type = t }) l) ≡ length l
inputs_length l = length-map l _

outputs_length : (l : List Cell) → length (map {B = Slot} (λ c. record { name = 0; type = c.type; initial = c.initial }) l) ≡ length l
outputs_length l = length-map l _

module _ (σ : Signature) (i : List ℤ) (n : ℕ) where
  call : Call
  call = record { inputs = i; room = n }

  same : row_place σ i n ≡ row_refusal (process σ) call
  unfolding row_place row_refusal process call
  same = rw (inputs_length σ.inputs, outputs_length σ.outputs, process_types σ.inputs)

  meets_same : (k : ℕ) → Meets14Call (process σ) call k ≡ Meets14 σ i n k
  unfolding Meets14Call Meets14 FittingCall Fitting process call
  meets_same k = rw (inputs_length σ.inputs, outputs_length σ.outputs, process_types σ.inputs)

  -- The rows meet 14 exactly where document 01 says so, at that place.
  pub row_exactly : (k : ℕ) → (row_place σ i n ≡ some k) ↔ Meets14 σ i n k
  row_exactly k = rw (same, ← meets_same k) (meets_14_exactly (process σ) call k)

  -- rows that do not meet 14: values of the declared types, and an output row of the declared length
  pub row_right : row_place σ i n ≡ none → Values σ.inputs i × (n ≡ length σ.outputs)
  unfolding FittingCall process call
  row_right h =
      let m = meets_none (process σ) call (sym same ∙ h) in
      (rw (process_types σ.inputs) at m.1, m.0.1 ∙ outputs_length σ.outputs)

  pub row_none : row_place σ i n ≡ none → (k : ℕ) → Meets14 σ i n k → ⊥
  row_none h k m = none_some k (sym h ∙ (row_exactly k).1 m)
