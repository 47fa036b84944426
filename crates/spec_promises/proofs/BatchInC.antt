-- Many rows in one call at the C interface: the 49 numbers that single calls hand on are those of the state record that the rows hand on, from any 49 numbers;
-- a row that is refused leaves them, a row that is performed leaves those of a record that they hold without loss. Assumes nothing.
use mathlib.Core.Path.{◌≡◌, refl, sym, ◌∙◌, ap}
use mathlib.Core.List.{List, [], ◌∷◌, ◌++◌}
use Prim.Native.Nat.{ℕ}
use lib.ListN.{length, take}
use lib.IntN.{ℤ}
use Rattle.base_answers.specs.Numbers.{numbers_of}
use Rattle.base_answers.specs.declared.State.{State}
use Rattle.spec_semantics.specs.Calls.{Called, Call}
use Rattle.spec_semantics.specs.Advances.{cycle_answer}
use Rattle.spec_semantics.specs.Comparison.{laid}
use Rattle.spec_semantics.specs.Rows.{kept_at_first}
use Rattle.spec_format.specs.Words.{Bytes}
use Rattle.spec_format.specs.Image.{Table}
use Rattle.spec_format.specs.Opening.{opened, open_of}
use Rattle.spec_format.specs.Cycle.{cycle_of, calls_of}
use Rattle.spec_format.specs.Encode.{table_of}
use Rattle.spec_format.specs.Batch.{Batch, calls_in, rows_left, answers_left}
use Rattle.spec_simulation.specs.Outcome.{Outcome, row_refused, state_refused, operator_refused, performs}
use Rattle.spec_simulation.proofs.Outcomes.{image_outcome}
use Rattle.spec_interface.specs.Compile.{compile_of}
use Rattle.spec_interface.specs.CInterface.{state_of_c, c_of_state, cycled_slots, compile_in_c, cycle_in_c, calls_in_c, slots_left, batch_left, batch_in_c}
use Rattle.spec_interface.proofs.CInterface.{back}
use Rattle.spec_promises.specs.Promises.{done_numbers}
use Rattle.spec_promises.specs.Batch.{DueTo, slots_after, rows_after, answers_after, end_to_end_in_c, BatchInC, BatchOfTextInC}
use Rattle.spec_promises.proofs.CInterface.{wait_whole, wrote_in_c, wrote_bytes, calls_in_c_lem}
use Rattle.spec_promises.proofs.Batch.{batch_taken, when_turned_back, text_opens, text_due, text_calls}

-- THE ROWS GIVEN SINGLY
module _ (image : List ℕ) (h : Bytes image) (t : Table) (e : open_of image ≡ opened t) where
  -- the 49 numbers after a row are read as the record that it left
  row_read : (l i o : List ℤ) (r : Called) → Outcome t (state_of_c l) i o r → state_of_c (cycled_slots r.answer r.state l) ≡ r.state
  row_read l i o _ (row_refused k m) = refl
  row_read l i o _ (state_refused m b) = refl
  row_read l i o _ (operator_refused q x u m b y z) = refl
  row_read l i o _ (performs p τ m b q a y n z) = back _ (wait_whole image h t e p a.inside τ.memory)

  record Same (l : List ℤ) (cs : List Call) : Type 0 where
    slots : slots_left l (calls_of image (state_of_c l) cs) ≡ slots_after l (calls_in_c (cycle_in_c image) l cs)
    rows : rows_left (calls_of image (state_of_c l) cs) ≡ rows_after (calls_in_c (cycle_in_c image) l cs)
    answers : answers_left (calls_of image (state_of_c l) cs) ≡ answers_after (calls_in_c (cycle_in_c image) l cs)

  same_singly : (l : List ℤ) (cs : List Call) → Same l cs
  unfolding calls_of slots_left rows_left answers_left calls_in_c slots_after rows_after answers_after
  same_singly l [] = record { slots = refl; rows = refl; answers = refl }
  same_singly l (c ∷ cs) =
      let r = cycle_of image (state_of_c l) c.inputs c.outputs in
      let x = cycled_slots r.answer r.state l in
      let f : state_of_c x ≡ r.state = row_read l c.inputs c.outputs r (image_outcome image t h e (state_of_c l) c.inputs c.outputs) in
      let k = same_singly x cs in
      record {
        slots = ap (λ (s : State). slots_left x (calls_of image s cs)) (sym f) ∙ k.slots;
        rows = ap (λ (s : State). r.row ++ rows_left (calls_of image s cs)) (sym f) ∙ ap (λ (a : List ℤ). r.row ++ a) k.rows;
        answers = ap (λ (s : State). numbers_of (cycle_answer r.answer) ++ answers_left (calls_of image s cs)) (sym f)
            ∙ ap (λ (a : List ℕ). numbers_of (cycle_answer r.answer) ++ a) k.answers;
      }

  taken_in_c : (l : List ℤ) (n : ℕ) (is os : List ℤ) (ns : List ℕ) → DueTo t n is os ns
      → batch_in_c image l n is os ns ≡ end_to_end_in_c l
      (calls_in_c (cycle_in_c image) l (calls_in n (length t.signature.inputs) (length t.signature.outputs) is os))
  taken_in_c l n is os ns d =
      let k = same_singly l (calls_in n (length t.signature.inputs) (length t.signature.outputs) is os) in
      ap (λ (b : Batch). batch_left b l) (batch_taken image (state_of_c l) n is os ns t e d)
      ∙ (λ j. record { answer = done_numbers 0; slots = k.slots j; rows = k.rows j; answers = k.answers j })

-- THE THEOREMS
pub batch_in_c_lem : (image : List ℕ) → Bytes image → (l : List ℤ) (n : ℕ) (is os : List ℤ) (ns : List ℕ) → BatchInC image l n is os ns
batch_in_c_lem image h l n is os ns =
    record {
      refused = λ q k r. ap (λ (b : Batch). batch_left b l) (when_turned_back image h (state_of_c l) n is os ns q k r);
      taken = λ t e d. taken_in_c image h t e l n is os ns d;
    }

pub batch_of_text_in_c : (text buffer : List ℕ) (m : ℕ) → (compile_in_c text buffer).0 ≡ done_numbers m → BatchOfTextInC text buffer m
batch_of_text_in_c text buffer m e =
    let a = wrote_in_c text buffer m e in
    let k = calls_in_c_lem text buffer m e in
    let p = k.process in
    let image = take m (compile_of text buffer).buffer in
    let l = c_of_state (laid (kept_at_first p)) in
    record {
      process = p;
      valid = k.valid;
      starts = k.starts;
      same = λ n is os ns d. taken_in_c image (wrote_bytes text buffer m a) (table_of p) (text_opens text buffer m a p k.valid) l n is os ns
          ((text_due p n is os ns).0 d)
          ∙ ap (end_to_end_in_c l) (ap (calls_in_c (cycle_in_c image) l) (text_calls p n is os) ∙ k.same (calls_in n (length p.inputs) (length p.outputs) is os));
    }
