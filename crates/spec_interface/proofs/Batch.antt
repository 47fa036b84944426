-- The 49 numbers after many rows in one call: stored where a row was performed, else as they came. By induction over the rows. Assumes nothing.
use mathlib.Core.Path.{◌≡◌, refl, sym, ◌∙◌, ap}
use mathlib.Core.Bool.{Bool, true, false, cond, ◌||◌}
use mathlib.Core.List.{List, [], ◌∷◌}
use Prim.Native.Nat.{ℕ}
use lib.ListN.{length}
use lib.IntN.{ℤ}
use Rattle.base_answers.specs.Answers.{Told, done, refusal, is_done}
use Rattle.base_answers.specs.declared.State.{State}
use Rattle.spec_semantics.specs.Calls.{Answer, performed, not_performed, Called, Call}
use Rattle.spec_semantics.specs.Advances.{cycle_answer}
use Rattle.spec_format.specs.Opening.{Opened, opened, not_opened, open_of}
use Rattle.spec_format.specs.Cycle.{cycle_of, calls_of}
use Rattle.spec_format.specs.Batch.{Batch, calls_in, state_left, due, rows_run_on, laid_out, batch_of, one_performed, is_moved}
use Rattle.spec_format.proofs.Unmoved.{state_kept}
use Rattle.spec_interface.specs.CInterface.{state_of_c, c_of_state, cycled_slots, slots_left, batch_slots}
use Rattle.spec_interface.specs.Laws.{SlotsAfterRows}

module _ (image : List ℕ) where
  rows_moved : (s : State) (l : List ℤ) (cs : List Call)
      → slots_left l (calls_of image s cs) ≡ cond (one_performed (calls_of image s cs)) (c_of_state (state_left s (calls_of image s cs))) l
  unfolding calls_of slots_left one_performed state_left
  rows_moved s l [] = refl
  rows_moved s l (c ∷ cs) =
      let r = cycle_of image s c.inputs c.outputs in
      on r.state (calls_of image r.state cs) r.answer (rows_moved r.state (c_of_state r.state) cs) (rows_moved r.state l cs)
      (state_kept image r.state cs)
    where
      on : (x : State) (rs : List Called) (a : Answer)
          → slots_left (c_of_state x) rs ≡ cond (one_performed rs) (c_of_state (state_left x rs)) (c_of_state x)
          → slots_left l rs ≡ cond (one_performed rs) (c_of_state (state_left x rs)) l
          → (one_performed rs ≡ false → state_left x rs ≡ x)
          → slots_left (cycled_slots a x l) rs ≡ cond (is_done (cycle_answer a) || one_performed rs) (c_of_state (state_left x rs)) l
      on x rs (performed way) stored kept f = stored ∙ again (one_performed rs) refl
        where
          again : (b : Bool) → one_performed rs ≡ b → cond b (c_of_state (state_left x rs)) (c_of_state x) ≡ c_of_state (state_left x rs)
          again true e = refl
          again false e = sym (ap c_of_state (f e))
      on x rs (not_performed q k) stored kept f = kept

  module _ (l : List ℤ) (n : ℕ) (is os : List ℤ) (ns : List ℕ) where
    -- stored where a row was performed, else as they came
    abbrev pub Moved : Batch → Type 0
    Moved b = batch_slots b.answer l ≡ cond (is_moved b.answer) (c_of_state b.state) l

    rows_on : (o : Opened) → Moved (laid_out (rows_run_on o image (state_of_c l) n is os ns) (state_of_c l) os ns)
    rows_on (not_opened q k) = refl
    rows_on (opened t) = held (due t.signature n is os ns)
      where
        cs : List Call
        cs = calls_in n (length t.signature.inputs) (length t.signature.outputs) is os

        held : (d : Bool) → Moved (laid_out (cond d (done (calls_of image (state_of_c l) cs)) (refusal 17 0)) (state_of_c l) os ns)
        held true = rows_moved (state_of_c l) l cs
        held false = refl

    pub slots_moved : Moved (batch_of image (state_of_c l) n is os ns)
    unfolding batch_of
    slots_moved = rows_on (open_of image)

    pub slots_after_rows : SlotsAfterRows image l n is os ns
    slots_after_rows =
        let stored = c_of_state (batch_of image (state_of_c l) n is os ns).state in
        record {
          stored = λ e. slots_moved ∙ ap (λ (b : Bool). cond b stored l) e;
          kept = λ e. slots_moved ∙ ap (λ (b : Bool). cond b stored l) e;
          turned_away = λ q k e. ap (λ (a : Told (List Called)). batch_slots a l) e;
        }
