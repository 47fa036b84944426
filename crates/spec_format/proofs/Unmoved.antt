-- A call with many rows of which none was performed leaves the state and the outputs as they came, so that storing the state or not comes to the same: by
-- induction over the rows. Assumes nothing.
use Prim.Native.Nat.{ℕ, zero, suc, ◌*◌}
use native.Mathlib.Omega.{arith}
use mathlib.Core.Path.{◌≡◌, refl, sym, ap, ◌∙◌}
use mathlib.Core.Bool.{Bool, true, false, cond, ◌||◌}
use mathlib.Core.List.{List, [], ◌∷◌, ◌++◌}
use lib.ListN.{length, take, drop, length-drop, take-append-drop}
use lib.IntN.{ℤ}
use Rattle.base_answers.specs.Answers.{done, refusal, is_done}
use Rattle.base_answers.specs.declared.State.{State}
use Rattle.spec_semantics.specs.Calls.{Answer, performed, not_performed, Call}
use Rattle.spec_semantics.specs.Advances.{cycle_answer}
use Rattle.spec_semantics.proofs.Basic.{false_true}
use Rattle.spec_format.specs.Opening.{Opened, opened, not_opened, open_of}
use Rattle.spec_format.specs.Cycle.{cycle_of, calls_of}
use Rattle.spec_format.specs.Batch.{calls_in, rows_left, state_left, due, rows_run_on, laid_out, batch_of, one_performed, is_moved}
use Rattle.spec_format.proofs.Calls.{refused_untouched}

-- a list without length
pub none_long : {A : Type 0} (l : List A) → length l ≡ 0 → l ≡ []
none_long [] e = refl
none_long (x ∷ l) e = absurd (omega arith)

-- rows of which none was performed: the first was refused, and none of the others was performed
not_done : (a : Answer) (b : Bool) → (is_done (cycle_answer a) || b) ≡ false → ((q k : ℕ) × (a ≡ not_performed q k)) × (b ≡ false)
not_done (performed way) b e = absurd (false_true (sym e))
not_done (not_performed q k) b e = ((q, k, refl), e)

module _ (image : List ℕ) where
  -- they leave the state
  pub state_kept : (s : State) (cs : List Call) → one_performed (calls_of image s cs) ≡ false → state_left s (calls_of image s cs) ≡ s
  unfolding calls_of one_performed state_left
  state_kept s [] e = refl
  state_kept s (c ∷ cs) e =
      let r = cycle_of image s c.inputs c.outputs in
      let n = not_done r.answer (one_performed (calls_of image r.state cs)) e in
      state_kept r.state cs n.1 ∙ (refused_untouched s c.outputs image c.inputs n.0.0 n.0.1 n.0.2).0

  -- and their parts of the outputs
  pub rows_kept : (n i o : ℕ) (s : State) (is os : List ℤ) → length os ≡ n * o → one_performed (calls_of image s (calls_in n i o is os)) ≡ false
      → rows_left (calls_of image s (calls_in n i o is os)) ≡ os
  unfolding calls_in calls_of one_performed rows_left
  rows_kept zero i o s is os d e = sym (none_long os (omega arith))
  rows_kept (suc n) i o s is os d e =
      let r = cycle_of image s (take i is) (take o os) in
      let x = not_done r.answer (one_performed (calls_of image r.state (calls_in n i o (drop i is) (drop o os)))) e in
      let f = length-drop o os in
      let a : r.row ≡ take o os = (refused_untouched s (take o os) image (take i is) x.0.0 x.0.1 x.0.2).1 in
      let b = rows_kept n i o r.state (drop i is) (drop o os) (omega arith) x.1 in
      ap (λ (l : List ℤ). l ++ rows_left (calls_of image r.state (calls_in n i o (drop i is) (drop o os)))) a
      ∙ (ap (λ (l : List ℤ). take o os ++ l) b ∙ take-append-drop o os)

-- A call of which no row was performed leaves the state as it came.
pub not_moved : (b : List ℕ) (s : State) (n : ℕ) (is os : List ℤ) (ns : List ℕ) → is_moved (batch_of b s n is os ns).answer ≡ false
    → (batch_of b s n is os ns).state ≡ s
unfolding batch_of
not_moved b s n is os ns = by (open_of b)
  where
    by : (x : Opened) → is_moved (laid_out (rows_run_on x b s n is os ns) s os ns).answer ≡ false → (laid_out (rows_run_on x b s n is os ns) s os ns).state ≡ s
    by (not_opened q k) e = refl
    by (opened t) e = held (due t.signature n is os ns) e
      where
        cs : List Call
        cs = calls_in n (length t.signature.inputs) (length t.signature.outputs) is os

        held : (d : Bool) → is_moved (laid_out (cond d (done (calls_of b s cs)) (refusal 17 0)) s os ns).answer ≡ false
            → (laid_out (cond d (done (calls_of b s cs)) (refusal 17 0)) s os ns).state ≡ s
        held true f = state_kept b s cs f
        held false f = refl
