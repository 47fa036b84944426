-- Many rows in one call: the test of the lengths is its clause, the rows are single calls by one equation, and what holds of them is carried from row to row.
-- Assumes nothing.
use mathlib.Core.Path.{◌≡◌, refl, sym, ◌∙◌, ap, subst}
use mathlib.Core.Bool.{Bool, true, false, cond}
use mathlib.Core.Logic.{◌↔◌}
use mathlib.Core.List.{List, [], ◌∷◌, ◌++◌}
use Prim.Native.Nat.{ℕ, zero, suc, ◌*◌, ◌≤◌}
use native.Mathlib.Omega.{arith}
use lib.ListN.{length, get_or, take, drop, length-append, length-drop, length-map}
use lib.Seq.{length-take-le}
use lib.IntN.{ℤ}
use lib.Dec.{eqb}
use Rattle.std.specs.Prelude.{Result}
use Rattle.base_answers.specs.declared.Refusal as declared
use Rattle.base_answers.specs.Answers.{Told, done, refusal, told}
use Rattle.base_answers.specs.Numbers.{Narrow, numbers_of, uncounted, answer_numbers}
use Rattle.base_answers.proofs.Told.{done_refused}
use Rattle.base_answers.proofs.Narrow.{narrowed, refused_narrow, done_narrow}
use Rattle.base_answers.specs.declared.State.{State}
use Rattle.spec_design.specs.Process.{Process, Source, Slot}
use Rattle.spec_language.specs.Validity.{Valid}
use Rattle.spec_language.specs.Verdict.{accepted}
use Rattle.spec_language.proofs.Judged.{accepts}
use Rattle.spec_language.proofs.WellFormed.{valid_well_formed}
use Rattle.spec_semantics.specs.Calls.{Answer, performed, not_performed, Called, Call}
use Rattle.spec_semantics.specs.Advances.{cycle_answer}
use Rattle.spec_semantics.proofs.Faults.{operator_number}
use Rattle.spec_semantics.proofs.Basic.{false_true, eqb-true, eqb_same, and_left, and_right, and_both}
use Rattle.spec_format.specs.Words.{Bytes}
use Rattle.spec_format.specs.Signature.{Signature}
use Rattle.spec_format.specs.Image.{Table}
use Rattle.spec_format.specs.Opening.{Opened, opened, not_opened, open_of}
use Rattle.spec_format.specs.Cycle.{cycle_of, calls_of}
use Rattle.spec_format.specs.Encode.{signature_for, table_of, encode}
use Rattle.spec_format.specs.Batch.{Batch, calls_in, rows_left, answers_left, state_left, due, rows_run_on, laid_out, batch_of, batch_answer, is_moved}
use Rattle.spec_format.proofs.Batch.{three}
use Rattle.spec_format.proofs.Unmoved.{none_long, state_kept, rows_kept}
use Rattle.spec_format.proofs.Refusals.{refused_exactly}
use Rattle.spec_simulation.specs.Outcome.{Outcome, row_refused, state_refused, operator_refused, performs}
use Rattle.spec_simulation.proofs.Outcomes.{image_outcome, row_long}
use Rattle.spec_simulation.proofs.Processes.{encode_opens}
use Rattle.spec_simulation.proofs.Places.{image_place, cycle_place, cycle_count}
use Rattle.spec_interface.specs.Compile.{written, compile_of}
use Rattle.spec_promises.specs.Promises.{answer_in_c}
use Rattle.spec_promises.specs.Batch.{Due, DueTo, BatchRefused, by_image, by_length, end_to_end, Comes, turned_away, takes, Singly, Batched, BatchTold}
use Rattle.spec_promises.specs.Batch.{BatchOfText}
use Rattle.spec_promises.proofs.Size.{valid_fits}
use Rattle.spec_interface.proofs.Compile.{wrote}
use Rattle.spec_promises.proofs.Demand3.{demand3}
use Rattle.spec_promises.proofs.AnswersTold.{done_is, refused_is}

-- THE COUNT'S DUE
eqb_is : (m n : ℕ) → m ≡ n → eqb m n ≡ true
eqb_is m n e = rw e (eqb_same n)

pub is_due : (σ : Signature) (n : ℕ) (is os : List ℤ) (ns : List ℕ) → due σ n is os ns ≡ true → Due (length σ.inputs) (length σ.outputs) n is os ns
unfolding due
is_due σ n is os ns e =
    let a = eqb (length is) (n * length σ.inputs) in
    let b = eqb (length os) (n * length σ.outputs) in
    let f = and_right a _ e in
    record { inputs = eqb-true _ _ (and_left a _ e); outputs = eqb-true _ _ (and_left b _ f); answers = eqb-true _ _ (and_right b _ f) }

pub due_is : (σ : Signature) (n : ℕ) (is os : List ℤ) (ns : List ℕ) → Due (length σ.inputs) (length σ.outputs) n is os ns → due σ n is os ns ≡ true
unfolding due
due_is σ n is os ns d = and_both _ _ (eqb_is _ _ d.inputs) (and_both _ _ (eqb_is _ _ d.outputs) (eqb_is _ _ d.answers))

not_due_is : (σ : Signature) (n : ℕ) (is os : List ℤ) (ns : List ℕ) → (Due (length σ.inputs) (length σ.outputs) n is os ns → ⊥) → due σ n is os ns ≡ false
not_due_is σ n is os ns h = go (due σ n is os ns) refl
  where
    go : (b : Bool) → due σ n is os ns ≡ b → b ≡ false
    go true e = absurd (h (is_due σ n is os ns e))
    go false e = refl

-- what is due to one row less, without its part
rest_due : (i o n : ℕ) (is os : List ℤ) (ns : List ℕ) → Due i o (suc n) is os ns → Due i o n (drop i is) (drop o os) (drop 3 ns)
rest_due i o n is os ns d =
    record {
      inputs = let a = length-drop i is in let e = d.inputs in omega arith;
      outputs = let a = length-drop o os in let e = d.outputs in omega arith;
      answers = let a = length-drop 3 ns in let e = d.answers in omega arith;
    }

-- THE CALL
module _ (image : List ℕ) (s : State) (n : ℕ) (is os : List ℤ) (ns : List ℕ) where
  closed_batch : (q k : ℕ) → open_of image ≡ not_opened q k → batch_of image s n is os ns ≡ record { answer = refusal q k; state = s; rows = os; answers = ns }
  unfolding batch_of
  closed_batch q k e = ap (λ (o : Opened). laid_out (rows_run_on o image s n is os ns) s os ns) e

  module _ (t : Table) (e : open_of image ≡ opened t) where
    opened_batch : batch_of image s n is os ns ≡ laid_out (rows_run_on (opened t) image s n is os ns) s os ns
    unfolding batch_of
    opened_batch = ap (λ (o : Opened). laid_out (rows_run_on o image s n is os ns) s os ns) e

    pub batch_taken : DueTo t n is os ns → batch_of image s n is os ns ≡ end_to_end s
        (calls_of image s (calls_in n (length t.signature.inputs) (length t.signature.outputs) is os))
    batch_taken d =
        opened_batch ∙ ap (λ (b : Bool). laid_out
        (cond b (done (calls_of image s (calls_in n (length t.signature.inputs) (length t.signature.outputs) is os))) (refusal 17 0)) s os ns)
        (due_is t.signature n is os ns d)

    batch_17 : (DueTo t n is os ns → ⊥) → batch_of image s n is os ns ≡ record { answer = refusal 17 0; state = s; rows = os; answers = ns }
    batch_17 h =
        opened_batch ∙ ap (λ (b : Bool). laid_out
        (cond b (done (calls_of image s (calls_in n (length t.signature.inputs) (length t.signature.outputs) is os))) (refusal 17 0)) s os ns)
        (not_due_is t.signature n is os ns h)

  -- a call is turned away and leaves all as it came, or it is its rows end to end
  batch_cases : (P : Batch → Type 0) → ((q k : ℕ) → P (record { answer = refusal q k; state = s; rows = os; answers = ns }))
      → ((t : Table) → open_of image ≡ opened t → DueTo t n is os ns
      → P (end_to_end s (calls_of image s (calls_in n (length t.signature.inputs) (length t.signature.outputs) is os))))
      → P (batch_of image s n is os ns)
  batch_cases P back rows = on (open_of image) refl
    where
      on : (x : Opened) → open_of image ≡ x → P (batch_of image s n is os ns)
      on (not_opened q k) e = subst P (sym (closed_batch q k e)) (back q k)
      on (opened t) e = test (due t.signature n is os ns) refl
        where
          test : (b : Bool) → due t.signature n is os ns ≡ b → P (batch_of image s n is os ns)
          test false d = subst P (sym (batch_17 t e (λ y. false_true (sym d ∙ due_is t.signature n is os ns y)))) (back 17 0)
          test true d = let y = is_due t.signature n is os ns d in subst P (sym (batch_taken t e y)) (rows t e y)

-- REFUSALS: 11 to 13, then 17
module _ (image : List ℕ) (h : Bytes image) (s : State) (n : ℕ) (is os : List ℤ) (ns : List ℕ) (q k : ℕ) where
  turned_there : (batch_of image s n is os ns).answer ≡ refusal q k → BatchRefused image n is os ns q k
  turned_there e = on (open_of image) refl
    where
      on : (o : Opened) → open_of image ≡ o → BatchRefused image n is os ns q k
      on (not_opened x y) f =
          let z : refusal x y ≡ refusal q k = sym (ap (λ (b : Batch). b.answer) (closed_batch image s n is os ns x y f)) ∙ e in
          let a : x ≡ q = cc in
          let b : y ≡ k = cc in
          by_image ((refused_exactly image h q k).0 (f ∙ (ap (λ (m : ℕ). not_opened m y) a ∙ ap (λ (m : ℕ). not_opened q m) b)))
      on (opened t) f = test (due t.signature n is os ns) refl
        where
          test : (b : Bool) → due t.signature n is os ns ≡ b → BatchRefused image n is os ns q k
          test true d = done_refused (sym (ap (λ (b : Batch). b.answer) (batch_taken image s n is os ns t f (is_due t.signature n is os ns d))) ∙ e)
          test false d =
              let no : DueTo t n is os ns → ⊥ = λ y. false_true (sym d ∙ due_is t.signature n is os ns y) in
              let z : refusal 17 0 ≡ refusal q k = sym (ap (λ (b : Batch). b.answer) (batch_17 image s n is os ns t f no)) ∙ e in
              let a : q ≡ 17 = cc in
              let b : k ≡ 0 = cc in
              by_length t f no a b

  pub when_turned_back : BatchRefused image n is os ns q k → batch_of image s n is os ns ≡ record { answer = refusal q k; state = s; rows = os; answers = ns }
  when_turned_back (by_image r) = closed_batch image s n is os ns q k ((refused_exactly image h q k).1 r)
  when_turned_back (by_length t e d a b) =
      batch_17 image s n is os ns t e d
      ∙ (ap (λ (m : ℕ). record { answer = refusal m 0; state = s; rows = os; answers = ns }) (sym a)
      ∙ ap (λ (m : ℕ). record { answer = refusal q m; state = s; rows = os; answers = ns }) (sym b))

  turned_place : BatchRefused image n is os ns q k → k ≤ 512
  turned_place (by_image r) = image_place image q k r
  turned_place (by_length t e d a b) = omega arith

-- 32 bits hold the call's own three numbers
pub batch_narrow : (image : List ℕ) → Bytes image → (s : State) (n : ℕ) (is os : List ℤ) (ns : List ℕ) (x : Result (Unit {0}) declared.Refusal)
    → told x ≡ batch_answer (batch_of image s n is os ns).answer → Narrow (answer_numbers (λ k. 0) x)
batch_narrow image h s n is os ns x e = narrowed (λ (t : Told (Unit {0})). numbers_of (uncounted t)) (sym e) (on (batch_of image s n is os ns).answer refl)
  where
    on : (a : Told (List Called)) → (batch_of image s n is os ns).answer ≡ a → Narrow (numbers_of (uncounted (batch_answer a)))
    on (done rs) f = done_narrow 0 (omega arith)
    on (refusal q k) f = let l = turned_place image h s n is os ns q k (turned_there image h s n is os ns q k f) in refused_narrow q k (omega arith)

-- ONE ROW AFTER ANOTHER
-- the three numbers of a row
numbers_are : (a : Answer) → numbers_of (cycle_answer a) ≡ answer_in_c a
numbers_are (performed way) = refl
numbers_are (not_performed q k) = refl

module _ (image : List ℕ) (t : Table) (e : open_of image ≡ opened t) where
  singly : (s : State) (n : ℕ) (is os : List ℤ) (ns : List ℕ) → DueTo t n is os ns
      → Singly image (length t.signature.inputs) (length t.signature.outputs) s n is os ns
  unfolding calls_in calls_of rows_left answers_left state_left
  singly s zero is os ns d =
      let a : os ≡ [] = none_long os (let f = d.outputs in omega arith) in
      let b : ns ≡ [] = none_long ns (let f = d.answers in omega arith) in
      batch_taken image s zero is os ns t e d ∙ (λ j. record { answer = done []; state = s; rows = sym a j; answers = sym b j })
  singly s (suc n) is os ns d =
      let i = length t.signature.inputs in
      let o = length t.signature.outputs in
      let r = cycle_of image s (take i is) (take o os) in
      let rs = calls_of image r.state (calls_in n i o (drop i is) (drop o os)) in
      let x = batch_taken image s (suc n) is os ns t e d in
      let y = batch_taken image r.state n (drop i is) (drop o os) (drop 3 ns) t e (rest_due i o n is os ns d) in
      record {
        state = ap (λ (b : Batch). b.state) x ∙ sym (ap (λ (b : Batch). b.state) y);
        rows = ap (λ (b : Batch). b.rows) x ∙ ap (λ (l : List ℤ). r.row ++ l) (sym (ap (λ (b : Batch). b.rows) y));
        answers = ap (λ (b : Batch). b.answers) x
            ∙ (ap (λ (l : List ℕ). l ++ answers_left rs) (numbers_are r.answer)
            ∙ ap (λ (l : List ℕ). answer_in_c r.answer ++ l) (sym (ap (λ (b : Batch). b.answers) y)));
        taken = (rs, ap (λ (b : Batch). b.answer) y, ap (λ (b : Batch). b.answer) x);
      }

-- LENGTHS AND SIZES
module _ (image : List ℕ) (h : Bytes image) (t : Table) (e : open_of image ≡ opened t) where
  outcome_number : (s : State) (i o : List ℤ) (r : Called) → Outcome t s i o r → (q k : ℕ) → r.answer ≡ not_performed q k → q ≤ 18
  outcome_number s i o _ (row_refused x m) q k f = let z : q ≡ 14 = cc in omega arith
  outcome_number s i o _ (state_refused m b) q k f = let z : q ≡ 15 = cc in omega arith
  outcome_number s i o _ (operator_refused n x u m b l y) q k f = let z : n ≡ q = cc in omega (arith, (operator_number n u).1)
  outcome_number s i o _ (performs p τ m b y w v n l) q k f = absurd (let z : ◌≡◌ {A = ℕ} 0 1 = cc in omega arith)

  rows_long : (n i o : ℕ) (s : State) (is os : List ℤ) → length os ≡ n * o → length (rows_left (calls_of image s (calls_in n i o is os))) ≡ length os
  unfolding calls_in calls_of rows_left
  rows_long zero i o s is os d = omega arith
  rows_long (suc n) i o s is os d =
      let r = cycle_of image s (take i is) (take o os) in
      let rs = calls_of image r.state (calls_in n i o (drop i is) (drop o os)) in
      let a = length-append r.row (rows_left rs) in
      let b = row_long image h s (take i is) (take o os) in
      let c = length-take-le o os (omega arith) in
      let f = length-drop o os in
      let g = rows_long n i o r.state (drop i is) (drop o os) (omega arith) in
      omega arith

  answers_long : (n i o : ℕ) (s : State) (is os : List ℤ) → length (answers_left (calls_of image s (calls_in n i o is os))) ≡ n * 3
  unfolding calls_in calls_of answers_left
  answers_long zero i o s is os = refl
  answers_long (suc n) i o s is os =
      let r = cycle_of image s (take i is) (take o os) in
      let rs = calls_of image r.state (calls_in n i o (drop i is) (drop o os)) in
      let g = answers_long n i o r.state (drop i is) (drop o os) in
      let a = length-append (numbers_of (cycle_answer r.answer)) (answers_left rs) in
      let b = three (cycle_answer r.answer) in
      omega arith

  numbers_small : (a : Answer) → ((way : List ℕ) → a ≡ performed way → length way ≤ 512) → ((q k : ℕ) → a ≡ not_performed q k → q ≤ 18)
      → ((q k : ℕ) → a ≡ not_performed q k → k ≤ 512)
      → (l : List ℕ) → ((k : ℕ) → get_or l k 0 ≤ 512) → (k : ℕ) → get_or (numbers_of (cycle_answer a) ++ l) k 0 ≤ 512
  numbers_small (performed way) x y z l g zero = omega arith
  numbers_small (performed way) x y z l g (suc zero) = omega arith
  numbers_small (performed way) x y z l g (suc (suc zero)) = x way refl
  numbers_small (performed way) x y z l g (suc (suc (suc k))) = g k
  numbers_small (not_performed q p) x y z l g zero = let b = y q p refl in omega arith
  numbers_small (not_performed q p) x y z l g (suc zero) = z q p refl
  numbers_small (not_performed q p) x y z l g (suc (suc zero)) = omega arith
  numbers_small (not_performed q p) x y z l g (suc (suc (suc k))) = g k

  answers_small : (s : State) (cs : List Call) (k : ℕ) → get_or (answers_left (calls_of image s cs)) k 0 ≤ 512
  unfolding calls_of answers_left
  answers_small s [] k = omega arith
  answers_small s (c ∷ cs) k =
      let r = cycle_of image s c.inputs c.outputs in
      numbers_small r.answer (cycle_count image h s c.inputs c.outputs)
      (outcome_number s c.inputs c.outputs r (image_outcome image t h e s c.inputs c.outputs))
      (cycle_place image h s c.inputs c.outputs) (answers_left (calls_of image r.state cs)) (answers_small r.state cs) k

-- THE THEOREM
pub batched : (image : List ℕ) → Bytes image → (s : State) (n : ℕ) (is os : List ℤ) (ns : List ℕ) → Batched image s n is os ns
batched image h s n is os ns =
    record {
      comes = batch_cases image s n is os ns (λ b. ((q k : ℕ) → b.answer ≡ refusal q k → BatchRefused image n is os ns q k) → Comes image s n is os ns b)
          (λ q k f. turned_away q k (f q k refl)) (λ t e d f. takes t e d) (turned_there image h s n is os ns);
      refused = λ q k. (turned_there image h s n is os ns q k, λ r. ap (λ (b : Batch). b.answer) (when_turned_back image h s n is os ns q k r));
      place = λ q k e. turned_place image h s n is os ns q k (turned_there image h s n is os ns q k e);
      untouched = λ q k. batch_cases image s n is os ns (λ b. b.answer ≡ refusal q k → b ≡ record { answer = refusal q k; state = s; rows = os; answers = ns })
          (λ x y e. ap (λ (a : Told (List Called)). record { answer = a; state = s; rows = os; answers = ns }) e) (λ t e d f. done_refused f);
      taken = batch_taken image s n is os ns;
      singly = λ t e d. singly image t e s n is os ns d;
      long = batch_cases image s n is os ns (λ b. (length b.rows ≡ length os) × (length b.answers ≡ length ns))
          (λ q k. (refl, refl)) (λ t e d. (rows_long image h t e n _ _ s is os d.outputs, answers_long image h t e n _ _ s is os ∙ sym d.answers));
      small = λ t e d k. rw (batch_taken image s n is os ns t e d) (answers_small image h t e s _ k);
      kept = batch_cases image s n is os ns (λ b. is_moved b.answer ≡ false → (b.state ≡ s) × (b.rows ≡ os))
          (λ q k e. (refl, refl)) (λ t e d f. (state_kept image s _ f, rows_kept image n _ _ s is os d.outputs f));
    }

-- AN ANSWER THAT IS AN ENUM
pub batch_told_lem : BatchTold
batch_told_lem = record { taken = λ r rs e. done_is r tt e; refused = refused_is }

-- ON WHAT A COMPILE WROTE
-- it opens as the table of the process that the text means
pub text_opens : (text buffer : List ℕ) (m : ℕ) → (compile_of text buffer).answer ≡ written m → (p : Process) → Valid text p
    → open_of (take m (compile_of text buffer).buffer) ≡ opened (table_of p)
text_opens text buffer m e p v =
    let r = wrote text buffer m e in
    let f : accepted r.process ≡ accepted p = sym r.verdict ∙ (accepts text p).1 v in
    let g : r.process ≡ p = cc in
    ap open_of (r.image ∙ ap encode g) ∙ encode_opens p (valid_well_formed v) (valid_fits text p v)

-- with as many inputs and outputs
pub inputs_wide : (p : Process) → length (table_of p).signature.inputs ≡ length p.inputs
unfolding table_of signature_for
inputs_wide p = length-map p.inputs (λ (x : Source). x.type)

pub outputs_wide : (p : Process) → length (table_of p).signature.outputs ≡ length p.outputs
unfolding table_of signature_for
outputs_wide p = length-map p.outputs (λ (x : Slot). record { type = x.type; initial = x.initial })

pub text_due : (p : Process) (n : ℕ) (is os : List ℤ) (ns : List ℕ) → Due (length p.inputs) (length p.outputs) n is os ns ↔ DueTo (table_of p) n is os ns
text_due p n is os ns =
    (λ d. rw (inputs_wide p, outputs_wide p) d, λ d. rw (← inputs_wide p, ← outputs_wide p) d)

pub text_calls : (p : Process) (n : ℕ) (is os : List ℤ)
    → calls_in n (length (table_of p).signature.inputs) (length (table_of p).signature.outputs) is os ≡ calls_in n (length p.inputs)
    (length p.outputs) is os
text_calls p n is os = rw (inputs_wide p, outputs_wide p)

pub batch_of_text : (text buffer : List ℕ) (m : ℕ) → (compile_of text buffer).answer ≡ written m → BatchOfText text buffer m
batch_of_text text buffer m e =
    let d = demand3 text buffer m e in
    let p = d.process in
    let image = take m (compile_of text buffer).buffer in
    let o = text_opens text buffer m e p d.valid in
    record {
      process = p;
      valid = d.valid;
      state = d.state;
      starts = d.starts;
      same = λ n is os ns x. batch_taken image d.state n is os ns (table_of p) o ((text_due p n is os ns).0 x)
          ∙ ap (end_to_end d.state) (ap (calls_of image d.state) (text_calls p n is os)
          ∙ d.same (calls_in n (length p.inputs) (length p.outputs) is os));
      not_due = λ s n is os ns x. batch_17 image s n is os ns (table_of p) o (λ y. x ((text_due p n is os ns).1 y));
    }
