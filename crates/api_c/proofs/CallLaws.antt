-- What a call leaves at the C interface: its three numbers, and the 49 numbers, those of the new record where the call was done and as they were where it was
-- refused. Assumes nothing.
use Prim.Native.Nat.{ℕ}
use mathlib.Core.Path.{◌≡◌, refl, sym, ap, ◌∙◌, subst}
use mathlib.Core.Bool.{Bool, true, false, cond}
use mathlib.Core.List.{List}
use lib.IntN.{ℤ}
use Rattle.std.specs.Prelude.{Result, is_ok}
use Rattle.base_answers.specs.declared.Counts.{Counts}
use Rattle.base_answers.specs.declared.Refusal.{Refusal}
use Rattle.base_answers.specs.declared.State.{State}
use Rattle.base_answers.specs.Answers.{Told, done, refusal, is_done, told, counted, cycle_told}
use Rattle.spec_semantics.proofs.Basic.{false_true}
use Rattle.spec_semantics.specs.Records.{Started, fresh, not_started}
use Rattle.spec_semantics.specs.Calls.{Answer, performed, not_performed, Called}
use Rattle.spec_semantics.specs.Advances.{cycle_answer, fresh_answer, start_of}
use Rattle.spec_format.specs.Opening.{Opened, opened, not_opened}
use Rattle.spec_format.specs.Batch.{batch_of, batch_answer, is_moved}
use Rattle.image_loader.specs.Open.{open_answer}
use Rattle.image_batch.specs.declared.Outcome.{Outcome}
use Rattle.image_batch.specs.Batches.{Batches}
use Rattle.spec_interface.proofs.Batch.{slots_moved}
use Rattle.spec_interface.specs.CInterface.{state_of_c, c_of_state, cycled_slots, cycle_left, start_left, open_numbers, batch_in_c}
use Rattle.base_answers.proofs.Told.{ok_done, ok_performed}
use Rattle.base_answers.specs.Numbers.{numbers_of, uncounted, answer_numbers}

-- an image opened
pub opened_numbers_lem : (b : List ℕ) (o : Opened) → numbers_of (uncounted (open_answer b o)) ≡ open_numbers o
opened_numbers_lem b (opened t) = refl
opened_numbers_lem b (not_opened q k) = refl

-- a compile
pub compiled_numbers_lem : (t : Told ℕ) → numbers_of (counted (λ n. n) t) ≡ numbers_of t
compiled_numbers_lem (done n) = refl
compiled_numbers_lem (refusal q k) = refl

-- a fresh state asked for: a is the code's answer, t what the code asks before it stores, n the three numbers, l the 49 numbers before
module _ (f : Started) (a : Result (Unit {0}) Refusal) (t : Bool) (n : List ℕ) (l : List ℤ) (e : told a ≡ fresh_answer f) (g : n ≡ answer_numbers (λ k. 0) a)
    (h : t ≡ is_ok a) where
  numbers : (x : Started) → numbers_of (uncounted (fresh_answer x)) ≡ (start_left x l).0
  numbers (fresh s) = refl
  numbers (not_started q k) = refl

  answered : n ≡ (start_left f l).0
  answered = g ∙ (ap (λ (x : Told (Unit {0})). numbers_of (uncounted x)) e ∙ numbers f)

  slots_stored : (x : Started) (s : State) (c : List ℤ) → t ≡ is_done (fresh_answer x) → t ≡ true → s ≡ start_of x → c ≡ c_of_state s → c ≡ (start_left x l).1
  slots_stored (fresh y) s c i j k m = m ∙ ap c_of_state k
  slots_stored (not_started q y) s c i j k m = false_true (sym i ∙ j)

  slots_kept : (x : Started) → t ≡ is_done (fresh_answer x) → t ≡ false → l ≡ (start_left x l).1
  slots_kept (fresh y) i j = false_true (sym j ∙ i)
  slots_kept (not_started q y) i j = refl

  pub started_stored : (s : State) (c : List ℤ) → t ≡ true → s ≡ start_of f → c ≡ c_of_state s → (n ≡ (start_left f l).0) × (c ≡ (start_left f l).1)
  started_stored s c i j k = (answered, slots_stored f s c (h ∙ ok_done a ∙ ap is_done e) i j k)

  pub started_kept : t ≡ false → (n ≡ (start_left f l).0) × (l ≡ (start_left f l).1)
  started_kept i = (answered, slots_kept f (h ∙ ok_done a ∙ ap is_done e) i)

-- a cycle: `call` is what comes of a state record, l are the 49 numbers before it
module _ (call : State → Called) (l : List ℤ) where
  stored : (a : Answer) (t : Bool) (s : State) (c : List ℤ) → t ≡ is_done (cycle_answer a) → t ≡ true → c ≡ c_of_state s → c ≡ cycled_slots a s l
  stored (performed w) t s c e h j = j
  stored (not_performed q k) t s c e h j = false_true (sym e ∙ h)

  kept : (a : Answer) (t : Bool) (s : State) → t ≡ is_done (cycle_answer a) → t ≡ false → l ≡ cycled_slots a s l
  kept (performed w) t s e h = false_true (sym h ∙ e)
  kept (not_performed q k) t s e h = refl

  abbrev pub After : List ℕ → List ℤ → List ℤ → Type 0
  After n c u = (n ≡ (cycle_left call l).answer) × (c ≡ (cycle_left call l).slots) × (u ≡ (cycle_left call l).row)

  pub cycled_stored : (s x : State) (a : Result Counts Refusal) (t : Bool) (n : List ℕ) (c u : List ℤ) → s ≡ state_of_c l → cycle_told a ≡ cycle_answer (call s).answer
      → x ≡ (call s).state → u ≡ (call s).row
      → n ≡ answer_numbers (λ k. k.lines) a → t ≡ is_ok a → t ≡ true → c ≡ c_of_state x → After n c u
  cycled_stored s x a t n c u e f g h i j k m =
      let f' = f ∙ ap (λ s. cycle_answer (call s).answer) e in (
        i ∙ ap numbers_of f',
        stored (call (state_of_c l)).answer t (call (state_of_c l)).state c (j ∙ ok_performed a ∙ ap is_done f') k (m ∙ ap c_of_state (g ∙ ap (λ s. (call s).state) e)),
        h ∙ ap (λ s. (call s).row) e,
      )

  pub cycled_kept : (s : State) (a : Result Counts Refusal) (t : Bool) (n : List ℕ) (u : List ℤ) → s ≡ state_of_c l → cycle_told a ≡ cycle_answer (call s).answer
      → u ≡ (call s).row
      → n ≡ answer_numbers (λ k. k.lines) a → t ≡ is_ok a → t ≡ false → After n l u
  cycled_kept s a t n u e f h i j k =
      let f' = f ∙ ap (λ s. cycle_answer (call s).answer) e in (
        i ∙ ap numbers_of f',
        kept (call (state_of_c l)).answer t (call (state_of_c l)).state (j ∙ ok_performed a ∙ ap is_done f') k,
        h ∙ ap (λ s. (call s).row) e,
      )

-- many rows in one call: l are the 49 numbers before it
module _ (image : List ℕ) (l : List ℤ) (n : ℕ) (is os : List ℤ) (ns : List ℕ) where
  abbrev pub AfterRows : List ℕ → List ℤ → List ℤ → List ℕ → Type 0
  AfterRows m c u v =
      (m ≡ (batch_in_c image l n is os ns).answer) × (c ≡ (batch_in_c image l n is os ns).slots) × (u ≡ (batch_in_c image l n is os ns).rows)
      × (v ≡ (batch_in_c image l n is os ns).answers)

  rows_told : (a : Told (List Called)) → numbers_of (uncounted (batch_answer a)) ≡ numbers_of (uncounted a)
  rows_told (done rs) = refl
  rows_told (refusal q k) = refl

  -- the outcome is that of the record that the 49 numbers hold
  left : (s : State) (r : Outcome) (m : List ℕ) (c u : List ℤ) (v : List ℕ) → s ≡ state_of_c l → Batches (batch_of image s n is os ns) r u v
      → m ≡ answer_numbers (λ k. 0) r.answer
      → c ≡ cond r.performed (c_of_state r.state) l → AfterRows m c u v
  left s r m c u v e h i j =
      let k : Batches (batch_of image (state_of_c l) n is os ns) r u v = subst (λ (x : State). Batches (batch_of image x n is os ns) r u v) e h in (
        i ∙ ap (λ (x : Told (Unit {0})). numbers_of (uncounted x)) k.answer ∙ rows_told (batch_of image (state_of_c l) n is os ns).answer,
        j ∙ ap (λ (x : Bool). cond x (c_of_state r.state) l) k.performed
            ∙ ap (λ (x : State). cond (is_moved (batch_of image (state_of_c l) n is os ns).answer) (c_of_state x) l) k.state
            ∙ sym (slots_moved image l n is os ns),
        k.rows,
        k.answers,
      )

  pub rows_stored : (s : State) (r : Outcome) (m : List ℕ) (c u : List ℤ) (v : List ℕ) → s ≡ state_of_c l → Batches (batch_of image s n is os ns) r u v
      → m ≡ answer_numbers (λ k. 0) r.answer
      → r.performed ≡ true → c ≡ c_of_state r.state → AfterRows m c u v
  rows_stored s r m c u v e h i t j = left s r m c u v e h i (j ∙ sym (ap (λ (x : Bool). cond x (c_of_state r.state) l) t))

  pub rows_kept : (s : State) (r : Outcome) (m : List ℕ) (u : List ℤ) (v : List ℕ) → s ≡ state_of_c l → Batches (batch_of image s n is os ns) r u v
      → m ≡ answer_numbers (λ k. 0) r.answer
      → r.performed ≡ false → AfterRows m l u v
  rows_kept s r m u v e h i t = left s r m l u v e h i (sym (ap (λ (x : Bool). cond x (c_of_state r.state) l) t))
