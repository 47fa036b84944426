-- Place and count of every answer have 32 bits: all are at most 65,535 (spec_promises/proofs/Places.antt); those of calls on an
-- image are `cycle_narrow` (spec_simulation/proofs/Places.antt) and `batch_narrow` (spec_promises/proofs/Batch.antt). Assumes nothing.
use mathlib.Core.Path.{◌≡◌, refl, sym}
use mathlib.Core.List.{List}
use Prim.Native.Nat.{ℕ, ◌≤◌}
use native.Mathlib.Omega.{arith}
use lib.ListN.{length}
use Rattle.std.specs.Prelude.{Result}
use Rattle.base_answers.specs.declared.Counts.{Counts}
use Rattle.base_answers.specs.declared.Refusal.{Refusal}
use Rattle.base_answers.specs.Answers.{Told, done, refusal, told, counted, cycle_told}
use Rattle.base_answers.specs.declared.Sections.{Sections}
use Rattle.base_answers.specs.declared.State.{State}
use Rattle.spec_semantics.specs.Records.{Started, fresh, not_started}
use Rattle.spec_semantics.specs.Calls.{Answer, performed, not_performed, Call}
use Rattle.spec_semantics.specs.Advances.{cycle_answer, fresh_answer}
use Rattle.spec_format.specs.Words.{Bytes}
use Rattle.spec_format.specs.Opening.{Opened, opened, not_opened, open_of}
use Rattle.spec_format.specs.State.{fresh_of}
use Rattle.spec_behaviour.specs.Direct.{direct_of, direct_fresh}
use Rattle.spec_interface.specs.Compile.{compile_of}
use Rattle.spec_simulation.proofs.Places.{open_place}
use Rattle.spec_promises.proofs.Places.{compile_place, compile_count, fresh_place, direct_place, direct_count, direct_fresh_place}
use Rattle.image_loader.specs.Open.{open_answer}
use Rattle.base_answers.specs.Numbers.{Narrow, numbers_of, uncounted, answer_numbers}
use Rattle.base_answers.proofs.Narrow.{narrowed, refused_narrow, done_narrow}

-- a cycle's answer
cycled_narrow : (a : Answer) → ((w : List ℕ) → a ≡ performed w → length w ≤ 512) → ((q k : ℕ) → a ≡ not_performed q k → k ≤ 16384)
    → Narrow (numbers_of (cycle_answer a))
cycled_narrow (performed w) f g = let h = f w refl in done_narrow (length w) (omega arith)
cycled_narrow (not_performed q k) f g = let h = g q k refl in refused_narrow q k (omega arith)

-- a compile
pub compile_narrow : (text buffer : List ℕ) (x : Result ℕ Refusal) → told x ≡ (compile_of text buffer).answer → Narrow (answer_numbers (λ n. n) x)
compile_narrow text buffer x e = narrowed (λ (t : Told ℕ). numbers_of (counted (λ n. n) t)) (sym e) (on (compile_of text buffer).answer refl)
  where
    on : (a : Told ℕ) → (compile_of text buffer).answer ≡ a → Narrow (numbers_of (counted (λ n. n) a))
    on (done n) f = done_narrow n (compile_count text buffer n f)
    on (refusal q k) f = refused_narrow q k (compile_place text buffer q k f)

-- images
module _ (image : List ℕ) (h : Bytes image) where
  pub open_narrow : (x : Result Sections Refusal) → told x ≡ open_answer image (open_of image) → Narrow (answer_numbers (λ k. 0) x)
  open_narrow x e = narrowed (λ (t : Told Sections). numbers_of (uncounted t)) (sym e) (on (open_of image) refl)
    where
      on : (o : Opened) → open_of image ≡ o → Narrow (numbers_of (uncounted (open_answer image o)))
      on (opened t) f = done_narrow 0 (omega arith)
      on (not_opened q k) f = let l = open_place image h q k f in refused_narrow q k (omega arith)

  pub fresh_narrow : (x : Result (Unit {0}) Refusal) → told x ≡ fresh_answer (fresh_of image) → Narrow (answer_numbers (λ k. 0) x)
  fresh_narrow x e = narrowed (λ (t : Told (Unit {0})). numbers_of (uncounted t)) (sym e) (on (fresh_of image) refl)
    where
      on : (f : Started) → fresh_of image ≡ f → Narrow (numbers_of (uncounted (fresh_answer f)))
      on (fresh s) f = done_narrow 0 (omega arith)
      on (not_started q k) f = let l = fresh_place image h q k f in refused_narrow q k (omega arith)

-- texts
pub direct_fresh_narrow : (text : List ℕ) (x : Result (Unit {0}) Refusal) → told x ≡ fresh_answer (direct_fresh text) → Narrow (answer_numbers (λ k. 0) x)
direct_fresh_narrow text x e = narrowed (λ (t : Told (Unit {0})). numbers_of (uncounted t)) (sym e) (on (direct_fresh text) refl)
  where
    on : (f : Started) → direct_fresh text ≡ f → Narrow (numbers_of (uncounted (fresh_answer f)))
    on (fresh s) f = done_narrow 0 (omega arith)
    on (not_started q k) f = let l = direct_fresh_place text q k f in refused_narrow q k (omega arith)

pub direct_narrow : (text : List ℕ) (s : State) (c : Call) (x : Result Counts Refusal) → cycle_told x ≡ cycle_answer (direct_of text s c).answer → Narrow (answer_numbers (λ n. n.lines) x)
direct_narrow text s c x e =
    narrowed numbers_of (sym e)
    (cycled_narrow (direct_of text s c).answer (direct_count text s c) (direct_place text s c))
