-- Lists of calls at the C interface: the 49 numbers handed from call to call are those of the state record handed from call to call. Assumes nothing.
use Prim.Native.Nat.{ℕ, ◌<◌}
use native.Mathlib.Omega.{arith}
use mathlib.Core.Path.{◌≡◌, refl, sym, ap, ◌∙◌, subst}
use mathlib.Core.List.{List, [], ◌∷◌, map}
use lib.ListN.{length, take}
use lib.IntN.{ℤ}
use Rattle.base_answers.specs.declared.State.{State}
use Rattle.base_answers.specs.Numbers.{numbers_of}
use Rattle.spec_language.proofs.Judged.{accepts}
use Rattle.spec_language.proofs.WellFormed.{valid_well_formed}
use Rattle.spec_semantics.specs.Equations.{beginning, Memory}
use Rattle.spec_semantics.specs.Rows.{Kept, kept_at_first}
use Rattle.spec_semantics.specs.Records.{Started, state_for, fresh}
use Rattle.spec_semantics.specs.Calls.{Called, Call}
use Rattle.spec_semantics.specs.Comparison.{laid, equation_calls}
use Rattle.spec_semantics.proofs.Slots.{pad_length}
use Rattle.spec_language.proofs.Numbers.{of_text_above_0}
use Rattle.spec_format.specs.Words.{Bytes}
use Rattle.spec_format.specs.Image.{Table}
use Rattle.spec_format.specs.Opening.{opened, open_of}
use Rattle.spec_format.specs.State.{fresh_of}
use Rattle.spec_format.specs.Cycle.{cycle_of, calls_of}
use Rattle.spec_format.specs.Encode.{encode}
use Rattle.spec_format.specs.Writing.{Writing}
use Rattle.spec_format.proofs.Opens.{opens_exactly}
use Rattle.spec_simulation.specs.Outcome as Image
use Rattle.spec_simulation.proofs.Processes.{encode_bytes}
use Rattle.spec_behaviour.proofs.DirectRun.{direct_run}
use Rattle.spec_interface.specs.Compile.{written, compile_of}
use Rattle.spec_interface.specs.CInterface.{state_of_c, c_of_state, Left, cycle_left, start_left, compile_in_c, cycle_in_c, direct_in_c, calls_in_c}
use Rattle.spec_interface.specs.Laws.{Whole}
use Rattle.spec_interface.proofs.CInterface.{back}
use Rattle.spec_promises.specs.Promises as P
use Rattle.spec_promises.specs.Promises.{CallsInC, seen_in_c, done_numbers}
use Rattle.spec_promises.proofs.Demand1.{demand1}
use Rattle.spec_interface.proofs.Compile.{wrote}
use Rattle.spec_promises.proofs.Demand3.{demand3}
use Rattle.spec_promises.proofs.Size.{valid_fits}

-- what a call on the record s leaves in the 49 numbers of s is seen as the call, and the record is whole again
record Carried (s : State) (r : Called) : Type 0 where
  seen : cycle_left (λ x. r) (c_of_state s) ≡ seen_in_c r
  whole : Whole r.state

module _ (image : List ℕ) (h : Bytes image) where
  -- a record at a wait is whole
  pub wait_whole : (t : Table) → open_of image ≡ opened t → (p : ℕ) → p < length t.lines → (m : Memory) → Whole (state_for p m)
  unfolding state_for
  wait_whole t o p i m =
      let g = ((opens_exactly image t h).0 o).1.few_lines in
      record { place = omega arith; outputs = pad_length 16 m.outputs; variables = pad_length 32 m.variables }

  row_carried : (t : Table) → open_of image ≡ opened t → (s : State) → Whole s → (c : Call) (r : Called) → Image.Outcome t s c.inputs c.outputs r
      → Carried s r
  row_carried t o s w c r (Image.row_refused k m) = record { seen = refl; whole = w }
  row_carried t o s w c r (Image.state_refused m b) = record { seen = refl; whole = w }
  row_carried t o s w c r (Image.operator_refused q x u m b l y) = record { seen = refl; whole = w }
  row_carried t o s w c r (Image.performs p τ m b q a y n l) =
      record { seen = refl; whole = wait_whole t o p a.inside τ.memory }

  carried : (s : State) → Whole s → (c : Call) (r : Called) → P.Runs image s c r → Carried s r
  carried s w c r (P.Runs.runs t o q u) = row_carried t o s w c r u
  carried s w c r (P.Runs.refuses q k a b z) = record { seen = refl; whole = w }

  -- on any image, from any whole record: the calls in C are the calls of the definition
  pub calls_carried : (s : State) → Whole s → (cs : List Call) → calls_in_c (cycle_in_c image) (c_of_state s) cs ≡ map seen_in_c (calls_of image s cs)
  unfolding calls_in_c calls_of
  calls_carried s w [] = refl
  calls_carried s w (c ∷ cs) =
      let r = cycle_of image s c.inputs c.outputs in
      let k = carried s w c r (demand1 [] [] image h s c).cycled in
      let e : cycle_in_c image (c_of_state s) c.inputs c.outputs ≡ seen_in_c r =
      ap (λ (x : State). cycle_left (λ y. cycle_of image x c.inputs c.outputs) (c_of_state s)) (back s w) ∙ k.seen in
      ap (λ (x : Left). x ∷ calls_in_c (cycle_in_c image) x.slots cs) e ∙ ap (λ (rest : List Left). seen_in_c r ∷ rest) (calls_carried r.state k.whole cs)

-- functions that agree call by call agree on every list of calls
calls_agree : (f g : List ℤ → List ℤ → List ℤ → Left) → ((l i o : List ℤ) → f l i o ≡ g l i o) → (l : List ℤ) (cs : List Call)
    → calls_in_c f l cs ≡ calls_in_c g l cs
unfolding calls_in_c
calls_agree f g h l [] = refl
calls_agree f g h l (c ∷ cs) = rw (h l c.inputs c.outputs) (ap (λ (rest : List Left). g l c.inputs c.outputs ∷ rest) (calls_agree f g h _ cs))

-- three numbers that tell n bytes are those of a compile that wrote n bytes
told_written : (text buffer : List ℕ) (n : ℕ) (r : Writing) → P.Compiles text buffer r → numbers_of r.answer ≡ done_numbers n → r.answer ≡ written n
told_written text buffer n r (P.Compiles.writes d v l) e = let z : length (encode d) ≡ n = cc in ap written z
told_written text buffer n r (P.Compiles.too_short d v l) e = absurd (let z : ◌≡◌ {A = ℕ} 10 0 = cc in omega arith)
told_written text buffer n r (P.Compiles.refuses q k a h) e = let b = of_text_above_0 a in absurd (let z : q ≡ 0 = cc in omega arith)

no_bytes : Bytes []
unfolding Bytes
no_bytes = tt

-- a fresh record is whole
laid_whole : (k : Kept) → k.place ≡ beginning → Whole (laid k)
unfolding state_for
laid_whole k e = record { place = rw e (omega arith); outputs = pad_length 16 k.memory.outputs; variables = pad_length 32 k.memory.variables }

pub wrote_in_c : (text buffer : List ℕ) (n : ℕ) → (compile_in_c text buffer).0 ≡ done_numbers n → (compile_of text buffer).answer ≡ written n
wrote_in_c text buffer n e =
    told_written text buffer n (compile_of text buffer) (demand1 text buffer [] no_bytes (state_of_c []) (record { inputs = []; outputs = [] })).compiled e

-- what rabtishu_compile wrote is a list of bytes
pub wrote_bytes : (text buffer : List ℕ) (n : ℕ) → (compile_of text buffer).answer ≡ written n → Bytes (take n (compile_of text buffer).buffer)
wrote_bytes text buffer n a =
    let w = wrote text buffer n a in
    let v = (accepts text w.process).0 w.verdict in
    subst Bytes (sym w.image) (encode_bytes w.process (valid_well_formed v) (valid_fits text w.process v))

-- DEMAND 3 AND THE DIRECT RUN IN C
pub calls_in_c_lem : (text buffer : List ℕ) (n : ℕ) → (compile_in_c text buffer).0 ≡ done_numbers n → CallsInC text buffer n
unfolding kept_at_first
calls_in_c_lem text buffer n e =
    let a = wrote_in_c text buffer n e in
    let d = demand3 text buffer n a in
    let p = d.process in
    let image = take n (compile_of text buffer).buffer in
    let h = wrote_bytes text buffer n a in
    let s : fresh_of image ≡ fresh (laid (kept_at_first p)) = d.direct_start ∙ (direct_run text p d.valid).starts in
    let t : fresh d.state ≡ fresh (laid (kept_at_first p)) = sym d.starts ∙ s in
    let u : laid (kept_at_first p) ≡ d.state = cc in
    let same : (cs : List Call) → calls_in_c (cycle_in_c image) (c_of_state (laid (kept_at_first p))) cs ≡ map seen_in_c (equation_calls p (kept_at_first p) cs) =
    λ cs. calls_carried image h (laid (kept_at_first p)) (laid_whole (kept_at_first p) refl) cs
    ∙ ap (map seen_in_c) (ap (λ (x : State). calls_of image x cs) u ∙ d.same cs) in
    record {
      process = p;
      valid = d.valid;
      starts = λ l. ap (λ (x : Started). start_left x l) s;
      same = same;
      direct_starts = λ l. ap (λ (x : Started). start_left x l) (sym d.direct_start ∙ s);
      direct = λ cs. sym (calls_agree (cycle_in_c image) (direct_in_c text)
          (λ l i o. ap (λ (r : Called). cycle_left (λ x. r) l) (d.direct (state_of_c l) (record { inputs = i; outputs = o }))) (c_of_state (laid (kept_at_first p))) cs)
          ∙ same cs;
    }
