-- The C interface: the three numbers are the definition's own, a refused call leaves what was lent, and the 49 numbers hold a state record. Assumes nothing.
use Prim.Native.Nat.{ℕ}
use native.Mathlib.Omega.{arith}
use mathlib.Core.Path.{◌≡◌, refl, ap, ◌∙◌}
use mathlib.Core.Bool.{Bool, true, false, cond}
use mathlib.Core.Option.{Option, none, some}
use mathlib.Core.List.{List, []}
use lib.ListN.{length, take, drop, length-append}
use lib.Seq.{take_all, take_at, drop_at}
use lib.IntN.{ℤ, pos}
use borrow.Author.Tests.{lt-ltb}
use Rattle.base_answers.specs.Answers.{Told}
use Rattle.base_answers.specs.Numbers.{numbers_of}
use Rattle.base_answers.specs.declared.State.{State}
use Rattle.spec_design.specs.Process.{Process}
use Rattle.spec_language.specs.Verdict.{Verdict, accepted, refused, verdict}
use Rattle.spec_semantics.specs.Equations.{cycle}
use Rattle.spec_semantics.specs.Rows.{Outcome, row_refused, operator_refused, row_refusal, concluded}
use Rattle.spec_semantics.specs.Rows as R
use Rattle.spec_semantics.specs.Records.{Started}
use Rattle.spec_semantics.specs.Calls.{performed, not_performed, turned_back, unless14, Called, Call}
use Rattle.spec_semantics.specs.Comparison.{fed, told, left}
use Rattle.spec_semantics.specs.DirectRow.{fits_text, kept_of, cycled, direct_row}
use Rattle.spec_format.specs.Cycle.{cycle_of}
use Rattle.spec_format.proofs.Calls.{refused_untouched}
use Rattle.spec_behaviour.specs.Direct.{unless_refused, direct_of}
use Rattle.spec_interface.specs.Compile.{compile_of}
use Rattle.spec_interface.specs.CInterface.{place_of_c, state_of_c, c_of_state, cycle_left, start_left, open_numbers}
use Rattle.spec_interface.specs.Told.{SlotsInC, ToldInC, refused_numbers, done_numbers}
use Rattle.spec_interface.specs.Laws.{ReadBack}
use Rattle.spec_interface.proofs.Compile.{buffer_kept}

-- ONE CALL

-- a direct run that is refused leaves the output row
left_kept : (r : Outcome) (o : List ℤ) (q k : ℕ) → told r ≡ not_performed q k → left r o ≡ o
left_kept (R.performed row way) o q k e = absurd (let z : ◌≡◌ {A = ℕ} 0 1 = cc in omega arith)
left_kept (row_refused place) o q k e = refl
left_kept (operator_refused n line) o q k e = refl

row_kept : (text : List ℕ) (s : State) (c : Call) (q k : ℕ) → (direct_of text s c).answer ≡ not_performed q k → (direct_of text s c).row ≡ c.outputs
unfolding direct_of direct_row
row_kept text s c q k = on (verdict text)
  where
    judged : (d : Process) (x : Option ℕ) (b : Bool)
        → (unless14 x s c.outputs (cond b (cycled d (kept_of d s) c) (turned_back 15 0 s c.outputs))).answer ≡ not_performed q k
        → (unless14 x s c.outputs (cond b (cycled d (kept_of d s) c) (turned_back 15 0 s c.outputs))).row ≡ c.outputs
    judged d (some y) b e = refl
    judged d none false e = refl
    judged d none true e =
        let x = kept_of d s in
        left_kept (concluded (cycle d.body x.place c.inputs (record { way = []; memory = x.memory })) x).0 c.outputs q k e

    on : (v : Verdict) → (unless_refused v s c).answer ≡ not_performed q k → (unless_refused v s c).row ≡ c.outputs
    on (accepted d) e = judged d (row_refusal d (fed c)) (fits_text d s) e
    on (refused n x) e = refl

-- a cycle that is refused
left_refused : (call : State → Called) (l o : List ℤ) (q k : ℕ) → (call (state_of_c l)).answer ≡ not_performed q k → (call (state_of_c l)).row ≡ o
    → cycle_left call l ≡ record { answer = refused_numbers q k; slots = l; row = o }
left_refused call l o q k e f = rw (e, f)

-- a cycle that is performed
left_performed : (call : State → Called) (l : List ℤ) (way : List ℕ) (s : State) (row : List ℤ)
    → call (state_of_c l) ≡ record { answer = performed way; state = s; row = row }
    → cycle_left call l ≡ record { answer = done_numbers (length way); slots = c_of_state s; row = row }
left_performed call l way s row e = rw e

pub told_in_c : (text buffer image : List ℕ) (l : List ℤ) (c : Call) → ToldInC text buffer image l c
told_in_c text buffer image l c =
    record {
      compiled = λ n e. ap (λ (a : Told ℕ). (numbers_of a, (compile_of text buffer).buffer)) e;
      compile_refused = λ q k e. ap (λ (a : Told ℕ). (numbers_of a, (compile_of text buffer).buffer)) e
          ∙ ap (λ (b : List ℕ). (refused_numbers q k, b)) (buffer_kept text buffer q k e);
      opened = λ t e. ap open_numbers e;
      open_refused = λ q k e. ap open_numbers e;
      started = λ s e. ap (λ (x : Started). start_left x l) e;
      start_refused = λ q k e. ap (λ (x : Started). start_left x l) e;
      cycled = λ way s row e. left_performed (λ x. cycle_of image x c.inputs c.outputs) l way s row e;
      cycle_refused = λ q k e. left_refused (λ x. cycle_of image x c.inputs c.outputs) l c.outputs q k e
          (refused_untouched (state_of_c l) c.outputs image c.inputs q k e).1;
      run = λ way s row e. left_performed (λ x. direct_of text x c) l way s row e;
      run_refused = λ q k e. left_refused (λ x. direct_of text x c) l c.outputs q k e (row_kept text (state_of_c l) c q k e);
      run_started = λ s e. ap (λ (x : Started). start_left x l) e;
      run_start_refused = λ q k e. ap (λ (x : Started). start_left x l) e;
    }

-- THE 49 NUMBERS
pub slots_in_c : (s : State) → length s.outputs ≡ 16 → length s.variables ≡ 32 → SlotsInC s
slots_in_c s h k =
    let e = length-append s.outputs s.variables in
    record { place = refl; outputs = take_at s.outputs s.variables 16 h; variables = drop_at s.outputs s.variables 16 h; count = omega arith }

pub back : (s : State) → ReadBack s
back s w =
    let l = slots_in_c s w.outputs w.variables in
    let place : place_of_c (pos s.place) ≡ s.place = rw (lt-ltb s.place 65536 w.place) in
    let variables : take 32 (drop 17 (c_of_state s)) ≡ s.variables = ap (take 32) l.variables
    ∙ take_all 32 s.variables (let e = w.variables in omega arith) in
    λ j. record { place = place j; outputs = l.outputs j; variables = variables j }
