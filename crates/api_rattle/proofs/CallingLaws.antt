-- A refused call leaves the state as it came, so that storing it or not comes to the same. Assumes nothing.
use Prim.Native.Nat.{ℕ}
use mathlib.Core.Path.{◌≡◌, refl, sym, ap, ◌∙◌}
use mathlib.Core.Bool.{true, false}
use mathlib.Core.List.{List}
use lib.IntN.{ℤ}
use Rattle.std.specs.Prelude.{Result, is_ok}
use Rattle.base_answers.specs.declared.Counts.{Counts}
use Rattle.base_answers.specs.declared.Refusal.{Refusal}
use Rattle.base_answers.proofs.Told.{ok_done, ok_performed}
use Rattle.spec_semantics.proofs.Basic.{false_true}
use Rattle.base_answers.specs.declared.State.{State}
use Rattle.spec_semantics.specs.Records.{Started, fresh, not_started}
use Rattle.spec_semantics.specs.Calls.{Answer, performed, not_performed}
use Rattle.base_answers.specs.Answers.{cycle_told, told, is_done}
use Rattle.spec_behaviour.specs.Direct.{direct_of}
use Rattle.spec_promises.proofs.Untouched.{direct_untouched}
use Rattle.direct_cycle.specs.Calls.{call_of}
use Rattle.spec_semantics.specs.Advances.{start_of, cycle_answer, fresh_answer}
use Rattle.spec_interface.specs.Entry.{state_after}

-- a refused cycle leaves the state
pub direct_kept : (text : List ℕ) (s : State) (i o : List ℤ) (a : Result Counts Refusal) → cycle_told a ≡ cycle_answer (direct_of text s (call_of i o)).answer
    → is_ok a ≡ false → s ≡ (direct_of text s (call_of i o)).state
direct_kept text s i o a h e = on (direct_of text s (call_of i o)).answer refl
  where
    on : (w : Answer) → (direct_of text s (call_of i o)).answer ≡ w → s ≡ (direct_of text s (call_of i o)).state
    on (performed way) f = false_true (sym e ∙ ok_performed a ∙ ap is_done (h ∙ ap cycle_answer f))
    on (not_performed q k) f = sym (direct_untouched text s (call_of i o) q k f).0

-- a fresh state asked for: stored where it is there, ..
pub fresh_stored : (f : Started) (a : Result (Unit {0}) Refusal) (s t : State) → told a ≡ fresh_answer f → s ≡ start_of f → is_ok a ≡ true → s ≡ state_after f t
fresh_stored (fresh x) a s t h g e = g
fresh_stored (not_started q k) a s t h g e = false_true (sym (ok_done a ∙ ap is_done h) ∙ e)

-- .. and else the state is left
pub fresh_kept : (f : Started) (a : Result (Unit {0}) Refusal) (t : State) → told a ≡ fresh_answer f → is_ok a ≡ false → t ≡ state_after f t
fresh_kept (fresh x) a t h e = false_true (sym e ∙ ok_done a ∙ ap is_done h)
fresh_kept (not_started q k) a t h e = refl
