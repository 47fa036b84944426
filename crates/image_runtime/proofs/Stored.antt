-- A cycle that was not performed leaves the state as it came, so that storing it or not comes to the same. Assumes nothing.
use Prim.Native.Nat.{ℕ}
use mathlib.Core.Path.{◌≡◌, refl, sym, ap, ◌∙◌}
use mathlib.Core.Bool.{false}
use mathlib.Core.List.{List}
use lib.IntN.{ℤ}
use Rattle.std.specs.Prelude.{Result, is_ok}
use Rattle.base_answers.specs.declared.Refusal.{Refusal}
use Rattle.base_answers.specs.declared.Counts.{Counts}
use Rattle.base_answers.proofs.Told.{ok_performed}
use Rattle.spec_semantics.proofs.Basic.{false_true}
use Rattle.base_answers.specs.Answers.{cycle_told, is_done}
use Rattle.base_answers.specs.declared.State.{State}
use Rattle.spec_format.specs.Cycle.{cycle_of}
use Rattle.spec_semantics.specs.Calls.{Answer, performed, not_performed}
use Rattle.spec_format.proofs.Calls.{refused_untouched}
use Rattle.spec_semantics.specs.Advances.{cycle_answer}

-- a refused call leaves the state
pub refused_kept : (b : List ℕ) (s : State) (i o : List ℤ) (a : Result Counts Refusal) → cycle_told a ≡ cycle_answer (cycle_of b s i o).answer
    → is_ok a ≡ false → s ≡ (cycle_of b s i o).state
refused_kept b s i o a h e = on (cycle_of b s i o).answer refl
  where
    on : (w : Answer) → (cycle_of b s i o).answer ≡ w → s ≡ (cycle_of b s i o).state
    on (performed way) f = false_true (sym e ∙ ok_performed a ∙ ap is_done (h ∙ ap cycle_answer f))
    on (not_performed q k) f = sym (refused_untouched s o b i q k f).0
