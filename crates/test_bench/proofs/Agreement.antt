-- Over many rows table and direct run come to the same, for what compile wrote: they agree call by call. Assumes nothing.
use mathlib.Core.Path.{◌≡◌, refl, ap, ◌∙◌}
use mathlib.Core.List.{List, [], ◌∷◌}
use Prim.Native.Nat.{ℕ}
use lib.ListN.{take}
use lib.IntN.{ℤ}
use Rattle.base_answers.specs.declared.State.{State}
use Rattle.spec_semantics.specs.Calls.{Called}
use Rattle.spec_semantics.specs.Advances.{start_of}
use Rattle.spec_format.specs.State.{fresh_of}
use Rattle.spec_format.specs.Cycle.{cycle_of, calls_of}
use Rattle.spec_behaviour.specs.Direct.{direct_fresh, direct_calls}
use Rattle.direct_cycle.specs.Calls.{call_of}
use Rattle.spec_interface.specs.Compile.{written, compile_of}
use Rattle.spec_promises.proofs.Main.{demand3}
use Rattle.test_bench.specs.Rows.{Cycle, direct_cycle, called_on, made_on}

-- two calls that agree one by one agree over all rows
calls_agree : (f g : Cycle) → ((s : State) (i o : List ℤ) → f s i o ≡ g s i o) → (s : State) (o : List ℤ) (is : List (List ℤ))
    → called_on f s o is ≡ called_on g s o is
unfolding called_on
calls_agree f g h s o [] = refl
calls_agree f g h s o (i ∷ is) = rw (h s i o) (ap (λ (r : List Called). g s i o ∷ r) (calls_agree f g h (g s i o).state (g s i o).row is))

-- The rows on the image that a compile wrote, and the rows from the text.
pub rows_agree : (text buffer : List ℕ) (n : ℕ) → (compile_of text buffer).answer ≡ written n → (o : List ℤ) (is : List (List ℤ))
    → called_on (cycle_of (take n (compile_of text buffer).buffer)) (start_of (fresh_of (take n (compile_of text buffer).buffer))) o is
    ≡ called_on (direct_cycle text) (start_of (direct_fresh text)) o is
rows_agree text buffer n e o is =
    let d = demand3 text buffer n e in
    ap (λ (s : State). called_on (cycle_of (take n (compile_of text buffer).buffer)) s o is) (ap start_of d.direct_start)
    ∙ calls_agree (cycle_of (take n (compile_of text buffer).buffer)) (direct_cycle text) (λ s i o. d.direct s (call_of i o)) (start_of (direct_fresh text)) o is

-- The rows are the calls of format's and behaviour's lists: each with the output row that the one before it left.
pub rows_are_calls : (image : List ℕ) (s : State) (o : List ℤ) (is : List (List ℤ))
    → called_on (cycle_of image) s o is ≡ calls_of image s (made_on (cycle_of image) s o is)
unfolding called_on calls_of made_on
rows_are_calls image s o [] = refl
rows_are_calls image s o (i ∷ is) =
    let r = cycle_of image s i o in ap (λ (rs : List Called). r ∷ rs) (rows_are_calls image r.state r.row is)

pub rows_are_direct_calls : (text : List ℕ) (s : State) (o : List ℤ) (is : List (List ℤ))
    → called_on (direct_cycle text) s o is ≡ direct_calls text s (made_on (direct_cycle text) s o is)
unfolding called_on direct_calls made_on
rows_are_direct_calls text s o [] = refl
rows_are_direct_calls text s o (i ∷ is) =
    let r = direct_cycle text s i o in ap (λ (rs : List Called). r ∷ rs) (rows_are_direct_calls text r.state r.row is)
