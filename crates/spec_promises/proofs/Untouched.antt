-- A direct run that is refused leaves state and output row as they came. Assumes nothing.
use Prim.Native.Nat.{ℕ}
use native.Mathlib.Omega.{arith}
use mathlib.Core.Path.{◌≡◌, refl, ◌∙◌}
use mathlib.Core.List.{List, []}
use Rattle.base_answers.specs.declared.State.{State}
use Rattle.spec_design.specs.Process.{Process}
use Rattle.spec_format.specs.Words.{Bytes}
use Rattle.spec_semantics.specs.Rows.{Kept, Outcome}
use Rattle.spec_semantics.specs.Answer.{Answers}
use Rattle.spec_semantics.specs.Answer as A
use Rattle.spec_semantics.specs.Calls.{not_performed, Called, Call}
use Rattle.spec_semantics.specs.Comparison.{fed, laid, told, left}
use Rattle.spec_behaviour.specs.Direct.{direct_of}
use Rattle.spec_promises.specs.Promises.{RunsText}
use Rattle.spec_promises.specs.Promises as P
use Rattle.spec_promises.proofs.Demand1.{demand1}

-- a row of the equations that is refused keeps what was kept
row_untouched : (d : Process) (k : Kept) (c : Call) (r : Outcome × Kept) (q x : ℕ) → Answers d k (fed c) r → told r.0 ≡ not_performed q x
    → (laid r.1 ≡ laid k) × (left r.0 c.outputs ≡ c.outputs)
row_untouched d k c r q x (A.by_14 y m) e = (refl, refl)
row_untouched d k c r q x (A.by_operator j n m o) e = (refl, refl)
row_untouched d k c r q x (A.performs y τ m h w) e = absurd (let z : ◌≡◌ {A = ℕ} 0 1 = cc in omega arith)

pub direct_untouched : (text : List ℕ) (s : State) (c : Call) (q k : ℕ) → (direct_of text s c).answer ≡ not_performed q k
    → ((direct_of text s c).state ≡ s) × ((direct_of text s c).row ≡ c.outputs)
unfolding Bytes
direct_untouched text s c q k = go (direct_of text s c) (demand1 text [] [] tt s c).run
  where
    go : (r : Called) → RunsText text s c r → r.answer ≡ not_performed q k → (r.state ≡ s) × (r.row ≡ c.outputs)
    go _ (P.RunsText.refuses x y h m) e = (refl, refl)
    go _ (P.RunsText.by_14 d v x m) e = (refl, refl)
    go _ (P.RunsText.by_15 d v m n) e = (refl, refl)
    go _ (P.RunsText.answers d v m g r a) e = let u = row_untouched d g.kept c r q k a e in (u.0 ∙ g.layout, u.1)
