-- What the front end's answer says of a direct call on the text. Assumes nothing.
use mathlib.Core.Path.{◌≡◌, refl}
use mathlib.Core.List.{List, []}
use Prim.Native.Nat.{ℕ}
use lib.IntN.{ℤ}
use Rattle.std.specs.Prelude.{Err, Ok}
use Rattle.base_answers.specs.declared.State.{State}
use Rattle.base_answers.specs.declared.Refusal.{Refusal}
use Rattle.spec_design.specs.Process.{Process}
use Rattle.spec_language.specs.Verdict.{accepted, refused, verdict}
use Rattle.spec_semantics.specs.Rows.{kept_at_first}
use Rattle.spec_semantics.specs.Records.{state_for}
use Rattle.spec_semantics.specs.Calls.{Call}
use Rattle.spec_semantics.specs.Comparison.{laid}
use Rattle.spec_semantics.specs.DirectRow.{direct_row}
use Rattle.spec_behaviour.specs.Direct.{direct_of, direct_fresh}
use Rattle.spec_semantics.specs.Advances.{Advances, start_of, cycle_answer, fresh_answer}
use Rattle.base_answers.specs.declared.Advanced.{Advanced}
use Rattle.base_answers.specs.Answers.{number_of, place_of, cycle_told, told}

-- THE CALL

module _ (text : List ℕ) (s : State) (c : Call) where
  pub run_accepted : (p : Process) → verdict text ≡ accepted p → (a : Advanced) (o : List ℤ) → Advances (direct_row p s c) a o
      → (cycle_told a.answer ≡ cycle_answer (direct_of text s c).answer) × (a.state ≡ (direct_of text s c).state) × (o ≡ (direct_of text s c).row)
  unfolding direct_of
  run_accepted p e a o h = rw e (h.answer, h.state, h.row)

  pub run_refused : (x : Refusal) → verdict text ≡ refused (number_of x) (place_of x)
      → (cycle_told (Err x) ≡ cycle_answer (direct_of text s c).answer) × (s ≡ (direct_of text s c).state) × (c.outputs ≡ (direct_of text s c).row)
  unfolding direct_of
  run_refused x e = rw e (refl, refl, refl)

-- THE FRESH STATE
module _ (text : List ℕ) where
  pub fresh_accepted : (p : Process) → verdict text ≡ accepted p → (r : State) → r ≡ laid (kept_at_first p)
      → (told (Ok tt) ≡ fresh_answer (direct_fresh text)) × (r ≡ start_of (direct_fresh text))
  unfolding direct_fresh
  fresh_accepted p e r h = rw e (refl, h)

  pub fresh_refused : (x : Refusal) → verdict text ≡ refused (number_of x) (place_of x) → (r : State) → r ≡ state_for 512 (record { outputs = []; variables = [] })
      → (told (Err x) ≡ fresh_answer (direct_fresh text)) × (r ≡ start_of (direct_fresh text))
  unfolding direct_fresh
  fresh_refused x e r h = rw e (refl, h)
