-- Every row on an image that opens is performed or refused by 14, 15, 16 or 18, and its state is accepted again: by cases in the order of the refusals,
-- over the walk of ranked lines. Assumes nothing.
use Prim.Native.Nat.{ℕ, suc, ◌<◌}
use mathlib.Core.Path.{◌≡◌, refl, sym, ap, ◌∙◌}
use mathlib.Core.Logic.{◌⊎◌, inl, inr}
use mathlib.Core.Bool.{Bool, true, false, cond}
use mathlib.Core.Option.{Option, none, some}
use mathlib.Core.List.{List, []}
use lib.ListN.{length}
use lib.IntN.{ℤ}
use Rattle.base_answers.specs.declared.State.{State}
use Rattle.spec_semantics.specs.Equations.{Result}
use Rattle.spec_semantics.specs.Values.{Values}
use Rattle.spec_semantics.proofs.Basic.{false_true}
use Rattle.spec_semantics.proofs.Values.{values_length}
use Rattle.spec_format.specs.Words.{Bytes}
use Rattle.spec_format.specs.Lines.{reach}
use Rattle.spec_format.specs.Walk.{from, table_cycle}
use Rattle.spec_format.specs.Signature.{types}
use Rattle.spec_format.specs.Image.{Table}
use Rattle.spec_format.specs.Good.{GoodTable}
use Rattle.spec_format.specs.Opening.{Opened, opened, not_opened, open_of}
use Rattle.spec_format.specs.State.{state_ok, memory_of}
use Rattle.spec_semantics.specs.Records.{state_for}
use Rattle.spec_format.specs.Cycle.{row_place, ended, table_row, row_of, unless_closed, cycle_of}
use Rattle.spec_semantics.specs.Calls.{Called, turned_back, unless14}
use Rattle.spec_format.proofs.Opens.{opens_exactly}
use Rattle.spec_simulation.specs.Walked.{WaitAt, Walked, waits_at, refuses_at}
use Rattle.spec_simulation.proofs.Walked.{from_inside, cycle_walked}
use Rattle.spec_simulation.specs.Outcome.{Typed, GoodState, Outcome, row_refused, state_refused, operator_refused, performs}
use Rattle.spec_simulation.proofs.InputRows.{row_exactly, row_right, row_none}
use Rattle.spec_simulation.proofs.Tables.{good_ranked, TypedResult, walk_typed}
use Rattle.spec_simulation.proofs.States.{types_length, state_exactly, memory_back}

module _ (t : Table) (g : GoodTable t) (s : State) (i o : List ℤ) where
  -- the cycle of the table from this state
  abbrev result : Result
  result = table_cycle t.lines t.reaches s.place i (record { way = []; memory = memory_of t.signature s })

  place_inside : (s.place ≡ 512) ⊎ WaitAt t.lines s.place → (s.place ≡ 512) ⊎ (s.place < length t.lines)
  place_inside (inl e) = inl e
  place_inside (inr w) = inr w.inside

  memory_typed : GoodState t s → Typed t.signature (memory_of t.signature s)
  memory_typed k = rw (ap (memory_of t.signature) k.slots ∙ memory_back t.signature g.signature s.place k.memory k.typed) k.typed

  result_typed : GoodState t s → Values t.signature.inputs i → TypedResult t.signature result
  unfolding table_cycle
  result_typed k v =
      walk_typed t g i v (suc (reach t.reaches (from t.lines s.place))) (from t.lines s.place) _
      (from_inside t.lines t.reaches (good_ranked t g) i g.some_line s.place (place_inside k.place)) (memory_typed k)

  ended_outcome : row_place t.signature i (length o) ≡ none → GoodState t s → (z : Result) → result ≡ z → TypedResult t.signature z
      → Walked t.lines t.reaches (from t.lines s.place) z → Outcome t s i o (ended z s o)
  unfolding state_for
  ended_outcome r k z e f (waits_at p τ before q w y) =
      performs p τ (row_none t.signature i (length o) r) k e w y (record { place = inr w; memory = τ.memory; typed = f; slots = refl })
      (values_length (types t.signature.outputs) τ.memory.outputs f.outputs ∙ types_length t.signature.outputs
      ∙ sym (row_right t.signature i (length o) r).1)
  ended_outcome r k z e f (refuses_at q x u b) = operator_refused q x u (row_none t.signature i (length o) r) k b e

  -- Every row on a good table.
  pub row_outcome : Outcome t s i o (row_of t s i o)
  unfolding row_of table_row
  row_outcome = judge (row_place t.signature i (length o)) refl
    where
      state : row_place t.signature i (length o) ≡ none → (b : Bool) → state_ok t s ≡ b → Outcome t s i o (cond b (ended result s o) (turned_back 15 0 s o))
      state r true q =
          let k = (state_exactly t g s).0 q in
          ended_outcome r k result refl (result_typed k (row_right t.signature i (length o) r).0)
          (cycle_walked t.lines t.reaches (good_ranked t g) i g.some_line s.place (place_inside k.place) _ refl)
      state r false q = state_refused (row_none t.signature i (length o) r) (λ k. false_true (sym q ∙ (state_exactly t g s).1 k))

      judge : (b : Option ℕ) → row_place t.signature i (length o) ≡ b
          → Outcome t s i o (unless14 b s o (cond (state_ok t s) (ended result s o) (turned_back 15 0 s o)))
      judge (some k) r = row_refused k ((row_exactly t.signature i (length o) k).0 r)
      judge none r = state r (state_ok t s) refl

-- Every row on an image that opens, compiled or not.
pub image_outcome : (b : List ℕ) (t : Table) → Bytes b → open_of b ≡ opened t → (s : State) (i o : List ℤ) → Outcome t s i o (cycle_of b s i o)
unfolding cycle_of
image_outcome b t h e s i o = rw (ap (λ z. unless_closed z s o (λ u. row_of u s i o)) e) (row_outcome t ((opens_exactly b t h).0 e).1 s i o)

-- The output row of every call is as long as it was lent, whatever the bytes are.
pub row_long : (b : List ℕ) → Bytes b → (s : State) (i o : List ℤ) → length (cycle_of b s i o).row ≡ length o
unfolding cycle_of
row_long b h s i o = on (open_of b) refl
  where
    of_outcome : (t : Table) (r : Called) → Outcome t s i o r → length r.row ≡ length o
    of_outcome t _ (row_refused k m) = refl
    of_outcome t _ (state_refused m g) = refl
    of_outcome t _ (operator_refused q x o m g l y) = refl
    of_outcome t _ (performs p τ m g q w y n l) = l

    on : (z : Opened) → open_of b ≡ z → length (unless_closed z s o (λ t. row_of t s i o)).row ≡ length o
    on (opened t) e = of_outcome t (row_of t s i o) (row_outcome t ((opens_exactly b t h).0 e).1 s i o)
    on (not_opened q k) e = refl
