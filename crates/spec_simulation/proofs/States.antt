-- 15 exactly when the State section is not met: a state record that is not refused is the layout of a place and of values of their types.
-- By induction on the slots. Assumes nothing.
use Prim.Native.Nat.{ℕ, ◌≤◌}
use native.Mathlib.Omega.{arith}
use mathlib.Core.Path.{◌≡◌, refl, sym, ap, ◌∙◌}
use mathlib.Core.Logic.{◌↔◌, ◌⊎◌, inl, inr}
use mathlib.Core.Bool.{true, ◌&&◌, ◌||◌}
use mathlib.Core.List.{List, [], ◌∷◌}
use lib.ListN.{length, take, length-map}
use lib.Dec.{ltb, eqb}
use borrow.Author.Tests.{ltb-true, lt-ltb, eq-eqb}
use Rattle.base_answers.specs.declared.State.{State}
use Rattle.spec_semantics.specs.Equations.{Memory}
use Rattle.spec_semantics.specs.Values.{Values}
use Rattle.spec_semantics.proofs.Basic.{false_true, eqb-true, and_left, and_right, or_left, or_right}
use Rattle.spec_semantics.proofs.Slots.{pad_length, slots_ok_lem, counted_slots, pad_take}
use Rattle.spec_semantics.proofs.Results.{or_case}
use Rattle.spec_format.specs.Lines.{Line, waits, acts, branches, line}
use Rattle.spec_format.specs.Signature.{Signature, Cell, types, initials, Initialised, GoodSignature}
use Rattle.spec_format.specs.Image.{Table}
use Rattle.spec_format.specs.Good.{GoodTable}
use Rattle.spec_format.specs.State.{is_wait, place_allowed, state_ok, memory_of, fresh_table}
use Rattle.spec_semantics.specs.Records.{slots_ok, pad, state_for}
use Rattle.spec_semantics.proofs.Basic.{and_both}
use Rattle.spec_simulation.specs.Walked.{WaitAt}
use Rattle.spec_simulation.specs.Outcome.{Typed, GoodState}

pub types_length : (l : List Cell) → length (types l) ≡ length l
types_length l = length-map l (λ c. c.type)

-- Places.

wait_line : (l : Line) → is_wait l ≡ true → (f : ℕ) × (l ≡ waits f)
wait_line (waits f) h = (f, refl)
wait_line (acts a f) h = false_true h
wait_line (branches e f g) h = false_true h

pub place_exactly : (t : List Line) (p : ℕ) → (place_allowed t p ≡ true) ↔ ((p ≡ 512) ⊎ WaitAt t p)
unfolding place_allowed
place_exactly t p = (to, back)
  where
    to : (eqb p 512 || (ltb p (length t) && is_wait (line t p))) ≡ true → (p ≡ 512) ⊎ WaitAt t p
    to h =
        or_case (eqb p 512) _ h (λ q. inl (eqb-true p 512 q)) (λ q.
        let w = wait_line (line t p) (and_right (ltb p (length t)) _ q) in
        inr (record { inside = ltb-true p (length t) (and_left (ltb p (length t)) _ q); follower = w.0; waiting = w.1 }))

    back : (p ≡ 512) ⊎ WaitAt t p → (eqb p 512 || (ltb p (length t) && is_wait (line t p))) ≡ true
    back (inl e) = or_left (eqb p 512) _ (eq-eqb p 512 e)
    back (inr w) = or_right (eqb p 512) _ (and_both (ltb p (length t)) (is_wait (line t p)) (lt-ltb p (length t) w.inside) (rw w.waiting))

-- State records.

module _ (σ : Signature) (g : GoodSignature σ) where
  outputs_few : length (types σ.outputs) ≤ 16
  outputs_few = omega (arith, types_length σ.outputs, g.outputs)

  variables_few : length (types σ.variables) ≤ 32
  variables_few = omega (arith, types_length σ.variables, g.variables)

  -- the outputs and variables of a state are read back from its layout
  pub memory_back : (p : ℕ) (m : Memory) → Typed σ m → memory_of σ (state_for p m) ≡ m
  unfolding memory_of state_for
  memory_back p m w =
      let a : take (length σ.outputs) (pad 16 m.outputs) ≡ m.outputs =
      ap (λ n. take n (pad 16 m.outputs)) (sym (types_length σ.outputs)) ∙ pad_take 16 (types σ.outputs) m.outputs w.outputs outputs_few in
      let b : take (length σ.variables) (pad 32 m.variables) ≡ m.variables =
      ap (λ n. take n (pad 32 m.variables)) (sym (types_length σ.variables))
      ∙ pad_take 32 (types σ.variables) m.variables w.variables variables_few in
      λ j. record { outputs = a j; variables = b j }

module _ (t : Table) (g : GoodTable t) where
  state_good : (s : State) → state_ok t s ≡ true → GoodState t s
  unfolding state_ok state_for
  state_good s h =
      let a = and_left (place_allowed t.lines s.place) _ h in
      let b = and_right (place_allowed t.lines s.place) _ h in
      let o = and_left (eqb (length s.outputs) 16 && slots_ok (types t.signature.outputs) s.outputs) _ b in
      let v = and_right (eqb (length s.outputs) 16 && slots_ok (types t.signature.outputs) s.outputs) _ b in
      let x = counted_slots 16 (types t.signature.outputs) s.outputs o in
      let y = counted_slots 32 (types t.signature.variables) s.variables v in
      record {
        place = (place_exactly t.lines s.place).0 a;
        memory = record {
          outputs = take (length (types t.signature.outputs)) s.outputs;
          variables = take (length (types t.signature.variables)) s.variables;
        };
        typed = record { outputs = x.0; variables = y.0 };
        slots = λ j. record { place = s.place; outputs = x.1 j; variables = y.1 j };
      }

  good_state : (s : State) → GoodState t s → state_ok t s ≡ true
  good_state s k = rw k.slots (laid s.place k.memory k.place k.typed)
    where
      laid : (p : ℕ) (m : Memory) → (p ≡ 512) ⊎ WaitAt t.lines p → Typed t.signature m → state_ok t (state_for p m) ≡ true
      laid p m q w = unfold state_ok state_for in
          rw (
            (place_exactly t.lines p).1 q,
            pad_length 16 m.outputs,
            pad_length 32 m.variables,
            slots_ok_lem 16 (types t.signature.outputs) m.outputs w.outputs (outputs_few t.signature g.signature),
            slots_ok_lem 32 (types t.signature.variables) m.variables w.variables (variables_few t.signature g.signature),
          )

  -- 15 exactly when the state is none that the State section describes.
  pub state_exactly : (s : State) → (state_ok t s ≡ true) ↔ GoodState t s
  state_exactly s = (state_good s, good_state s)

  initials_typed : (l : List Cell) → Initialised l → Values (types l) (initials l)
  unfolding Initialised Values
  initials_typed [] h = tt
  initials_typed (c ∷ l) h = (h.0, initials_typed l h.1)

  -- The fresh state is not refused by 15.
  pub fresh_good : GoodState t (fresh_table t)
  unfolding fresh_table state_for
  fresh_good =
      record {
        place = inl refl;
        memory = record { outputs = initials t.signature.outputs; variables = initials t.signature.variables };
        typed =
            record {
              outputs = initials_typed t.signature.outputs g.signature.initial_outputs;
              variables = initials_typed t.signature.variables g.signature.initial_variables;
            };
        slots = refl;
      }
