-- What the code's steps come to is the format's call: the state is the layout of a memory, the lines followed from it are the table's cycle, and a row on a
-- good table is performed or refused by an operator's number where rows and state are right. Assumes nothing.
use Prim.Native.Nat.{ℕ, ◌≤◌, ◌<◌}
use native.Mathlib.Omega.{arith}
use mathlib.Core.Path.{◌≡◌, refl, sym, ap, subst, ◌∙◌}
use mathlib.Core.Bool.{true, false}
use mathlib.Core.Option.{Option, none, some}
use mathlib.Core.List.{List, [], append-nil}
use lib.ListN.{length, drop_of_length-le}
use lib.IntN.{ℤ}
use Rattle.std.specs.Prelude.{Result, Err, Ok}
use Rattle.base_codes.specs.declared.fault.Fault.{Fault}
use Rattle.base_codes.specs.Fault.{number_of}
use Rattle.base_answers.specs.declared.State.{State}
use Rattle.base_answers.specs.declared.Counts.{Counts}
use Rattle.base_answers.specs.declared.Refusal.{Refusal}
use Rattle.base_answers.specs.declared.Refusal.TheVariants.{BadRow, BadState}
use Rattle.spec_semantics.specs.Equations.{Memory}
use Rattle.spec_semantics.proofs.Basic.{none_some, and_left}
use Rattle.spec_format.specs.Walk.{table_cycle}
use Rattle.spec_format.specs.Image.{Table}
use Rattle.spec_format.specs.Good.{GoodTable}
use Rattle.spec_format.specs.State.{place_allowed, state_ok, memory_of}
use Rattle.spec_semantics.specs.Records.{state_for, pad}
use Rattle.spec_format.specs.Cycle.{row_place, row_of}
use Rattle.spec_semantics.specs.Calls.{Called}
use Rattle.spec_simulation.specs.Outcome.{GoodState, Outcome, row_refused, state_refused, operator_refused, performs}
use Rattle.spec_simulation.proofs.InputRows.{row_exactly, row_right}
use Rattle.spec_simulation.proofs.States.{state_exactly, memory_back}
use Rattle.spec_semantics.proofs.Slots.{pad_length, pad_first}
use Rattle.spec_simulation.proofs.Outcomes.{row_outcome}
use Rattle.image_walk.specs.declared.Followed.TheVariants.{Reached, Stopped, Spent}
use Rattle.image_walk.specs.Follow.{Went, at_wait, stopped, spent, went}
use Rattle.image_walk.proofs.Walks.{Shows}
use Rattle.image_checks.specs.Answers.{check_of}
use Rattle.base_answers.specs.declared.Advanced.{Advanced}
use Rattle.base_answers.specs.Answers.{done, refusal, refused_by, cycle_told, operator_refusal}
use Rattle.base_answers.proofs.Refusals.{operator_told}
use Rattle.image_cycle.specs.Ran.{Checked, ran_for}
use Rattle.image_cycle.specs.Moves.{row_after, Moves}
use Rattle.spec_semantics.specs.Advances.{Advances, cycle_answer}
use Rattle.image_cycle.proofs.Runs.{cycle_ran}

module _ (s l c : List ℕ) (t : Table) (h : Checked s l c t) (x : State) (i o : List ℤ)
    (right : row_place t.signature i (length o) ≡ none) (ok : state_ok t x ≡ true) where
  good : GoodState t x
  good = (state_exactly t h.held.good x).0 ok

  pub place_right : place_allowed t.lines x.place ≡ true
  unfolding state_ok
  place_right = and_left (place_allowed t.lines x.place) _ ok

  -- the lines followed from the state are the table's cycle
  state_shows : Shows (table_cycle t.lines t.reaches x.place i (record { way = []; memory = memory_of t.signature x }))
      (ran_for t l c x.place i x.outputs x.variables)
  unfolding state_for
  state_shows =
      let k = good in
      let m : memory_of t.signature x ≡ k.memory =
      ap (memory_of t.signature) k.slots ∙ memory_back t.signature h.held.good.signature x.place k.memory k.typed in
      moved m (ap (λ (y : State). y.outputs) k.slots) (ap (λ (y : State). y.variables) k.slots)
      (cycle_ran s l c t h x.place place_right i (row_right t.signature i (length o) right).0 k.memory k.typed)
    where
      moved : {m m' : Memory} {a a' b b' : List ℤ} → m ≡ m' → a ≡ a' → b ≡ b'
          → Shows (table_cycle t.lines t.reaches x.place i (record { way = []; memory = m' })) (ran_for t l c x.place i a' b')
          → Shows (table_cycle t.lines t.reaches x.place i (record { way = []; memory = m })) (ran_for t l c x.place i a b)
      moved e f g q = rw (e, f, g) q

  -- a wait was reached
  pub reached_moves : (p : ℕ) (n : Counts) (o' v' : List ℤ) → went (Reached p n.lines) o' v' ≡ ran_for t l c x.place i x.outputs x.variables
      → (p < 65536) × ((a : Advanced) → a ≡ record { state = record { place = p; outputs = o'; variables = v' }; answer = Ok n }
      → Moves (row_of t x i o) a)
  unfolding state_for
  reached_moves p n o' v' e = on (row_of t x i o) refl (row_outcome t h.held.good x i o)
    where
      on : (r : Called) → row_of t x i o ≡ r → Outcome t x i o r
          → (p < 65536) × ((a : Advanced) → a ≡ record { state = record { place = p; outputs = o'; variables = v' }; answer = Ok n }
          → Moves (row_of t x i o) a)
      on r q (row_refused k m) = none_some k (sym right ∙ (row_exactly t.signature i (length o) k).1 m)
      on r q (state_refused m g) = absurd (g good)
      on r q (operator_refused number y is m g b z) =
          let w : (ran_for t l c x.place i x.outputs x.variables).answer ≡ stopped number y = rw z at state_shows in
          let f : at_wait p n.lines ≡ stopped number y = ap (λ (u : Went). u.answer) e ∙ w in
          absurd (let d : ◌≡◌ {A = ℕ} 0 1 = cc in omega arith)
      on r q (performs p' τ m g z w y gs lo) =
          let u : ran_for t l c x.place i x.outputs
          x.variables ≡ record { answer = at_wait p' (length τ.way); outputs = pad 16 τ.memory.outputs; variables = pad 32 τ.memory.variables } =
          rw z at state_shows in
          let a : went (Reached p n.lines) o' v' ≡ record
          { answer = at_wait p' (length τ.way); outputs = pad 16 τ.memory.outputs; variables = pad 32 τ.memory.variables } = e ∙ u in
          let b : at_wait p n.lines ≡ at_wait p' (length τ.way) = ap (λ (k : Went). k.answer) a in
          let pe : p ≡ p' = cc in
          let ne : n.lines ≡ length τ.way = cc in
          let oe : o' ≡ pad 16 τ.memory.outputs = ap (λ (k : Went). k.outputs) a in
          let ve : v' ≡ pad 32 τ.memory.variables = ap (λ (k : Went). k.variables) a in
          let lt : p < 65536 = omega (arith, w.inside, h.held.good.few_lines) in (
            lt,
            λ A ea. subst (λ (k : Called). Moves k A) (sym q) (record {
              answer = ap (λ (k : Advanced). cycle_told k.answer) ea ∙ ap done ne;
              state = ap (λ (k : Advanced). k.state) ea ∙ (λ j. record { place = pe j; outputs = oe j; variables = ve j });
            }),
          )

  -- an operator was refused: by its number, at its line
  pub stopped_moves : (z : Fault) (y : ℕ) (d : Refusal) (o' v' : List ℤ) → went (Stopped z y) o' v' ≡ ran_for t l c x.place i x.outputs x.variables
      → d ≡ operator_refusal (number_of z) y → (a : Advanced) → a ≡ record { state = x; answer = Err d } → Moves (row_of t x i o) a
  stopped_moves z y d o' v' e ed a ea = on (row_of t x i o) refl (row_outcome t h.held.good x i o)
    where
      on : (r : Called) → row_of t x i o ≡ r → Outcome t x i o r → Moves (row_of t x i o) a
      on r q (row_refused k m) = none_some k (sym right ∙ (row_exactly t.signature i (length o) k).1 m)
      on r q (state_refused m g) = absurd (g good)
      on r q (operator_refused number y' is m g b u) =
          let w : (ran_for t l c x.place i x.outputs x.variables).answer ≡ stopped number y' = rw u at state_shows in
          let f : stopped (number_of z) y ≡ stopped number y' = ap (λ (k : Went). k.answer) e ∙ w in
          let ze : number_of z ≡ number = cc in
          let ye : y ≡ y' = cc in
          let de : d ≡ operator_refusal number y' = rw (← ze, ← ye) ed in
          subst (λ (k : Called). Moves k a) (sym q) (record {
            answer = ap (λ (k : Advanced). cycle_told k.answer) ea ∙ (ap (λ (k : Refusal). refused_by k) de ∙ operator_told number y' is);
            state = ap (λ (k : Advanced). k.state) ea;
          })
      on r q (performs p τ m g u w d gs lo) =
          let f = ap (λ (k : Went). k.answer) (e ∙ (rw u at state_shows)) in
          absurd (let d : ◌≡◌ {A = ℕ} 0 1 = cc in omega arith)

  -- the lines never run out
  pub spent_never : {A : Type 0} (o' v' : List ℤ) → went Spent o' v' ≡ ran_for t l c x.place i x.outputs x.variables → A
  spent_never o' v' e = on (row_of t x i o) (row_outcome t h.held.good x i o)
    where
      on : {A : Type 0} (r : Called) → Outcome t x i o r → A
      on r (row_refused k m) = none_some k (sym right ∙ (row_exactly t.signature i (length o) k).1 m)
      on r (state_refused m g) = absurd (g good)
      on r (operator_refused number y is m g b u) =
          let w : (ran_for t l c x.place i x.outputs x.variables).answer ≡ stopped number y = rw u at state_shows in
          let f : spent ≡ stopped number y = ap (λ (k : Went). k.answer) e ∙ w in
          absurd (let d : ◌≡◌ {A = ℕ} 0 1 = cc in omega arith)
      on r (performs p τ m g u w d gs lo) =
          let f = ap (λ (k : Went). k.answer) (e ∙ (rw u at state_shows)) in
          absurd (let d : ◌≡◌ {A = ℕ} 0 1 = cc in omega arith)

-- Rows and states that are refused.
module _ (t : Table) (x : State) (i o : List ℤ) where
  -- 14
  pub row_advances : (k : ℕ) (q : Result (Unit {0}) ℕ) → q ≡ check_of (row_place t.signature i (length o)) → q ≡ Err k
      → (a : Advanced) → a ≡ record { state = x; answer = Err (BadRow k) } → Advances (row_of t x i o) a o
  unfolding row_of
  row_advances k q e f a ea = on (row_place t.signature i (length o)) refl
    where
      on : (b : Option ℕ) → row_place t.signature i (length o) ≡ b → Advances (row_of t x i o) a o
      on none z =
          let g : Err k ≡ Ok tt = sym f ∙ e ∙ ap check_of z in
          cc
      on (some j) z =
          let g : ◌≡◌ {A = Result (Unit {0}) ℕ} (Err k) (Err j) = sym f ∙ e ∙ ap check_of z in
          let y : k ≡ j = cc in
          rw z (record { answer = ap (λ (u : Advanced). cycle_told u.answer) ea ∙ ap (refusal 14) y; state = ap (λ (u : Advanced). u.state) ea; row = refl })

  pub row_is_right : (q : Result (Unit {0}) ℕ) → q ≡ check_of (row_place t.signature i (length o)) → q ≡ Ok tt → row_place t.signature i (length o) ≡ none
  row_is_right q e f = on (row_place t.signature i (length o)) refl
    where
      on : (b : Option ℕ) → row_place t.signature i (length o) ≡ b → row_place t.signature i (length o) ≡ none
      on none z = z
      on (some j) z =
          let g : Ok tt ≡ Err j = sym f ∙ e ∙ ap check_of z in
          cc

  -- 15
  pub state_moves : row_place t.signature i (length o) ≡ none → state_ok t x ≡ false → (a : Advanced)
      → a ≡ record { state = x; answer = Err BadState }
      → Moves (row_of t x i o) a
  unfolding row_of
  state_moves z f a ea = rw (z, f) (record { answer = ap (λ (u : Advanced). cycle_told u.answer) ea; state = ap (λ (u : Advanced). u.state) ea })

  -- the row that is left with answer and state: by cases on what the row came to
  pub row_shown_lem : GoodTable t → row_place t.signature i (length o) ≡ none → (a r : Advanced) (u : List ℤ) → Moves (row_of t x i o) a → r ≡ a
      → u ≡ row_after (cycle_told a.answer) a.state.outputs o
      → (cycle_told r.answer ≡ cycle_answer (row_of t x i o).answer) × (r.state ≡ (row_of t x i o).state) × (u ≡ (row_of t x i o).row)
  unfolding state_for
  row_shown_lem g right a r u m e f = (
    ap (λ (k : Advanced). cycle_told k.answer) e ∙ m.answer,
    ap (λ (k : Advanced). k.state) e ∙ m.state,
    f
        ∙ rw (m.answer, m.state) (on (row_of t x i o) (row_outcome t g x i o)),
  )
    where
      on : (c : Called) → Outcome t x i o c → row_after (cycle_answer c.answer) c.state.outputs o ≡ c.row
      on c (row_refused k m) = refl
      on c (state_refused m w) = refl
      on c (operator_refused number y is m w b z) = refl
      on c (performs p τ m w z v y gs lo) =
          let few : length o ≤ 16 = omega (arith, (row_right t.signature i (length o) right).1, g.signature.outputs) in
          let n : length (pad 16 τ.memory.outputs) ≡ 16 = pad_length 16 τ.memory.outputs in
          rw (drop_of_length-le o {i = length (pad 16 τ.memory.outputs)} (omega arith), append-nil) (pad_first 16 (length o) τ.memory.outputs lo few)
