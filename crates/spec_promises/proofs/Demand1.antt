-- Demand 1: what each call comes to (Cases), and every refusal exactly when its clause says so: from the verdict, the opener's clauses, and the tests of
-- rows, states and operators. Assumes nothing.
use mathlib.Core.Path.{◌≡◌, refl, sym, ◌∙◌, ap, subst}
use mathlib.Core.Bool.{Bool, true, false}
use mathlib.Core.Logic.{◌↔◌}
use mathlib.Core.Option.{Option, none, some}
use mathlib.Core.List.{List, []}
use Prim.Native.Nat.{ℕ}
use native.Mathlib.Omega.{arith}
use lib.ListN.{length}
use Rattle.base_answers.proofs.Told.{done_refused}
use Rattle.base_answers.specs.declared.State.{State}
use Rattle.spec_design.specs.Process.{Process}
use Rattle.spec_language.specs.Validity.{Valid, Refuses}
use Rattle.spec_language.specs.Verdict.{Verdict, accepted, refused, verdict}
use Rattle.spec_language.proofs.Judged as J
use Rattle.spec_language.proofs.WellFormed.{valid_well_formed}
use Rattle.spec_semantics.specs.Equations as Equations
use Rattle.spec_semantics.specs.Rows.{Kept, Outcome, row_refusal, concluded, judged, row}
use Rattle.spec_semantics.specs.InputRow.{Meets14}
use Rattle.spec_semantics.specs.Refusal.{CycleFaults}
use Rattle.spec_semantics.specs.Answer.{Answers}
use Rattle.spec_semantics.specs.Answer as A
use Rattle.spec_semantics.specs.Records.{not_started}
use Rattle.spec_semantics.specs.Calls.{not_performed, Call, Called}
use Rattle.spec_semantics.specs.Comparison.{fed, told, seen}
use Rattle.spec_semantics.specs.DirectRow.{direct_row, Described}
use Rattle.spec_semantics.proofs.Rows.{meets_14_exactly}
use Rattle.spec_semantics.proofs.Refusal.{refusal_exactly}
use Rattle.spec_semantics.proofs.DirectRows.{direct_row_lem}
use Rattle.spec_semantics.proofs.Described.{direct_15}
use Rattle.spec_format.specs.Words.{Bytes}
use Rattle.spec_format.specs.Image.{Table}
use Rattle.spec_format.specs.Good.{GoodTable}
use Rattle.spec_format.specs.Opening.{Opened, opened, not_opened, open_of}
use Rattle.spec_format.specs.Refusals.{Refusal}
use Rattle.spec_format.specs.State.{state_ok, fresh_from, fresh_of}
use Rattle.spec_format.specs.Cycle.{row_place, table_row, row_of, unless_closed, cycle_of}
use Rattle.spec_format.specs.Encode.{encode}
use Rattle.spec_format.specs.Writing.{Writing, written_into}
use Rattle.spec_format.proofs.Writing.{written_cases}
use Rattle.spec_format.proofs.Opens.{opens_exactly}
use Rattle.spec_format.proofs.Refusals.{refused_exactly}
use Rattle.spec_simulation.specs.Outcome as O
use Rattle.spec_simulation.proofs.InputRows.{row_exactly}
use Rattle.spec_simulation.proofs.States.{state_exactly}
use Rattle.spec_behaviour.specs.Direct.{unless_refused, direct_of, fresh_text, direct_fresh}
use Rattle.spec_interface.specs.Compile.{not_compiled, on_verdict, compile_of}
use Rattle.spec_interface.proofs.Compile.{compile_writes}
use Rattle.spec_promises.specs.Promises as P
use Rattle.spec_promises.proofs.Cases.{compiles, image_opens, image_starts, image_runs, text_runs, text_starts}

-- COMPILE
module _ (text buffer : List ℕ) (q k : ℕ) where
  compile_back : P.CompileRefused text buffer q k → (compile_of text buffer).answer ≡ not_compiled q k
  compile_back (P.CompileRefused.by_text r) = ap (λ (w : Writing). w.answer) ((compile_writes text buffer).when_turned_back q k ((J.refuses text q k).1 r))
  compile_back (P.CompileRefused.by_buffer d v h e f) =
      ap (λ (w : Writing). w.answer) ((compile_writes text buffer).too_short d ((J.accepts text d).1 v) h)
      ∙ (ap (λ (n : ℕ). not_compiled n (length (encode d))) (sym e) ∙ ap (λ (n : ℕ). not_compiled q n) (sym f))

  on_encoded : (d : Process) → Valid text d → (written_into (encode d) buffer).answer ≡ not_compiled q k → P.CompileRefused text buffer q k
  on_encoded d v =
      written_cases (encode d) buffer (λ (w : Writing). w.answer ≡ not_compiled q k → P.CompileRefused text buffer q k) (λ h e. done_refused e)
      (λ h e. P.CompileRefused.by_buffer d v h (cc) (cc))

  compile_there : (compile_of text buffer).answer ≡ not_compiled q k → P.CompileRefused text buffer q k
  unfolding compile_of
  compile_there e = on (verdict text) refl
    where
      on : (v : Verdict) → verdict text ≡ v → P.CompileRefused text buffer q k
      on (accepted d) f = on_encoded d ((J.accepts text d).0 f) (sym (ap (λ (x : Verdict). (on_verdict x buffer).answer) f) ∙ e)
      on (refused n x) f =
          let z : not_compiled n x ≡ not_compiled q k = sym (ap (λ (y : Verdict). (on_verdict y buffer).answer) f) ∙ e in
          let a : n ≡ q = cc in
          let b : x ≡ k = cc in
          P.CompileRefused.by_text ((J.refuses text q k).0 (f ∙ (ap (λ (m : ℕ). refused m x) a ∙ ap (λ (m : ℕ). refused q m) b)))

  pub compile_refused : ((compile_of text buffer).answer ≡ not_compiled q k) ↔ P.CompileRefused text buffer q k
  compile_refused = (compile_there, compile_back)

-- IMAGES
module _ (image : List ℕ) (h : Bytes image) (q k : ℕ) where
  fresh_there : (o : Opened) → fresh_from o ≡ not_started q k → o ≡ not_opened q k
  fresh_there (opened t) e = absurd (let z : ◌≡◌ {A = ℕ} 0 1 = cc in omega arith)
  fresh_there (not_opened n x) e =
      let a : n ≡ q = cc in
      let b : x ≡ k = cc in
      ap (λ (m : ℕ). not_opened m x) a ∙ ap (λ (m : ℕ). not_opened q m) b

  pub fresh_refused : (fresh_of image ≡ not_started q k) ↔ Refusal image q k
  unfolding fresh_of
  fresh_refused =
      (λ e. (refused_exactly image h q k).0 (fresh_there (open_of image) e), λ r. ap fresh_from ((refused_exactly image h q k).1 r))

  module _ (s : State) (c : Call) where
    -- a table's row, where the image is opened
    opened_row : (t : Table) → open_of image ≡ opened t → cycle_of image s c.inputs c.outputs ≡ row_of t s c.inputs c.outputs
    unfolding cycle_of
    opened_row t e = ap (λ (o : Opened). unless_closed o s c.outputs (λ u. row_of u s c.inputs c.outputs)) e

    no_row : (t : Table) → ((x : ℕ) → O.Meets14 t.signature c.inputs (length c.outputs) x → ⊥)
        → row_place t.signature c.inputs (length c.outputs) ≡ none
    no_row t m = go (row_place t.signature c.inputs (length c.outputs)) refl
      where
        go : (o : Option ℕ) → row_place t.signature c.inputs (length c.outputs) ≡ o → o ≡ none
        go none e = refl
        go (some x) e = absurd (m x ((row_exactly t.signature c.inputs (length c.outputs) x).0 e))

    bad_state : (t : Table) → GoodTable t → (O.GoodState t s → ⊥) → state_ok t s ≡ false
    bad_state t g n = go (state_ok t s) refl
      where
        go : (b : Bool) → state_ok t s ≡ b → b ≡ false
        go true e = absurd (n ((state_exactly t g s).0 e))
        go false e = refl

    cycle_back : P.CycleRefused image s c q k → (cycle_of image s c.inputs c.outputs).answer ≡ not_performed q k
    unfolding cycle_of row_of table_row
    cycle_back (P.CycleRefused.by_image r) =
        ap (λ (o : Opened). (unless_closed o s c.outputs (λ u. row_of u s c.inputs c.outputs)).answer) ((refused_exactly image h q k).1 r)
    cycle_back (P.CycleRefused.by_row t e m f) =
        let z : (row_of t s c.inputs c.outputs).answer ≡ not_performed 14 k = rw ((row_exactly t.signature c.inputs (length c.outputs) k).1 m) in
        ap (λ (r : Called). r.answer) (opened_row t e) ∙ (z ∙ ap (λ (n : ℕ). not_performed n k) (sym f))
    cycle_back (P.CycleRefused.by_state t e m n f j) =
        let z : (row_of t s c.inputs c.outputs).answer ≡ not_performed 15 0 = rw (no_row t m, bad_state t ((opens_exactly image t h).0 e).1 n) in
        ap (λ (r : Called). r.answer) (opened_row t e) ∙ (z ∙ (ap (λ (x : ℕ). not_performed x 0) (sym f) ∙ ap (λ (x : ℕ). not_performed q x) (sym j)))
    cycle_back (P.CycleRefused.by_operator t e m g y) =
        let z : (row_of t s c.inputs c.outputs).answer ≡ not_performed q k = rw (no_row t m, (state_exactly t ((opens_exactly image t h).0 e).1 s).1 g, y) in
        ap (λ (r : Called). r.answer) (opened_row t e) ∙ z

    on_outcome : (t : Table) → open_of image ≡ opened t → (r : Called) → O.Outcome t s c.inputs c.outputs r → r.answer ≡ not_performed q k
        → P.CycleRefused image s c q k
    on_outcome t o _ (O.row_refused x m) e =
        let a : q ≡ 14 = cc in
        let b : x ≡ k = cc in
        P.CycleRefused.by_row t o (subst (O.Meets14 t.signature c.inputs (length c.outputs)) b m) a
    on_outcome t o _ (O.state_refused m g) e =
        let a : q ≡ 15 = cc in
        let b : k ≡ 0 = cc in
        P.CycleRefused.by_state t o m g a b
    on_outcome t o _ (O.operator_refused n x u m g l y) e =
        let a : n ≡ q = cc in
        let b : x ≡ k = cc in
        P.CycleRefused.by_operator t o m g (y ∙ (ap (λ (w : ℕ). Equations.refused w x) a ∙ ap (λ (w : ℕ). Equations.refused q w) b))
    on_outcome t o _ (O.performs p τ m g y w z n l) e = absurd (let x : ◌≡◌ {A = ℕ} 0 1 = cc in omega arith)

    on_runs : (r : Called) → P.Runs image s c r → r.answer ≡ not_performed q k → P.CycleRefused image s c q k
    on_runs r (P.Runs.runs t o _ y) e = on_outcome t o r y e
    on_runs _ (P.Runs.refuses n x l m y) e =
        let a : n ≡ q = cc in
        let b : x ≡ k = cc in
        P.CycleRefused.by_image (subst (λ (z : ℕ). Refusal image q z) b (subst (λ (z : ℕ). Refusal image z x) a y))

    cycle_refused : ((cycle_of image s c.inputs c.outputs).answer ≡ not_performed q k) ↔ P.CycleRefused image s c q k
    cycle_refused = (on_runs (cycle_of image s c.inputs c.outputs) (image_runs image h s c), cycle_back)

-- TEXTS
module _ (text : List ℕ) (q k : ℕ) where
  start_there : (v : Verdict) → fresh_text v ≡ not_started q k → v ≡ refused q k
  start_there (accepted d) e = absurd (let z : ◌≡◌ {A = ℕ} 0 1 = cc in omega arith)
  start_there (refused n x) e =
      let a : n ≡ q = cc in
      let b : x ≡ k = cc in
      ap (λ (m : ℕ). refused m x) a ∙ ap (λ (m : ℕ). refused q m) b

  pub direct_fresh_refused : (direct_fresh text ≡ not_started q k) ↔ Refuses text q k
  unfolding direct_fresh
  direct_fresh_refused = (λ e. (J.refuses text q k).0 (start_there (verdict text) e), λ r. ap fresh_text ((J.refuses text q k).1 r))

  module _ (s : State) (c : Call) where
    -- the row on the process, where the text is accepted
    accepted_row : (d : Process) → Valid text d → direct_of text s c ≡ direct_row d s c
    unfolding direct_of
    accepted_row d v = ap (λ (x : Verdict). unless_refused x s c) ((J.accepts text d).1 v)

    no_14 : (d : Process) → ((x : ℕ) → Meets14 d (fed c) x → ⊥) → row_refusal d (fed c) ≡ none
    no_14 d m = go (row_refusal d (fed c)) refl
      where
        go : (o : Option ℕ) → row_refusal d (fed c) ≡ o → o ≡ none
        go none e = refl
        go (some x) e = absurd (m x ((meets_14_exactly d (fed c) x).0 e))

    faults_row : (d : Process) (g : Kept) → row_refusal d (fed c) ≡ none
        → Equations.cycle d.body g.place c.inputs (record { way = []; memory = g.memory }) ≡ Equations.refused q k
        → told (row d g (fed c)).0 ≡ not_performed q k
    unfolding row judged concluded
    faults_row d g n e = rw (n, e)

    direct_back : P.DirectRefused text s c q k → (direct_of text s c).answer ≡ not_performed q k
    unfolding direct_of direct_row
    direct_back (P.DirectRefused.by_text r) = ap (λ (x : Verdict). (unless_refused x s c).answer) ((J.refuses text q k).1 r)
    direct_back (P.DirectRefused.by_row d v m e) =
        let z : (direct_row d s c).answer ≡ not_performed 14 k = rw ((meets_14_exactly d (fed c) k).1 m) in
        ap (λ (r : Called). r.answer) (accepted_row d v) ∙ (z ∙ ap (λ (n : ℕ). not_performed n k) (sym e))
    direct_back (P.DirectRefused.by_state d v m n e f) =
        ap (λ (r : Called). r.answer) (accepted_row d v ∙ direct_15 d (valid_well_formed v) s c (no_14 d m) n)
        ∙ (ap (λ (x : ℕ). not_performed x 0) (sym e) ∙ ap (λ (x : ℕ). not_performed q x) (sym f))
    direct_back (P.DirectRefused.by_operator d v m g o) =
        let w = valid_well_formed v in
        let y : direct_row d s c ≡ seen (row d g.kept (fed c)) c =
        subst (λ (z : State). direct_row d z c ≡ seen (row d g.kept (fed c)) c) g.layout (direct_row_lem d w g.kept g.invariant c) in
        let x = (refusal_exactly c.inputs q d.body g.kept.place (record { way = []; memory = g.kept.memory }) k).1 o in
        ap (λ (r : Called). r.answer) (accepted_row d v ∙ y) ∙ faults_row d g.kept (no_14 d m) x

    on_answers : (d : Process) → Valid text d → ((x : ℕ) → Meets14 d (fed c) x → ⊥) → (g : Described d s) (r : Outcome × Kept) → Answers d g.kept (fed c) r
        → told r.0 ≡ not_performed q k → P.DirectRefused text s c q k
    on_answers d v m g r (A.by_14 x y) e = absurd (m x y)
    on_answers d v m g r (A.by_operator j n y o) e =
        let a : j ≡ q = cc in
        let b : n ≡ k = cc in
        P.DirectRefused.by_operator d v m g
        (subst (CycleFaults c.inputs d.body g.kept.place (record { way = []; memory = g.kept.memory }) q) b
        (subst (λ (w : ℕ). CycleFaults c.inputs d.body g.kept.place (record { way = []; memory = g.kept.memory }) w n) a o))
    on_answers d v m g r (A.performs x τ y z w) e = absurd (let u : ◌≡◌ {A = ℕ} 0 1 = cc in omega arith)

    on_text_lem : (r : Called) → P.RunsText text s c r → r.answer ≡ not_performed q k → P.DirectRefused text s c q k
    on_text_lem _ (P.RunsText.refuses n x l y) e =
        let a : n ≡ q = cc in
        let b : x ≡ k = cc in
        P.DirectRefused.by_text (subst (λ (z : ℕ). Refuses text q z) b (subst (λ (z : ℕ). Refuses text z x) a y))
    on_text_lem _ (P.RunsText.by_14 d v x m) e =
        let a : q ≡ 14 = cc in
        let b : x ≡ k = cc in
        P.DirectRefused.by_row d v (subst (Meets14 d (fed c)) b m) a
    on_text_lem _ (P.RunsText.by_15 d v m n) e =
        let a : q ≡ 15 = cc in
        let b : k ≡ 0 = cc in
        P.DirectRefused.by_state d v m n a b
    on_text_lem _ (P.RunsText.answers d v m g r a) e = on_answers d v m g r a e

    direct_refused : ((direct_of text s c).answer ≡ not_performed q k) ↔ P.DirectRefused text s c q k
    direct_refused = (on_text_lem (direct_of text s c) (text_runs text s c), direct_back)

-- THE THEOREM
pub demand1 : (text buffer image : List ℕ) → Bytes image → (s : State) (c : Call) → P.Demand1 text buffer image s c
demand1 text buffer image h s c =
    record {
      compiled = compiles text buffer;
      opened = image_opens image h;
      started = image_starts image h;
      cycled = image_runs image h s c;
      run = text_runs text s c;
      run_started = text_starts text;
      exactly = λ q k.
          record {
            compile_refused = compile_refused text buffer q k;
            image_refused = refused_exactly image h q k;
            fresh_refused = fresh_refused image h q k;
            cycle_refused = cycle_refused image h q k s c;
            direct_refused = direct_refused text q k s c;
            direct_fresh_refused = direct_fresh_refused text q k;
          };
    }
