-- Demand 3. Every call on the image is a call of the equations (`one_row`), and what the equations keep stays as `Invariant` says; so, by induction on
-- the list of calls, all calls are. Assumes nothing.
use mathlib.Core.Path.{◌≡◌, refl, sym, ◌∙◌, ap}
use mathlib.Core.List.{List, [], ◌∷◌}
use Prim.Native.Nat.{ℕ}
use Rattle.base_answers.specs.declared.State.{State}
use Rattle.spec_design.specs.Process.{Process, WellFormed}
use Rattle.spec_language.specs.Validity.{Valid}
use Rattle.spec_language.specs.Verdict.{Verdict}
use Rattle.spec_language.proofs.Judged.{accepts}
use Rattle.spec_language.proofs.WellFormed.{valid_well_formed}
use Rattle.spec_semantics.specs.Rows.{Kept, Outcome, row, kept_at_first}
use Rattle.spec_semantics.specs.Answer.{Invariant, Answers, by_14, by_operator, performs, fresh}
use Rattle.spec_semantics.proofs.Rows.{first_invariant, row_answers_lem, row_invariant}
use Rattle.spec_format.specs.Opening.{opened, open_of}
use Rattle.spec_format.specs.State.{fresh_from, fresh_of}
use Rattle.spec_semantics.specs.Records as S
use Rattle.spec_format.specs.Cycle.{cycle_of, calls_of}
use Rattle.spec_semantics.specs.Calls.{Called, Call}
use Rattle.spec_format.specs.Encode.{table_of, encode}
use Rattle.spec_interface.specs.Compile.{written, compile_of}
use Rattle.spec_interface.proofs.Compile.{wrote}
use Rattle.spec_semantics.specs.Comparison.{fed, laid, told, seen, equation_calls}
use Rattle.spec_semantics.specs.DirectRow.{direct_row}
use Rattle.spec_behaviour.specs.Direct.{unless_refused, direct_of, fresh_text, direct_fresh}
use Rattle.spec_promises.specs.Promises.{Short, AllShort, Demand3}
use Rattle.spec_simulation.proofs.Way.{cycle_bound}
use Rattle.spec_simulation.proofs.Processes.{encode_opens}
use Rattle.spec_promises.proofs.Size.{valid_fits}
use Rattle.spec_promises.proofs.OneRow.{fresh_laid, one_row}
use Rattle.spec_promises.proofs.Direct.{row_direct}

module _ (p : Process) (w : WellFormed p) (o : open_of (encode p) ≡ opened (table_of p)) where
  -- one call
  one_call : (k : Kept) → Invariant p k → (c : Call) → cycle_of (encode p) (laid k) c.inputs c.outputs ≡ seen (row p k (fed c)) c
  unfolding cycle_of
  one_call k v c = rw o (one_row p w k v c)

  -- one call from any state record
  any_call : (s : State) (c : Call) → cycle_of (encode p) s c.inputs c.outputs ≡ direct_row p s c
  unfolding cycle_of
  any_call s c = rw o (row_direct p w s c)

  -- all calls
  calls_same : (cs : List Call) (k : Kept) → Invariant p k → calls_of (encode p) (laid k) cs ≡ equation_calls p k cs
  unfolding calls_of equation_calls
  calls_same [] k v = refl
  calls_same (c ∷ cs) k v = rw (one_call k v c)
      (ap (λ (l : List Called). seen (row p k (fed c)) c ∷ l) (calls_same cs (row p k (fed c)).1 (row_invariant p w k (fed c) v)))

  -- ways
  way_short : (k : Kept) → Invariant p k → (c : Call) → Short p (laid k).place (told (row p k (fed c)).0)
  unfolding S.state_for
  way_short k v c = go (row p k (fed c)) (row_answers_lem p w k (fed c))
    where
      go : (r : Outcome × Kept) → Answers p k (fed c) r → Short p (laid k).place (told r.0)
      go r (by_14 x m) = tt
      go r (by_operator j n m q) = tt
      go r (performs x τ m e y) = (
        y.distinct,
        y.short,
        cycle_bound p.body w.class w.loops w.statements k.place v.place c.inputs
            (fresh k.memory) τ x refl e,
      )

  ways_short : (cs : List Call) (k : Kept) → Invariant p k → AllShort p (laid k) (equation_calls p k cs)
  unfolding equation_calls
  ways_short [] k v = tt
  ways_short (c ∷ cs) k v = (way_short k v c, ways_short cs (row p k (fed c)).1 (row_invariant p w k (fed c) v))

-- THE THEOREM
pub demand3 : (text buffer : List ℕ) (n : ℕ) → (compile_of text buffer).answer ≡ written n → Demand3 text buffer n
unfolding fresh_of direct_fresh direct_of
demand3 text buffer n e =
    let r = wrote text buffer n e in
    let p = r.process in
    let v : Valid text p = (accepts text p).0 r.verdict in
    let w : WellFormed p = valid_well_formed v in
    let o : open_of (encode p) ≡ opened (table_of p) = encode_opens p w (valid_fits text p v) in
    let i = first_invariant p w in
    let starts = ap (λ (b : List ℕ). fresh_from (open_of b)) r.image ∙ (ap fresh_from o ∙ ap S.fresh (fresh_laid p)) in
    record {
      process = p;
      valid = v;
      state = laid (kept_at_first p);
      starts = starts;
      same = λ cs. ap (λ (b : List ℕ). calls_of b (laid (kept_at_first p)) cs) r.image ∙ calls_same p w o cs (kept_at_first p) i;
      short = λ cs. ways_short p w o cs (kept_at_first p) i;
      direct = λ s c. ap (λ (b : List ℕ). cycle_of b s c.inputs c.outputs) r.image ∙ any_call p w o s c
          ∙ ap (λ (x : Verdict). unless_refused x s c) (sym r.verdict);
      direct_start = starts ∙ ap fresh_text (sym r.verdict);
    }
