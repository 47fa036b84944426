-- CLOSE_C as printed answers one call late: by cases on the control state, then induction on the calls. Assumes nothing.
use mathlib.Core.Path.{◌≡◌, refl, ap}
use mathlib.Core.Option.{Option, none, some}
use mathlib.Core.List.{List, [], ◌∷◌, ◌++◌}
use Rattle.spec_semantics.specs.Effects.{printed}
use Rattle.spec_semantics.specs.Published.{ι, ω, φ, PRIMREC_option, type_c_statement, CLOSE_C, CLOSE_C_printed}
use Rattle.spec_semantics.specs.Automaton.{automaton, states_over, assigned_rows, PROCESS_C}

module _ {γ : Type 0} (pf : type_c_statement printed γ) where
  -- the printed cycle answers the old output state and hands on the same new state
  close_printed : (si : ι) (so : ω) (sq : φ) (ss : Option γ)
      → CLOSE_C_printed printed pf si so sq ss ≡ (let r = CLOSE_C printed pf si so sq ss in (so, (r.0, r.1), r.2))
  unfolding CLOSE_C CLOSE_C_printed PRIMREC_option
  close_printed si so sq none = refl
  close_printed si so sq (some v) = go (pf.1 si so sq v)
    where
      answer : ω × φ × Option γ → ω × (ω × φ) × Option γ
      answer r = (so, (r.0, r.1), r.2)

      again : ω × φ × γ → ω × φ × Option γ
      again q = (q.0, q.1, some q.2)

      go : (p : ω × φ × Option γ) → PRIMREC_option p.2 (answer (again (pf.0 si p.0 p.1))) (λ u. answer (p.0, p.1, some u))
          ≡ answer (PRIMREC_option p.2 (again (pf.0 si p.0 p.1)) (λ u. (p.0, p.1, some u)))
      go (so', sq', none) = refl
      go (so', sq', some u) = refl

  -- The printed output row of each call but the first is the output row of the call before; the first is the initial outputs.
  pub printed_late : (so : ω) (sq : φ) (ss : Option γ) (l : List ι) (si : ι)
      → automaton (CLOSE_C_printed printed pf) so sq ss (l ++ (si ∷ [])) ≡ so ∷ assigned_rows (CLOSE_C printed pf) so sq ss l
  unfolding automaton states_over assigned_rows
  printed_late so sq ss [] si = rw (close_printed si so sq ss)
  printed_late so sq ss (sj ∷ l) si = rw (close_printed sj so sq ss) (ap (λ r. so ∷ r) (let r = CLOSE_C printed pf sj so sq ss in printed_late r.0 r.1 r.2 l si))

  -- so for a process as printed
  pub process_late : (so : ω) (sq : φ) (l : List ι) (si : ι) → PROCESS_C so sq pf (l ++ (si ∷ [])) ≡ so ∷ assigned_rows (CLOSE_C printed pf) so sq none l
  unfolding PROCESS_C
  process_late so sq l si = printed_late so sq none l si
