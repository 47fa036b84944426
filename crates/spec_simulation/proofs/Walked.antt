-- A cycle over ranked lines ends at a wait or an operator is refused, with no line twice: along its way the reach falls. By induction on the count of
-- lines. Assumes nothing.
use Prim.Native.Nat.{ℕ, zero, suc, ◌+◌, ◌≤◌, ◌<◌}
use native.Mathlib.Omega.{arith}
use mathlib.Core.Path.{◌≡◌, refl, sym, ◌∙◌}
use mathlib.Core.Logic.{◌⊎◌, inl, inr, ⊎_elim}
use mathlib.Core.Bool.{Bool, true, false, cond}
use mathlib.Core.List.Memᴰ
use mathlib.Core.List.{List, [], ◌∷◌, ◌++◌, Memᴰ}
use lib.ListN.{length, length-append}
use lib.Dec.{eqb}
use lib.IntN.{ℤ}
use Rattle.spec_semantics.specs.Equations.{Run, passed, log}
use Rattle.spec_semantics.proofs.Basic.{false_true, eqb_same}
use Rattle.spec_semantics.proofs.Results.{reached_passed, refused_passed}
use Rattle.spec_format.specs.Lines.{Line, waits, acts, branches, line, next, reach}
use Rattle.spec_format.specs.Walk.{walk, from, table_cycle}
use Rattle.spec_semantics.specs.Way.{Distinct}
use Rattle.spec_simulation.specs.Ranked.{Followers, Ranked}
use Rattle.spec_simulation.specs.Walked.{WayFrom, Walked, waits_at, refuses_at}
use Rattle.spec_semantics.proofs.Distinct.{snoc_cases, distinct_snoc, distinct_length}
use Rattle.spec_simulation.proofs.Ranked.{ranked_equation}
use Rattle.spec_simulation.proofs.Steps.{next_falls, next_inside, step_holds}

-- the lines w were performed from the line x on, and now comes the line y, which reaches less far than all of them
record Before (t : List Line) (r : List ℕ) (x y : ℕ) (w : List ℕ) : Type 0 where
  here : y < length t
  inside : (z : ℕ) → Memᴰ z w → z < length t
  distinct : Distinct w
  farther : (z : ℕ) → Memᴰ z w → reach r y < reach r z
  short : length w + reach r y ≤ reach r x

before_first : (t : List Line) (r : List ℕ) (x : ℕ) → x < length t → Before t r x x []
before_first t r x h =
    record {
      here = h;
      inside = λ y q. absurd (Memᴰ.not-nil q);
      distinct = unfold Distinct in tt;
      farther = λ y q. absurd (Memᴰ.not-nil q);
      short = omega arith;
    }

way_after : (t : List Line) (r : List ℕ) (x y : ℕ) (w : List ℕ) → Before t r x y w → WayFrom t r x (w ++ (y ∷ []))
way_after t r x y w b =
    record {
      inside = inside;
      distinct = distinct;
      few = distinct_length (length t) (w ++ (y ∷ [])) distinct inside;
      short = rw length-append (omega (arith, b.short));
    }
  where
    inside : (z : ℕ) → Memᴰ z (w ++ (y ∷ [])) → z < length t
    inside z q = ⊎_elim (b.inside z) (λ e. rw e b.here) (snoc_cases z y w q)

    distinct : Distinct (w ++ (y ∷ []))
    distinct = distinct_snoc w y b.distinct (λ q. let z = b.farther y q in omega arith)

before_next : (t : List Line) (r : List ℕ) (x y z : ℕ) (w : List ℕ) → Before t r x y w → z < length t → reach r z < reach r y
    → Before t r x z (w ++ (y ∷ []))
before_next t r x y z w b h lt =
    let a = way_after t r x y w b in
    record {
      here = h;
      inside = a.inside;
      distinct = a.distinct;
      farther = λ u q. ⊎_elim (λ q'. let v = b.farther u q' in omega arith) (λ e. rw e lt) (snoc_cases u y w q);
      short = rw length-append (omega (arith, b.short));
    }

module _ (t : List Line) (r : List ℕ) (ranked : Ranked t r) (i : List ℤ) where
  -- Within a count of lines above the reach a walk is never passed, from any line and after any way.
  pub walk_ends : (k x : ℕ) (σ τ : Run) → reach r x < k → walk t i k x σ ≡ passed τ → ⊥
  unfolding walk log
  walk_ends zero x σ τ lt = absurd (omega arith)
  walk_ends (suc k) x σ τ lt =
      step_holds (λ z. z ≡ passed τ → ⊥) (line t x) x i σ _ (λ f e. reached_passed x _ τ) (λ q o. refused_passed q x τ)
      (λ z m n. let low = next_falls r x (line t x) (ranked_equation t r ranked x) i _ m z n in walk_ends k z _ τ (omega arith))

  walked_from : (x k y : ℕ) (σ : Run) → reach r y < k → Before t r x y σ.way → Walked t r x (walk t i k y σ)
  unfolding walk log
  walked_from x zero y σ lt b = absurd (omega arith)
  walked_from x (suc k) y σ lt b =
      step_holds (Walked t r x) (line t y) y i σ _
      (λ f e. waits_at y _ σ.way refl (record { inside = b.here; follower = f; waiting = e }) (way_after t r x y σ.way b))
      (λ q o. refuses_at q y o b.here)
      (λ z m n.
      let low = next_falls r y (line t y) (ranked.reaches y b.here) i _ m z n in
      walked_from x k z _ (omega arith)
      (before_next t r x y z σ.way b (next_inside (length t) (line t y) (ranked.followers y b.here) i _ m z n) low))

  -- A walk from the line x, for any count of lines above its reach.
  pub walk_walked : (k x : ℕ) (σ : Run) → reach r x < k → x < length t → σ.way ≡ [] → Walked t r x (walk t i k x σ)
  walk_walked k x σ lt h e = walked_from x k x σ lt (rw e (before_first t r x h))

  -- from the beginning, 512, and from every line a cycle begins at a line
  pub from_inside : 0 < length t → (p : ℕ) → (p ≡ 512) ⊎ (p < length t) → from t p < length t
  unfolding from
  from_inside some p h = go (eqb p 512) refl h
    where
      follows : (l : Line) → Followers (length t) l → next l < length t
      follows (waits f) c = c
      follows (acts a f) c = c
      follows (branches d f g) c = c.0

      go : (b : Bool) → eqb p 512 ≡ b → (p ≡ 512) ⊎ (p < length t) → cond b 0 (next (line t p)) < length t
      go true e h = some
      go false e (inl q) = false_true (sym e ∙ rw q (eqb_same 512))
      go false e (inr q) = follows (line t p) (ranked.followers p q)

  -- A cycle from the beginning or from a line, so from every place that a state can have.
  pub cycle_walked : 0 < length t → (p : ℕ) → (p ≡ 512) ⊎ (p < length t) → (σ : Run) → σ.way ≡ []
      → Walked t r (from t p) (table_cycle t r p i σ)
  unfolding table_cycle
  cycle_walked some p h σ e = walk_walked _ (from t p) σ (omega arith) (from_inside some p h) e
