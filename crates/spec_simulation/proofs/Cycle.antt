-- One cycle of a body's lines is one cycle of the equations: by induction on the statement, for any continuation and any count of lines above
-- the reach. What follows a statement is asked for only where the statement is passed, so that a body of class C asks for nothing. Assumes nothing.
use Prim.Native.Nat.{ℕ, zero, suc, ◌+◌, ◌≤◌, ◌<◌}
use native.Mathlib.Omega.{arith}
use mathlib.Core.Path.{◌≡◌, refl, sym, ◌∙◌}
use mathlib.Core.Bool.{Bool, true, false}
use mathlib.Core.List.{List}
use lib.Dec.{eqb}
use lib.IntN.{ℤ}
use Rattle.spec_design.specs.Expression.{Out, fine, fault}
use Rattle.spec_design.specs.Statement.{Stmt, act, wait, if_then, if_else, while, seq, size, has, C, class_of, LoopsC}
use Rattle.spec_semantics.specs.Equations.{Run, Result, passed, reached, refused, log, then, tested, pick, start, resume, Place, beginning, at, enter, cycle}
use Rattle.spec_semantics.specs.Answer.{Placed}
use Rattle.spec_semantics.proofs.Basic.{false_true, eqb-true, or_other}
use Rattle.spec_semantics.proofs.Results.{then_assoc, then_stays, C_stops, has_below}
use Rattle.spec_format.specs.Lines.{Line, lines_of, line, next, reach, reaches_of}
use Rattle.spec_format.specs.Walk.{step, walk, from, table_cycle}
use Rattle.spec_semantics.specs.Records.{number}
use Rattle.spec_simulation.proofs.Lines.{Each, each_both, lines_of_each}
use Rattle.spec_simulation.proofs.Ranked.{Falls, falls}
use Rattle.spec_simulation.proofs.Reaches.{reaches_of_each}

-- what follows a result matters only where it is passed
pub then_when : (r : Result) (f g : Run → Result) → ((σ : Run) → r ≡ passed σ → f σ ≡ g σ) → then r f ≡ then r g
unfolding then
then_when (passed σ) f g h = h σ refl
then_when (reached p σ) f g h = refl
then_when (refused q n) f g h = refl

-- a test goes on as its two branches do
tested_then : (v : Out Bool) (n : ℕ) (σ : Run) (f g f' g' k : Run → Result)
    → (((τ : Run) → f (log n σ) ≡ passed τ → tested v n σ f g ≡ passed τ) → f' (log n σ) ≡ then (f (log n σ)) k)
    → (((τ : Run) → g (log n σ) ≡ passed τ → tested v n σ f g ≡ passed τ) → g' (log n σ) ≡ then (g (log n σ)) k)
    → tested v n σ f' g' ≡ then (tested v n σ f g) k
unfolding tested then
tested_then (fine true) n σ f g f' g' k hf hg = hf (λ τ e. e)
tested_then (fine false) n σ f g f' g' k hf hg = hg (λ τ e. e)
tested_then (fault q) n σ f g f' g' k hf hg = refl

-- the table has the line l at x, and the followers of l reach less far than x
unfoldable pub Fit : List Line → List ℕ → ℕ → Line → Type 0
Fit t r x l = (line t x ≡ l) × Falls r x l

module _ (t : List Line) (r : List ℕ) (i : List ℤ) where
  -- from the line x the lines come to z, for any count of lines that is above the reach of x
  abbrev pub Goes : ℕ → Run → Result → Type 0
  Goes x σ z = (k : ℕ) → reach r x < k → walk t i k x σ ≡ z

  goes_step : (x : ℕ) (σ : Run) (z : Result) (l : Line) → line t x ≡ l
      → ((k : ℕ) → reach r x ≤ k → step l x i σ (λ y τ. walk t i k y τ) ≡ z) → Goes x σ z
  unfolding walk
  goes_step x σ z l e h zero lt = absurd (omega arith)
  goes_step x σ z l e h (suc k) lt = rw e (h k (omega arith))

  -- A statement started: its lines from the first on, and then what follows it.
  pub start_goes : (s : Stmt) (n f : ℕ) → Each (Fit t r) s n f → LoopsC s → (σ : Run) (k : Run → Result)
      → ((τ : Run) → start s n i σ ≡ passed τ → Goes f τ (k τ)) → Goes n σ (then (start s n i σ) k)
  unfolding Each Fit LoopsC start step then
  start_goes (act a) n f h g σ k c =
      goes_step n σ _ _ h.0 (λ m le. then_when _ _ _ (λ τ e. c τ e m (omega (arith, h.1))))
  start_goes wait n f h g σ k c = goes_step n σ _ _ h.0 (λ m le. refl)
  start_goes (if_then e a) n f h g σ k c =
      goes_step n σ _ _ h.0.0 (λ m le. tested_then _ n σ _ _ _ _ k
      (λ w. start_goes a (suc n) f h.1 g (log n σ) k (λ τ p. c τ (w τ p)) m (omega (arith, h.0.1.0)))
      (λ w. c (log n σ) (w _ refl) m (omega (arith, h.0.1.1))))
  start_goes (if_else e a b) n f h g σ k c =
      goes_step n σ _ _ h.0.0 (λ m le. tested_then _ n σ _ _ _ _ k
      (λ w. start_goes a (suc n) f h.1 g.0 (log n σ) k (λ τ p. c τ (w τ p)) m (omega (arith, h.0.1.0)))
      (λ w. start_goes b (suc n + size a) f h.2 g.1 (log n σ) k (λ τ p. c τ (w τ p)) m (omega (arith, h.0.1.1))))
  start_goes (while e b) n f h g σ k c =
      goes_step n σ _ _ h.0.0 (λ m le. tested_then _ n σ _ _ _ _ k
      (λ w. start_goes b (suc n) n h.1 g.1 (log n σ) k (λ τ p. absurd (C_stops b g.0 (suc n) i _ τ p)) m (omega (arith, h.0.1.0)))
      (λ w. c (log n σ) (w _ refl) m (omega (arith, h.0.1.1))))
  start_goes (seq a b) n f h g σ k c =
      rw then_assoc
      (start_goes a n (n + size a) h.0 g.0 σ (λ τ. then (start b (n + size a) i τ) k)
      (λ τ p. start_goes b (n + size a) f h.1 g.1 τ k (λ ρ q. c ρ (rw p q))))

  -- of two parts the one with the wait goes on
  pick_goes : (b : Bool) (x y : Result) (f z : ℕ) (σ : Run) (k : Run → Result)
      → (b ≡ true → ((τ : Run) → x ≡ passed τ → Goes f τ (k τ)) → Goes z σ (then x k))
      → (b ≡ false → ((τ : Run) → y ≡ passed τ → Goes f τ (k τ)) → Goes z σ (then y k))
      → ((τ : Run) → pick b x y ≡ passed τ → Goes f τ (k τ)) → Goes z σ (then (pick b x y) k)
  unfolding pick
  pick_goes true x y f z σ k hx hy c = hx refl c
  pick_goes false x y f z σ k hx hy c = hy refl c

  -- A statement resumed at its wait p: the lines from the one that follows p on, and then what follows the statement.
  pub resume_goes : (s : Stmt) (n f : ℕ) → Each (Fit t r) s n f → LoopsC s → (p : ℕ) → has s n p ≡ true → (σ : Run) (k : Run → Result)
      → ((τ : Run) → resume s n p i σ ≡ passed τ → Goes f τ (k τ)) → Goes (next (line t p)) σ (then (resume s n p i σ) k)
  unfolding Each Fit LoopsC resume has then
  resume_goes (act a) n f h g p w σ k c = false_true w
  resume_goes wait n f h g p w σ k c = rw (eqb-true p n w, h.0) (c σ refl)
  resume_goes (if_then e a) n f h g p w σ k c = resume_goes a (suc n) f h.1 g p w σ k c
  resume_goes (if_else e a b) n f h g p w σ k c =
      pick_goes (has a (suc n) p) _ _ f (next (line t p)) σ k
      (λ o. resume_goes a (suc n) f h.1 g.0 p o σ k)
      (λ o. resume_goes b (suc n + size a) f h.2 g.1 p (or_other _ _ o w) σ k) c
  resume_goes (while e b) n f h g p w σ k c =
      rw then_assoc
      (resume_goes b (suc n) n h.1 g.1 p w σ (λ τ. then (start (while e b) n i τ) k)
      (λ τ q. start_goes (while e b) n f h g τ k (λ ρ q'. c ρ (rw q q'))))
  resume_goes (seq a b) n f h g p w σ k c =
      pick_goes (has a n p) _ _ f (next (line t p)) σ k
      (λ o c'. rw then_assoc
      (resume_goes a n (n + size a) h.0 g.0 p o σ (λ τ. then (start b (n + size a) i τ) k)
      (λ τ q. start_goes b (n + size a) f h.1 g.1 τ k (λ ρ q'. c' ρ (rw q q')))))
      (λ o. resume_goes b (n + size a) f h.1 g.1 p (or_other _ _ o w) σ k) c

  -- the body, of class C, started at line 0
  body_goes : (s : Stmt) → Each (Fit t r) s 0 0 → class_of s ≡ C → LoopsC s → (σ : Run) → Goes 0 σ (start s 0 i σ)
  body_goes s h c g σ k lt =
      start_goes s 0 0 h g σ passed (λ τ p. absurd (C_stops s c 0 i σ τ p)) k lt ∙ then_stays _ _ (λ τ p. C_stops s c 0 i σ τ p)

-- a place of a body with at most 512 lines is the beginning, whose number is no line's, or a wait's line
pub from_wait : (t : List Line) (s : Stmt) → size s ≤ 512 → (p : ℕ) → has s 0 p ≡ true → from t p ≡ next (line t p)
unfolding from
from_wait t s z p v = rw (other (eqb p 512) refl)
  where
    other : (b : Bool) → eqb p 512 ≡ b → eqb p 512 ≡ false
    other true e = let q = eqb-true p 512 e in absurd (omega (arith, has_below s 0 p v))
    other false e = e

cycle_goes : (t : List Line) (r : List ℕ) (i : List ℤ) (s : Stmt) → Each (Fit t r) s 0 0 → class_of s ≡ C → LoopsC s → size s ≤ 512
    → (q : Place) → Placed s q → (σ : Run) → Goes t r i (from t (number q)) σ (cycle s q i σ)
unfolding cycle enter then Placed
cycle_goes t r i s h c g z beginning v σ = unfold from in
    λ k lt. body_goes t r i s h c g σ k lt ∙ sym (then_stays _ _ (λ τ p. C_stops s c 0 i σ τ p))
cycle_goes t r i s h c g z (at p) v σ =
    rw (from_wait t s z p v) (resume_goes t r i s 0 0 h g p v σ (λ τ. start s 0 i τ) (λ τ q. body_goes t r i s h c g τ))

lines_of_fit : (s : Stmt) → class_of s ≡ C → LoopsC s → Each (Fit (lines_of s) (reaches_of s)) s 0 0
unfolding Fit
lines_of_fit s c g = each_both {R = Fit (lines_of s) (reaches_of s)} (λ x l p q. (p, falls (reaches_of s) x l q)) s 0 0 (lines_of_each s) (reaches_of_each s c g)

-- One cycle of the table is one cycle of the equations: place, outputs, variables and way, or the refusal's number and line.
pub one_cycle : (s : Stmt) → class_of s ≡ C → LoopsC s → size s ≤ 512 → (q : Place) → Placed s q → (i : List ℤ) (σ : Run)
    → table_cycle (lines_of s) (reaches_of s) (number q) i σ ≡ cycle s q i σ
unfolding table_cycle
one_cycle s c g z q v i σ = cycle_goes (lines_of s) (reaches_of s) i s (lines_of_fit s c g) c g z q v σ _ (omega arith)

-- The same for any count of lines that is above the reach of the first line.
pub one_cycle_enough : (s : Stmt) → class_of s ≡ C → LoopsC s → size s ≤ 512 → (q : Place) → Placed s q → (i : List ℤ) (σ : Run) (k : ℕ)
    → reach (reaches_of s) (from (lines_of s) (number q)) < k → walk (lines_of s) i k (from (lines_of s) (number q)) σ ≡ cycle s q i σ
one_cycle_enough s c g z q v i σ k lt = cycle_goes (lines_of s) (reaches_of s) i s (lines_of_fit s c g) c g z q v σ k lt
