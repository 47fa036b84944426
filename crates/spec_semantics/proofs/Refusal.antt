-- A cycle is refused by a number exactly where an operator that is evaluated on the way is, at that statement: induction on the statement, over
-- the same fact on expressions. Assumes nothing.
use Prim.Native.Nat.{ℕ, suc, ◌+◌}
use native.Mathlib.Omega.{arith}
use mathlib.Core.Path.{◌≡◌, refl, sym, ap, ◌∙◌}
use mathlib.Core.Bool.{Bool, true, false}
use mathlib.Core.Logic.{◌⊎◌, inl, inr, ◌↔◌}
use mathlib.Core.List.{List}
use lib.IntN.{ℤ}
use Rattle.spec_design.specs.Expression.{Expr, Out, fine, fault, bind}
use Rattle.spec_design.specs.Statement.{Act, output, variable, null, Stmt, act, wait, if_then, if_else, while, seq, size, has}
use Rattle.spec_semantics.specs.Equations.{Memory, Run, Result, passed, reached, refused, perform, holds, log, then, acted, tested, pick, start, resume}
use Rattle.spec_semantics.specs.Equations.{Place, beginning, at, enter, cycle}
use Rattle.spec_semantics.specs.Faults.{Faults}
use Rattle.spec_semantics.specs.Refusal.{ActFaults, StartFaults, ResumeFaults, EnterFaults, CycleFaults}
use Rattle.spec_semantics.proofs.Basic.{fault_injective}
use Rattle.spec_semantics.proofs.Faults.{fault_faults, faults_fault}

passed_refused : {P : Type 0} (σ : Run) (q n : ℕ) → passed σ ≡ refused q n → P
passed_refused σ q n e = absurd (let z : ◌≡◌ {A = ℕ} 0 1 = cc in omega arith)

reached_refused : {P : Type 0} (p : ℕ) (σ : Run) (q n : ℕ) → reached p σ ≡ refused q n → P
reached_refused p σ q n e = absurd (let z : ◌≡◌ {A = ℕ} 0 1 = cc in omega arith)

refused_same : (q n q' n' : ℕ) → refused q n ≡ refused q' n' → (q ≡ q') × (n ≡ n')
refused_same q n q' n' e = (cc, cc)

-- a sequence is refused in its first part, or in its second after the first is passed; P and Q are what that means
then_refused : {P : Type 0} {Q : Run → Type 0} (r : Result) (k : Run → Result) (q x : ℕ) → (r ≡ refused q x → P) → ((τ : Run) → k τ ≡ refused q x → Q τ)
    → then r k ≡ refused q x → P ⊎ ((τ : Run) × (r ≡ passed τ) × Q τ)
unfolding then
then_refused (passed τ) k q x hr hk e = inr (τ, refl, hk τ e)
then_refused (reached p τ) k q x hr hk e = reached_refused p τ q x e
then_refused (refused q' x') k q x hr hk e = inl (hr e)

without_else : {X Y Z : Type 0} → X ⊎ (Y ⊎ (Z × ⊥)) → X ⊎ Y
without_else (inl x) = inl x
without_else (inr (inl y)) = inr y
without_else (inr (inr z)) = absurd z.1

bind_fault : {X Y : Type 0} (o : Out X) (f : X → Y) (q : ℕ) → bind o (λ x. fine (f x)) ≡ fault q → o ≡ fault q
unfolding bind
bind_fault (fine x) f q e = absurd (let z : ◌≡◌ {A = ℕ} 0 1 = cc in omega arith)
bind_fault {X} {Y} (fault n) f q e = ap fault (fault_injective {X = Y} n q e)

module _ (i : List ℤ) (q : ℕ) where
  -- assignments

  act_refused : (a : Act) (m : Memory) → perform a i m ≡ fault q → ActFaults i m a q
  unfolding perform ActFaults
  act_refused (output k e) m h = fault_faults i m.variables e q (bind_fault _ _ q h)
  act_refused (variable k e) m h = fault_faults i m.variables e q (bind_fault _ _ q h)
  act_refused null m h = absurd (let z : ◌≡◌ {A = ℕ} 0 1 = cc in omega arith)

  act_faults : (a : Act) (m : Memory) → ActFaults i m a q → perform a i m ≡ fault q
  unfolding perform ActFaults bind
  act_faults (output k e) m h = rw (faults_fault i m.variables e q h)
  act_faults (variable k e) m h = rw (faults_fault i m.variables e q h)
  act_faults null m h = absurd h

  acted_refused : (v : Out Memory) (n : ℕ) (σ : Run) (x : ℕ) → acted v n σ ≡ refused q x → (x ≡ n) × (v ≡ fault q)
  unfolding acted
  acted_refused (fine m) n σ x e = passed_refused _ q x e
  acted_refused (fault q') n σ x e = let r = refused_same q' n q x e in (sym r.1, ap fault r.0)

  -- conditions

  -- a test is refused in its condition or in the branch that is picked; P and Q are what a refused branch means
  tested_refused : (e : Expr) (n : ℕ) (σ : Run) (f g : Run → Result) (x : ℕ) (P Q : Type 0)
      → (f (log n σ) ≡ refused q x → P) → (g (log n σ) ≡ refused q x → Q) → tested (holds e i σ.memory) n σ f g ≡ refused q x
      → ((x ≡ n) × Faults i σ.memory.variables e q) ⊎ (((holds e i σ.memory ≡ fine true) × P) ⊎ ((holds e i σ.memory ≡ fine false) × Q))
  unfolding tested holds
  tested_refused e n σ f g x P Q hf hg h = go (holds e i σ.memory) refl h
    where
      go : (v : Out Bool) → holds e i σ.memory ≡ v → tested v n σ f g ≡ refused q x
          → ((x ≡ n) × Faults i σ.memory.variables e q) ⊎ (((holds e i σ.memory ≡ fine true) × P) ⊎ ((holds e i σ.memory ≡ fine false) × Q))
      go (fine true) p h = inr (inl (p, hf h))
      go (fine false) p h = inr (inr (p, hg h))
      go (fault q') p h =
          let r = refused_same q' n q x h in
          inl (sym r.1, fault_faults i σ.memory.variables e q (bind_fault _ _ q (p ∙ ap fault r.0)))

  condition_faults : (e : Expr) (m : Memory) → Faults i m.variables e q → holds e i m ≡ fault q
  unfolding holds bind
  condition_faults e m h = rw (faults_fault i m.variables e q h)

  -- statements started

  start_refused : (s : Stmt) (n : ℕ) (σ : Run) (x : ℕ) → start s n i σ ≡ refused q x → StartFaults i s n σ q x
  unfolding start StartFaults
  start_refused (act a) n σ x h = let r = acted_refused _ n σ x h in (r.0, act_refused a σ.memory r.1)
  start_refused wait n σ x h = reached_refused n _ q x h
  start_refused (if_then e a) n σ x h = without_else (tested_refused e n σ _ _ x _ ⊥ (start_refused a (suc n) (log n σ) x) (passed_refused (log n σ) q x) h)
  start_refused (if_else e a b) n σ x h = tested_refused e n σ _ _ x _ _ (start_refused a (suc n) (log n σ) x) (start_refused b (suc n + size a) (log n σ) x) h
  start_refused (while e b) n σ x h = without_else (tested_refused e n σ _ _ x _ ⊥ (start_refused b (suc n) (log n σ) x) (passed_refused (log n σ) q x) h)
  start_refused (seq a b) n σ x h = then_refused _ _ q x (start_refused a n σ x) (λ τ. start_refused b (n + size a) τ x) h

  start_faults : (s : Stmt) (n : ℕ) (σ : Run) (x : ℕ) → StartFaults i s n σ q x → start s n i σ ≡ refused q x
  unfolding start StartFaults acted tested then
  start_faults (act a) n σ x h = rw (act_faults a σ.memory h.1, h.0)
  start_faults wait n σ x h = absurd h
  start_faults (if_then e a) n σ x (inl p) = rw (condition_faults e σ.memory p.1, p.0)
  start_faults (if_then e a) n σ x (inr p) = rw p.0 (start_faults a (suc n) (log n σ) x p.1)
  start_faults (if_else e a b) n σ x (inl p) = rw (condition_faults e σ.memory p.1, p.0)
  start_faults (if_else e a b) n σ x (inr (inl p)) = rw p.0 (start_faults a (suc n) (log n σ) x p.1)
  start_faults (if_else e a b) n σ x (inr (inr p)) = rw p.0 (start_faults b (suc n + size a) (log n σ) x p.1)
  start_faults (while e b) n σ x (inl p) = rw (condition_faults e σ.memory p.1, p.0)
  start_faults (while e b) n σ x (inr p) = rw p.0 (start_faults b (suc n) (log n σ) x p.1)
  start_faults (seq a b) n σ x (inl p) = rw (start_faults a n σ x p)
  start_faults (seq a b) n σ x (inr p) = rw p.1 (start_faults b (n + size a) p.0 x p.2)

  -- statements resumed

  picked_refused : {P Q : Type 0} (b : Bool) (f g : Result) (x : ℕ) → (b ≡ true → f ≡ refused q x → P) → (b ≡ false → g ≡ refused q x → Q)
      → pick b f g ≡ refused q x → ((b ≡ true) × P) ⊎ ((b ≡ false) × Q)
  unfolding pick
  picked_refused true f g x hf hg e = inl (refl, hf refl e)
  picked_refused false f g x hf hg e = inr (refl, hg refl e)

  resume_refused : (s : Stmt) (n p : ℕ) (σ : Run) (x : ℕ) → resume s n p i σ ≡ refused q x → ResumeFaults i s n p σ q x
  unfolding resume ResumeFaults
  resume_refused (act a) n p σ x h = passed_refused σ q x h
  resume_refused wait n p σ x h = passed_refused σ q x h
  resume_refused (if_then e a) n p σ x h = resume_refused a (suc n) p σ x h
  resume_refused (if_else e a b) n p σ x h =
      picked_refused (has a (suc n) p) _ _ x (λ t. resume_refused a (suc n) p σ x) (λ t. resume_refused b (suc n + size a) p σ x) h
  resume_refused (while e b) n p σ x h = then_refused _ _ q x (resume_refused b (suc n) p σ x) (λ τ. start_refused (while e b) n τ x) h
  resume_refused (seq a b) n p σ x h =
      picked_refused (has a n p) _ _ x (λ t. then_refused _ _ q x (resume_refused a n p σ x) (λ τ. start_refused b (n + size a) τ x))
      (λ t. resume_refused b (n + size a) p σ x) h

  resume_faults : (s : Stmt) (n p : ℕ) (σ : Run) (x : ℕ) → ResumeFaults i s n p σ q x → resume s n p i σ ≡ refused q x
  unfolding resume ResumeFaults pick then
  resume_faults (act a) n p σ x h = absurd h
  resume_faults wait n p σ x h = absurd h
  resume_faults (if_then e a) n p σ x h = resume_faults a (suc n) p σ x h
  resume_faults (if_else e a b) n p σ x (inl h) = rw h.0 (resume_faults a (suc n) p σ x h.1)
  resume_faults (if_else e a b) n p σ x (inr h) = rw h.0 (resume_faults b (suc n + size a) p σ x h.1)
  resume_faults (while e b) n p σ x (inl h) = rw (resume_faults b (suc n) p σ x h)
  resume_faults (while e b) n p σ x (inr h) = rw h.1 (start_faults (while e b) n h.0 x h.2)
  resume_faults (seq a b) n p σ x (inl (t, inl h)) = rw (t, resume_faults a n p σ x h)
  resume_faults (seq a b) n p σ x (inl (t, inr h)) = rw (t, h.1) (start_faults b (n + size a) h.0 x h.2)
  resume_faults (seq a b) n p σ x (inr h) = rw h.0 (resume_faults b (n + size a) p σ x h.1)

  -- cycles

  enter_refused : (s : Stmt) (c : Place) (σ : Run) (x : ℕ) → enter s c i σ ≡ refused q x → EnterFaults i s c σ q x
  unfolding enter EnterFaults
  enter_refused s beginning σ x h = start_refused s 0 σ x h
  enter_refused s (at p) σ x h = resume_refused s 0 p σ x h

  enter_faults : (s : Stmt) (c : Place) (σ : Run) (x : ℕ) → EnterFaults i s c σ q x → enter s c i σ ≡ refused q x
  unfolding enter EnterFaults
  enter_faults s beginning σ x h = start_faults s 0 σ x h
  enter_faults s (at p) σ x h = resume_faults s 0 p σ x h

  cycle_refused : (s : Stmt) (c : Place) (σ : Run) (x : ℕ) → cycle s c i σ ≡ refused q x → CycleFaults i s c σ q x
  unfolding cycle CycleFaults
  cycle_refused s c σ x h = then_refused _ _ q x (enter_refused s c σ x) (λ τ. start_refused s 0 τ x) h

  cycle_faults : (s : Stmt) (c : Place) (σ : Run) (x : ℕ) → CycleFaults i s c σ q x → cycle s c i σ ≡ refused q x
  unfolding cycle CycleFaults then
  cycle_faults s c σ x (inl h) = rw (enter_faults s c σ x h)
  cycle_faults s c σ x (inr h) = rw h.1 (start_faults s 0 h.0 x h.2)

  -- A cycle is refused by q at the statement x exactly where an operator evaluated on its way, in that statement, is refused by q.
  pub refusal_exactly : (s : Stmt) (c : Place) (σ : Run) (x : ℕ) → (cycle s c i σ ≡ refused q x) ↔ CycleFaults i s c σ q x
  refusal_exactly s c σ x = (cycle_refused s c σ x, cycle_faults s c σ x)
