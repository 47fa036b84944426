-- A cycle that is refused is refused by an operator's number, 16 or 18: induction on the statement, over the same fact on expressions. Assumes nothing.
use Prim.Native.Nat.{ℕ, suc, ◌+◌}
use mathlib.Core.Path.{◌≡◌}
use mathlib.Core.Logic.{inl, inr}
use mathlib.Core.List.{List}
use lib.IntN.{ℤ}
use Rattle.spec_design.specs.Statement.{Act, output, variable, null, Stmt, act, wait, if_then, if_else, while, seq, size}
use Rattle.spec_semantics.specs.Equations.{Memory, Run, refused, log, Place, beginning, at, cycle}
use Rattle.spec_semantics.specs.Evaluation.{OperatorNumber}
use Rattle.spec_semantics.specs.Refusal.{ActFaults, StartFaults, ResumeFaults, EnterFaults, CycleFaults}
use Rattle.spec_semantics.proofs.Faults.{faults_number}
use Rattle.spec_semantics.proofs.Refusal.{refusal_exactly}

module _ (i : List ℤ) (q x : ℕ) where
  act_number : (a : Act) (m : Memory) → ActFaults i m a q → OperatorNumber q
  unfolding ActFaults
  act_number (output k e) m h = faults_number i m.variables e q h
  act_number (variable k e) m h = faults_number i m.variables e q h
  act_number null m h = absurd h

  start_number : (s : Stmt) (n : ℕ) (σ : Run) → StartFaults i s n σ q x → OperatorNumber q
  unfolding StartFaults
  start_number (act a) n σ h = act_number a σ.memory h.1
  start_number wait n σ h = absurd h
  start_number (if_then e a) n σ (inl h) = faults_number i σ.memory.variables e q h.1
  start_number (if_then e a) n σ (inr h) = start_number a (suc n) (log n σ) h.1
  start_number (if_else e a b) n σ (inl h) = faults_number i σ.memory.variables e q h.1
  start_number (if_else e a b) n σ (inr (inl h)) = start_number a (suc n) (log n σ) h.1
  start_number (if_else e a b) n σ (inr (inr h)) = start_number b (suc n + size a) (log n σ) h.1
  start_number (while e b) n σ (inl h) = faults_number i σ.memory.variables e q h.1
  start_number (while e b) n σ (inr h) = start_number b (suc n) (log n σ) h.1
  start_number (seq a b) n σ (inl h) = start_number a n σ h
  start_number (seq a b) n σ (inr h) = start_number b (n + size a) h.0 h.2

  resume_number : (s : Stmt) (n p : ℕ) (σ : Run) → ResumeFaults i s n p σ q x → OperatorNumber q
  unfolding ResumeFaults
  resume_number (act a) n p σ h = absurd h
  resume_number wait n p σ h = absurd h
  resume_number (if_then e a) n p σ h = resume_number a (suc n) p σ h
  resume_number (if_else e a b) n p σ (inl h) = resume_number a (suc n) p σ h.1
  resume_number (if_else e a b) n p σ (inr h) = resume_number b (suc n + size a) p σ h.1
  resume_number (while e b) n p σ (inl h) = resume_number b (suc n) p σ h
  resume_number (while e b) n p σ (inr h) = start_number (while e b) n h.0 h.2
  resume_number (seq a b) n p σ (inl (t, inl h)) = resume_number a n p σ h
  resume_number (seq a b) n p σ (inl (t, inr h)) = start_number b (n + size a) h.0 h.2
  resume_number (seq a b) n p σ (inr h) = resume_number b (n + size a) p σ h.1

  enter_number : (s : Stmt) (c : Place) (σ : Run) → EnterFaults i s c σ q x → OperatorNumber q
  unfolding EnterFaults
  enter_number s beginning σ h = start_number s 0 σ h
  enter_number s (at p) σ h = resume_number s 0 p σ h

  faulted_number : (s : Stmt) (c : Place) (σ : Run) → CycleFaults i s c σ q x → OperatorNumber q
  unfolding CycleFaults
  faulted_number s c σ (inl h) = enter_number s c σ h
  faulted_number s c σ (inr h) = start_number s 0 h.0 h.2

  pub cycle_number : (s : Stmt) (c : Place) (σ : Run) → cycle s c i σ ≡ refused q x → OperatorNumber q
  cycle_number s c σ e = faulted_number s c σ ((refusal_exactly i q s c σ x).0 e)
