-- Refusals 16 and 18 of a statement and of a cycle, without a method: the first operator on the way that is refused is refused by q, at the statement with
-- the number x ("A refused operator (16) refuses the row, the refusal's place being its statement's number"; "18, a zero divisor, with the line as place").
-- Assumes nothing.
use Rattle.std.specs.Prelude.{◌≡◌, true, false, ◌⊎◌, List, ℕ, suc, ◌+◌, ℤ}
use Rattle.spec_design.specs.Expression.{fine}
use Rattle.spec_design.specs.Statement.{Act, output, variable, null, Stmt, act, wait, if_then, if_else, while, seq, size, has}
use Rattle.spec_semantics.specs.Equations.{Memory, Run, passed, holds, log, start, resume, Place, beginning, at, enter}
use Rattle.spec_semantics.specs.Faults.{Faults}

-- the expression of an assignment is refused by q
unfoldable pub ActFaults : List ℤ → Memory → Act → ℕ → Type 0
ActFaults i m (output k e) q = Faults i m.variables e q
ActFaults i m (variable k e) q = Faults i m.variables e q
ActFaults i m null q = ⊥

-- s, whose first number is n, is started: its own expression is refused by q, x being its number; or a part that is started in turn is refused
unfoldable pub StartFaults : List ℤ → Stmt → ℕ → Run → ℕ → ℕ → Type 0
StartFaults i (act a) n σ q x = (x ≡ n) × ActFaults i σ.memory a q
StartFaults i wait n σ q x = ⊥
StartFaults i (if_then e a) n σ q x =
    ((x ≡ n) × Faults i σ.memory.variables e q) ⊎ ((holds e i σ.memory ≡ fine true) × StartFaults i a (suc n) (log n σ) q x)
StartFaults i (if_else e a b) n σ q x =
    ((x ≡ n) × Faults i σ.memory.variables e q)
    ⊎ (((holds e i σ.memory ≡ fine true) × StartFaults i a (suc n) (log n σ) q x)
    ⊎ ((holds e i σ.memory ≡ fine false) × StartFaults i b (suc n + size a) (log n σ) q x))
StartFaults i (while e b) n σ q x =
    ((x ≡ n) × Faults i σ.memory.variables e q) ⊎ ((holds e i σ.memory ≡ fine true) × StartFaults i b (suc n) (log n σ) q x)
StartFaults i (seq a b) n σ q x =
    StartFaults i a n σ q x ⊎ ((τ : Run) × (start a n i σ ≡ passed τ) × StartFaults i b (n + size a) τ q x)

-- s is resumed at its wait p: the part with the wait is refused when resumed, or what comes after it when started
unfoldable pub ResumeFaults : List ℤ → Stmt → ℕ → ℕ → Run → ℕ → ℕ → Type 0
ResumeFaults i (act a) n p σ q x = ⊥
ResumeFaults i wait n p σ q x = ⊥
ResumeFaults i (if_then e a) n p σ q x = ResumeFaults i a (suc n) p σ q x
ResumeFaults i (if_else e a b) n p σ q x =
    ((has a (suc n) p ≡ true) × ResumeFaults i a (suc n) p σ q x) ⊎ ((has a (suc n) p ≡ false) × ResumeFaults i b (suc n + size a) p σ q x)
ResumeFaults i (while e b) n p σ q x =
    ResumeFaults i b (suc n) p σ q x ⊎ ((τ : Run) × (resume b (suc n) p i σ ≡ passed τ) × StartFaults i (while e b) n τ q x)
ResumeFaults i (seq a b) n p σ q x =
    ((has a n p ≡ true) × (ResumeFaults i a n p σ q x ⊎ ((τ : Run) × (resume a n p i σ ≡ passed τ) × StartFaults i b (n + size a) τ q x)))
    ⊎ ((has a n p ≡ false) × ResumeFaults i b (n + size a) p σ q x)

-- the body is started, or resumed at the wait that is the place
unfoldable pub EnterFaults : List ℤ → Stmt → Place → Run → ℕ → ℕ → Type 0
EnterFaults i s beginning σ q x = StartFaults i s 0 σ q x
EnterFaults i s (at p) σ q x = ResumeFaults i s 0 p σ q x

-- a cycle: the body is refused when it is entered or, once it is passed, when it is started again
unfoldable pub CycleFaults : List ℤ → Stmt → Place → Run → ℕ → ℕ → Type 0
CycleFaults i s c σ q x = EnterFaults i s c σ q x ⊎ ((τ : Run) × (enter s c i σ ≡ passed τ) × StartFaults i s 0 τ q x)
