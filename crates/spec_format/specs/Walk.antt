-- A cycle of a table: its lines followed by next and other, for at most as many lines as the first line's reach and one more. Assumes nothing.
use Rattle.std.specs.Prelude.{cond, List, ℕ, zero, suc, eqb, ℤ}
use Rattle.spec_semantics.specs.Equations.{Run, Result, passed, reached, perform, holds, log, then, acted, tested}
use Rattle.spec_format.specs.Lines.{Line, waits, acts, branches, line, next, reach}

-- the line l, with the number x, performed; go is what is done at a follower
unfoldable pub step : Line → ℕ → List ℤ → Run → (ℕ → Run → Result) → Result
step (waits f) x i σ go = reached x (log x σ)
step (acts a f) x i σ go = then (acted (perform a i σ.memory) x σ) (go f)
step (branches e f g) x i σ go = tested (holds e i σ.memory) x σ (go f) (go g)

-- at most k lines from the line x on; `passed` stands for k lines without a wait, which the reach rules out
unfoldable pub walk : List Line → List ℤ → ℕ → ℕ → Run → Result
walk t i zero x σ = passed σ
walk t i (suc k) x σ = step (line t x) x i σ (λ y τ. walk t i k y τ)

-- "A place (512 for the beginning, else a wait's line)": the line where a cycle begins
unfoldable pub from : List Line → ℕ → ℕ
from t p = cond (eqb p 512) 0 (next (line t p))

-- one cycle of the lines t with the reaches r from the place p
unfoldable pub table_cycle : List Line → List ℕ → ℕ → List ℤ → Run → Result
table_cycle t r p i σ = walk t i (suc (reach r (from t p))) (from t p) σ
