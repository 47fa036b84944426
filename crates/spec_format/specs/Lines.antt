-- The lines of a table with their followers, the lines of a process's body, and reaches (document 01, "Image, form 1"). Assumes nothing.
use Rattle.std.specs.Prelude.{List, [], ◌∷◌, ◌++◌, ℕ, suc, ◌+◌, max, get_or}
use Rattle.spec_design.specs.Expression.{Expr}
use Rattle.spec_design.specs.Statement.{Act, Stmt, act, wait, if_then, if_else, while, seq, size}

-- A wait; an output, a variable or null; a branch. "Next is the line to follow; a branch takes next if true, other if false."
pub data Line : Type 0 where
  waits : (next : ℕ) → Line
  acts : Act → (next : ℕ) → Line
  branches : Expr → (next other : ℕ) → Line

-- "One .. line per statement in text order, from 0": the lines of s, whose first is n and which the line f follows;
-- "from the end of a loop body the condition follows"
unfoldable pub lines : Stmt → ℕ → ℕ → List Line
lines (act a) n f = acts a f ∷ []
lines wait n f = waits f ∷ []
lines (if_then e a) n f = branches e (suc n) f ∷ lines a (suc n) f
lines (if_else e a b) n f = branches e (suc n) (suc n + size a) ∷ (lines a (suc n) f ++ lines b (suc n + size a) f)
lines (while e b) n f = branches e (suc n) f ∷ lines b (suc n) n
lines (seq a b) n f = lines a n (n + size a) ++ lines b (n + size a) f

-- "from the end of the process its beginning"
unfoldable pub lines_of : Stmt → List Line
lines_of s = lines s 0 0

-- the line with the number x; past the last, a wait
abbrev pub line : List Line → ℕ → Line
line t x = get_or t x (waits 0)

abbrev pub next : Line → ℕ
next (waits f) = f
next (acts a f) = f
next (branches e f g) = f

-- the reach of the line x; past the last, 0
abbrev pub reach : List ℕ → ℕ → ℕ
reach r x = get_or r x 0

-- "Reach is 0 for a wait, else 1 plus the larger reach of its followers."
abbrev pub reach_of : List ℕ → Line → ℕ
reach_of r (waits f) = 0
reach_of r (acts a f) = suc (reach r f)
reach_of r (branches e f g) = suc (max (reach r f) (reach r g))

-- The solution of that equation for a process's body: the reach of the first line of s, where r is the reach of the line that follows s; ..
unfoldable pub entry : Stmt → ℕ → ℕ
entry (act a) r = suc r
entry wait r = 0
entry (if_then e a) r = suc (max (entry a r) r)
entry (if_else e a b) r = suc (max (entry a r) (entry b r))
entry (while e b) r = suc (max (entry b 0) r)
entry (seq a b) r = entry a (entry b r)

-- .. the reaches of all lines of s; ..
unfoldable pub reaches : Stmt → ℕ → List ℕ
reaches (act a) r = suc r ∷ []
reaches wait r = 0 ∷ []
reaches (if_then e a) r = entry (if_then e a) r ∷ reaches a r
reaches (if_else e a b) r = entry (if_else e a b) r ∷ (reaches a r ++ reaches b r)
reaches (while e b) r = entry (while e b) r ∷ reaches b (entry (while e b) r)
reaches (seq a b) r = reaches a (entry b r) ++ reaches b r

-- .. those of a whole body, which follows itself
unfoldable pub reaches_of : Stmt → List ℕ
reaches_of s = reaches s (entry s 0)
