-- What holds of the end and of the way of every cycle (document 01, "The way of a cycle"). Assumes nothing.
use Rattle.std.specs.Prelude.{◌≡◌, true, ℕ, ◌≤◌, ◌<◌, length}
use mathlib.Core.List.{List, [], ◌∷◌, Memᴰ}
use Rattle.spec_design.specs.Statement.{Stmt, size, has}
use Rattle.spec_semantics.specs.Equations.{Run, Result, reached, refused}

-- no number comes twice
unfoldable pub Distinct : List ℕ → Type 0
Distinct [] = Unit {0}
Distinct (x ∷ w) = (Memᴰ x w → ⊥) × Distinct w

-- a cycle ends at a wait of the body s, or an operator is refused; it is never passed
pub data Ended (s : Stmt) : Result → Type 0 where
  at_wait : (p : ℕ) (σ : Run) → has s 0 p ≡ true → Ended s (reached p σ)
  at_operator : (q n : ℕ) → Ended s (refused q n)

-- a way has numbers of the text's statements, none twice, so at most as many as the text has statements
pub record Path (s : Stmt) (way : List ℕ) : Type 0 where
  pub inside : (x : ℕ) → Memᴰ x way → x < size s
  pub distinct : Distinct way
  pub short : length way ≤ size s
