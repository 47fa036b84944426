-- What a cycle over lines and reaches comes to, whether a compiler made them or not. Assumes nothing.
use Rattle.std.specs.Prelude.{◌≡◌, ℕ, suc, ◌≤◌, ◌<◌, length}
use mathlib.Core.List.{List, [], ◌∷◌, ◌++◌, Memᴰ}
use Rattle.spec_semantics.specs.Equations.{Run, Result, reached, refused}
use Rattle.spec_semantics.specs.Evaluation.{OperatorNumber}
use Rattle.spec_format.specs.Lines.{Line, waits, line, reach}
use Rattle.spec_semantics.specs.Way.{Distinct}

-- the line p is there and is a wait
pub record WaitAt (t : List Line) (p : ℕ) : Type 0 where
  pub inside : p < length t
  pub follower : ℕ
  pub waiting : line t p ≡ waits follower

-- the lines performed from the line x on: none twice, so at most as many as there are lines; "bounded by the follower's reach plus one"
pub record WayFrom (t : List Line) (r : List ℕ) (x : ℕ) (way : List ℕ) : Type 0 where
  pub inside : (y : ℕ) → Memᴰ y way → y < length t
  pub distinct : Distinct way
  pub few : length way ≤ length t
  pub short : length way ≤ suc (reach r x)

-- A wait is reached, "the wait it ends on included" in the way as its last line, or an operator of a line is refused by its number; nothing else.
pub data Walked (t : List Line) (r : List ℕ) (x : ℕ) : Result → Type 0 where
  waits_at : (p : ℕ) (σ : Run) (before : List ℕ) → σ.way ≡ before ++ (p ∷ []) → WaitAt t p → WayFrom t r x σ.way → Walked t r x (reached p σ)
  refuses_at : (q n : ℕ) → OperatorNumber q → n < length t → Walked t r x (refused q n)
