-- What the published equations are composed with: nothing at all, or refusals and the way. Assumes nothing.
use Rattle.std.specs.Prelude.{List, ℕ}

-- A monad: a value of X with an effect is of `Of X`, `pure` has no effect, `bind` hands a value on.
pub record Monad : Type 1 where
  pub Of : Type 0 → Type 0
  pub pure : {X : Type 0} → X → Of X
  pub bind : {X Y : Type 0} → Of X → (X → Of Y) → Of Y

-- no effect: with it the equations are the printed ones
abbrev pub printed : Monad
printed = record { Of = λ X. X; pure = λ x. x; bind = λ x k. k x }

-- a value and the way up to it, or a refusal: its number and its statement's number
pub data Step (X : Type 0) : Type 0 where
  ends : X → List ℕ → Step X
  stops : (number line : ℕ) → Step X

-- what comes after a step that ends
unfoldable pub and_then : {X Y : Type 0} → Step X → (X → List ℕ → Step Y) → Step Y
and_then (ends x w) k = k x w
and_then (stops q n) k = stops q n

-- refusals and the way: from the way so far to a value and the way up to it, or to a refusal
abbrev pub traced : Monad
traced = record { Of = λ X. List ℕ → Step X; pure = λ x w. ends x w; bind = λ v k w. and_then (v w) k }
