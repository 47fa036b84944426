-- How the evaluator's inner functions hold the stack: two arrays, the numbers and their types' tags; and what a step says of it. Assumes nothing.
use Rattle.std.specs.Prelude.{◌≡◌, List, [], ◌∷◌, ℕ, zero, suc, ◌≤◌, ◌<◌, length, get_or, ℤ, pos, Result, Ok, Err}
use Rattle.base_codes.specs.declared.fault.Fault.{Fault}
use Rattle.base_codes.specs.Fault.{number_of}
use Rattle.std.proofs.Math.Option.{Option, none, some}
use Rattle.spec_design.specs.Types.{ExprTy, boolean}
use Rattle.base_codes.specs.Types.{tag_of, type_of_tag}
use Rattle.image_evaluator.specs.Position.{ROOM, Next, go, stop}
use Rattle.image_evaluator.specs.Value.{Cell}
use Rattle.image_evaluator.specs.declared.Progress.{Progress}

-- the type of a tag; every tag of a value on the stack has one, see `Room`
abbrev pub type_or : Option ExprTy → ExprTy
type_or none = boolean
type_or (some t) = t

abbrev pub type_on : ℕ → ExprTy
type_on k = type_or (type_of_tag k)

-- the first n values, the last of them first
unfoldable pub cells_of : List ℤ → List ℕ → ℕ → List Cell
cells_of a t zero = []
cells_of a t (suc n) = (type_on (get_or t n 0), get_or a n (pos 0)) ∷ cells_of a t n

-- a transition as the definition has it
abbrev pub next_for : List ℤ → List ℕ → Result Progress Fault → Next Cell
next_for a t (Ok p) = go p.at (cells_of a t p.depth)
next_for a t (Err q) = stop (number_of q)

-- arrays of 64 elements, of which n are in use, their tags being numbers of types
pub record Room (a : List ℤ) (t : List ℕ) (n : ℕ) : Type 0 where
  pub numbers : length a ≡ ROOM
  pub tags : length t ≡ ROOM
  pub depth : n ≤ ROOM
  pub kinds : (k : ℕ) → k < n → get_or t k 0 ≡ tag_of (type_on (get_or t k 0))

-- the depth that a transition leaves
abbrev pub depth_of : Result Progress Fault → ℕ
depth_of (Ok p) = p.depth
depth_of (Err q) = 0

-- a transition r over the arrays a and t says n
pub record Says (a : List ℤ) (t : List ℕ) (r : Result Progress Fault) (n : Next Cell) : Type 0 where
  pub room : Room a t (depth_of r)
  pub says : next_for a t r ≡ n
