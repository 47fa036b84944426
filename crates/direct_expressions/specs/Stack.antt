-- How the evaluator's inner functions hold the stack: an array of which the first so many numbers are in use. Assumes nothing.
use Rattle.std.specs.Prelude.{◌≡◌, List, ℕ, ◌≤◌, length, ℤ, pos, Result, Ok, Err}
use Rattle.base_codes.specs.declared.fault.Fault.{Fault}
use Rattle.base_codes.specs.Fault.{number_of}
use Rattle.base_codes.specs.Stack.{stack_of}
use Rattle.spec_design.specs.Expression.{Out, fine, fault}

-- a depth, or a fault, as the definition has it
abbrev pub next_for : List ℤ → Result ℕ Fault → Out (List ℤ)
next_for a (Ok n) = fine (stack_of (pos 0) a n)
next_for a (Err q) = fault (number_of q)

-- an array of 64 numbers, of which n are in use
pub record Room (a : List ℤ) (n : ℕ) : Type 0 where
  pub numbers : length a ≡ 64
  pub depth : n ≤ 64

-- the depth that an answer leaves
abbrev pub depth_of : Result ℕ Fault → ℕ
depth_of (Ok n) = n
depth_of (Err q) = 0

-- an answer r over the array a says o
pub record Says (a : List ℤ) (r : Result ℕ Fault) (o : Out (List ℤ)) : Type 0 where
  pub room : Room a (depth_of r)
  pub says : next_for a r ≡ o
