-- How the answer of started and resumed statements stands for a result of the equations: the way by its length, outputs and variables as they are left.
-- Assumes nothing.
use Rattle.std.specs.Prelude.{◌≡◌, List, ℕ, ◌+◌, ◌-◌, ◌≤◌, length, ℤ}
use Rattle.base_codes.specs.Limit as L
use Rattle.base_codes.specs.Fault.{number_of}
use Rattle.spec_semantics.specs.Equations.{Run, Result, passed, reached, refused}
use Rattle.direct_statements.specs.declared.Progress.{Progress}
use Rattle.direct_statements.specs.declared.Progress.TheVariants.{Passed, Reached, Refused}

-- the way so far, with outputs and variables
abbrev pub run : List ℕ → List ℤ → List ℤ → Run
run w o v = record { way = w; memory = record { outputs = o; variables = v } }

-- the count of an answer; a refused one has none
abbrev pub counted : Progress → ℕ
counted (Passed n) = n
counted (Reached p n) = n
counted (Refused q x) = 0

-- the result that an answer tells, the count being the length of the way; o and v are outputs and variables as they are left
abbrev pub stands_for : Result → Progress → List ℤ → List ℤ → Type 0
stands_for R (Passed n) o v = (w : List ℕ) × ((length w ≡ n) × (R ≡ passed (run w o v)))
stands_for R (Reached p n) o v = (w : List ℕ) × ((length w ≡ n) × (R ≡ reached p (run w o v)))
stands_for R (Refused q x) o v = (R ≡ refused (number_of q) x)

-- an answer r with outputs o and variables v stands for the result R
pub record Stands (R : Result) (r : Progress) (o v : List ℤ) : Type 0 where
  pub is : stands_for R r o v

-- the rows first .. end are rows of the array, and the count has room for them
pub record Bounds (first end count : ℕ) : Type 0 where
  pub order : first ≤ end
  pub few : end ≤ L.STATEMENTS
  pub room : count + (end - first) ≤ 1000000
