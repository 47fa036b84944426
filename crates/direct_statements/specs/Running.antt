-- What the functions that start and resume statements come to, for every statement that the arrays hold in those rows: the answer r, with outputs o' and
-- variables v' as they are left, stands for what the equations say, from the outputs o and the variables v on, the way so far being count long. Assumes nothing.
use Rattle.std.specs.Prelude.{◌≡◌, true, ◌||◌, List, [], ℕ, length, ℤ, eqb}
use Rattle.std.proofs.Math.Option.{Option}
use Rattle.base_codes.specs.Limit.{BEGINNING}
use Rattle.spec_design.specs.Statement.{Stmt, has}
use Rattle.spec_semantics.specs.Equations.{Result, then, start, resume, enter}
use Rattle.spec_semantics.specs.DirectRow.{place_for}
use Rattle.base_ir.specs.Entries.{Single, Block}
use Rattle.direct_statements.specs.Holding.{HeldIn, HeldRest, start_rest}
use Rattle.direct_statements.specs.Standing.{run, Stands}
use Rattle.direct_statements.specs.declared.Progress.{Progress}

module _ (codes : List ℕ) (args : List ℤ) (rows : List ℕ) where
  -- the statement in the rows at .. next, started
  abbrev pub StartsOne : ℕ → ℕ → ℕ → List ℤ → List ℤ → List ℤ → Progress → List ℤ → List ℤ → Type 0
  StartsOne at next count i o v r o' v' =
      (f : Stmt) (w : List ℕ) → Single f → HeldIn codes args rows f at next → length w ≡ count → Stands (start f at i (run w o v)) r o' v'

  -- the statements in the rows first .. end, none where the two are equal, started
  abbrev pub Starts : ℕ → ℕ → ℕ → List ℤ → List ℤ → List ℤ → Progress → List ℤ → List ℤ → Type 0
  Starts first end count i o v r o' v' =
      (q : Option Stmt) (w : List ℕ) → HeldRest codes args rows q first end → length w ≡ count → Stands (start_rest q first i (run w o v)) r o' v'

  -- after an answer r: where it is passed, the statements in the rows from .. end are started
  abbrev pub GoesOn : ℕ → ℕ → List ℤ → List ℤ → List ℤ → Progress → Progress → List ℤ → List ℤ → Type 0
  GoesOn from end i o v r s o' v' =
      (R : Result) (q : Option Stmt) → Stands R r o v → HeldRest codes args rows q from end → Stands (then R (λ τ. start_rest q from i τ)) s o' v'

  -- the statements in the rows first .. end, resumed at their wait p: the way is empty
  abbrev pub Resumes : ℕ → ℕ → ℕ → List ℤ → List ℤ → List ℤ → Progress → List ℤ → List ℤ → Type 0
  Resumes first end p i o v r o' v' =
      (s : Stmt) → HeldIn codes args rows s first end → Block s → has s first p ≡ true → Stands (resume s first p i (run [] o v)) r o' v'

  -- "the body is started, or resumed at the wait that is the place"
  abbrev pub Enters : ℕ → ℕ → List ℤ → List ℤ → List ℤ → Progress → List ℤ → List ℤ → Type 0
  Enters size p i o v r o' v' =
      (s : Stmt) → HeldIn codes args rows s 0 size → Block s → (eqb p BEGINNING || has s 0 p) ≡ true → Stands (enter s (place_for p) i (run [] o v)) r o' v'
