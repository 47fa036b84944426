-- A statement started or resumed, and a cycle of a process (document 01, "Composed over rows, the equations read so"). Assumes nothing.
use Rattle.std.specs.Prelude.{Bool, true, false, List, [], ◌∷◌, ◌++◌, ℕ, suc, ◌+◌, set, ℤ}
use Rattle.spec_design.specs.Expression.{Expr, Out, fine, fault, bind}
use Rattle.spec_design.specs.Statement.{Act, output, variable, null, Stmt, act, wait, if_then, if_else, while, seq, size, has}
use Rattle.spec_semantics.specs.Evaluation.{is_one, evaluate}

-- "They keep .. outputs and variables": their values in declared order
pub record Memory : Type 0 where
  pub outputs : List ℤ
  pub variables : List ℤ

-- "The way of a cycle lists the statements it performed": those so far, with what they have made of outputs and variables
pub record Run : Type 0 where
  pub way : List ℕ
  pub memory : Memory

-- a statement is passed; a wait is reached, by its number; or an operator is refused: the refusal's number and "its statement's number"
pub data Result : Type 0 where
  passed : Run → Result
  reached : ℕ → Run → Result
  refused : (number line : ℕ) → Result

-- "An assignment acts immediately": what it makes of outputs and variables, over the input row i
unfoldable pub perform : Act → List ℤ → Memory → Out Memory
perform (output k e) i m = bind (evaluate e i m.variables) (λ z. fine (record { outputs = set m.outputs k z; variables = m.variables }))
perform (variable k e) i m = bind (evaluate e i m.variables) (λ z. fine (record { outputs = m.outputs; variables = set m.variables k z }))
perform null i m = fine m

-- a condition holds where its value is 1
unfoldable pub holds : Expr → List ℤ → Memory → Out Bool
holds e i m = bind (evaluate e i m.variables) (λ z. fine (is_one z))

-- the statement with the number n is performed
unfoldable pub log : ℕ → Run → Run
log n σ = record { way = σ.way ++ (n ∷ []); memory = σ.memory }

-- what comes after a statement that is passed
unfoldable pub then : Result → (Run → Result) → Result
then (passed σ) k = k σ
then (reached p σ) k = reached p σ
then (refused q n) k = refused q n

-- "An assignment acts immediately and is passed, as is null."
unfoldable pub acted : Out Memory → ℕ → Run → Result
acted (fine m) n σ = passed (record { way = σ.way ++ (n ∷ []); memory = m })
acted (fault q) n σ = refused q n

-- "the branch that its condition picks"
unfoldable pub tested : Out Bool → ℕ → Run → (Run → Result) → (Run → Result) → Result
tested (fine true) n σ f g = f (log n σ)
tested (fine false) n σ f g = g (log n σ)
tested (fault q) n σ f g = refused q n

-- the first of two results where the test is true, else the second
unfoldable pub pick : Bool → Result → Result → Result
pick true x y = x
pick false x y = y

-- s, whose first number is n, started over the input row i; that the C body of a while is never passed when started is in `while_again`
unfoldable pub start : Stmt → ℕ → List ℤ → Run → Result
-- "An assignment acts immediately and is passed, as is null."
start (act a) n i σ = acted (perform a i σ.memory) n σ
-- "A wait is reached when started"
start wait n i σ = reached n (log n σ)
-- "An if takes the branch that its condition picks .. and is passed with it; a missing else is passed."
start (if_then e a) n i σ = tested (holds e i σ.memory) n σ (λ τ. start a (suc n) i τ) passed
start (if_else e a b) n i σ = tested (holds e i σ.memory) n σ (λ τ. start a (suc n) i τ) (λ τ. start b (suc n + size a) i τ)
-- "A while, started, tests its condition: false, it is passed; true, its body is started."
start (while e b) n i σ = tested (holds e i σ.memory) n σ (λ τ. start b (suc n) i τ) passed
-- "A sequence goes from part to part while they are passed"
start (seq a b) n i σ = then (start a n i σ) (λ τ. start b (n + size a) i τ)

-- s, whose first number is n, resumed over the input row i at its wait with the number p
unfoldable pub resume : Stmt → ℕ → ℕ → List ℤ → Run → Result
-- an assignment or null has no wait and is never resumed
resume (act a) n p i σ = passed σ
-- "A wait is .. passed when resumed."
resume wait n p i σ = passed σ
-- "or, resumed, the one with the wait, and is passed with it"
resume (if_then e a) n p i σ = resume a (suc n) p i σ
resume (if_else e a b) n p i σ = pick (has a (suc n) p) (resume a (suc n) p i σ) (resume b (suc n + size a) p i σ)
-- "Resumed, it resumes its body. Whenever its body is passed, it tests again."
resume (while e b) n p i σ = then (resume b (suc n) p i σ) (λ τ. start (while e b) n i τ)
-- "resumed, it begins at the part with the wait"
resume (seq a b) n p i σ = pick (has a n p) (then (resume a n p i σ) (λ τ. start b (n + size a) i τ)) (resume b (n + size a) p i σ)

-- "They keep place": the beginning, or a wait by its number
pub data Place : Type 0 where
  beginning : Place
  at : ℕ → Place

-- "the body is started, or resumed at the wait that is the place"
unfoldable pub enter : Stmt → Place → List ℤ → Run → Result
enter s beginning i σ = start s 0 i σ
enter s (at p) i σ = resume s 0 p i σ

-- one cycle of the process with the body s: "whenever passed, it is started again without stopping"; that once is enough is `again`
unfoldable pub cycle : Stmt → Place → List ℤ → Run → Result
cycle s q i σ = then (enter s q i σ) (λ τ. start s 0 i τ)
