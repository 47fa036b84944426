-- Statements that the arrays hold from one row up to another, and a block's statements from one of them on. Assumes nothing.
use Rattle.std.specs.Prelude.{◌≡◌, true, List, ℕ, ◌+◌, ◌*◌, ◌<◌, get_or, ℤ}
use Rattle.std.proofs.Math.Option.{Option, none, some}
use Rattle.base_codes.specs.Statement as S
use Rattle.spec_design.specs.Statement.{output, variable, null, Stmt, act, wait, if_then, if_else, while, seq, size, has}
use Rattle.spec_semantics.specs.Equations.{Run, Result, passed, start, resume}
use Rattle.direct_expressions.specs.Machine.{Performable}
use Rattle.base_ir.specs.Entries.{Block}
use Rattle.base_ir.specs.Arrays.{At}

-- every expression of a statement can be performed
unfoldable pub Ready : Stmt → Type 0
Ready (act (output k e)) = Performable e
Ready (act (variable k e)) = Performable e
Ready (act null) = Unit {0}
Ready wait = Unit {0}
Ready (if_then e a) = Performable e × Ready a
Ready (if_else e a b) = Performable e × (Ready a × Ready b)
Ready (while e b) = Performable e × Ready b
Ready (seq a b) = Ready a × Ready b

-- the rows from j up to e are those of the statement s; m operations stand before its own
pub record HeldIn (codes : List ℕ) (args : List ℤ) (rows : List ℕ) (s : Stmt) (j e : ℕ) : Type 0 where
  pub m : ℕ
  pub lies : At codes args rows s j m
  pub ready : Ready s
  pub end : e ≡ j + size s

-- the rows from j up to e are those of a block, or there are none
abbrev pub HeldRest : List ℕ → List ℤ → List ℕ → Option Stmt → ℕ → ℕ → Type 0
HeldRest codes args rows none j e = (e ≡ j)
HeldRest codes args rows (some s) j e = HeldIn codes args rows s j e × Block s

-- a block started, its first number being j; no statements are passed
abbrev pub start_rest : Option Stmt → ℕ → List ℤ → Run → Result
start_rest none j i σ = passed σ
start_rest (some s) j i σ = start s j i σ

-- "resumed, it begins at the part with the wait": of the statement s in the rows first .. e, the statements from row r on, the first of which has the
-- wait p among its rows
pub record Part (codes : List ℕ) (args : List ℤ) (rows : List ℕ) (s : Stmt) (first e p r : ℕ) : Type 0 where
  pub from_it : Stmt
  pub held : HeldIn codes args rows from_it r e
  pub block : Block from_it
  pub waits : has from_it r p ≡ true
  pub inside : p < get_or rows (S.ROW * r + S.END) 0
  pub same : (i : List ℤ) (σ : Run) → resume s first p i σ ≡ resume from_it r p i σ
