-- What a statement does itself, by its row: its value stored in its target, or the part that follows. Assumes nothing.
use Rattle.std.specs.Prelude.{◌≡◌, Bool, true, false, cond, List, ℕ, ◌+◌, ◌<◌, set, ℤ, eqb}
use Rattle.base_codes.specs.Limit as L
use Rattle.base_codes.specs.Statement as S
use Rattle.spec_design.specs.Expression.{Out, fine, fault}
use Rattle.spec_semantics.specs.Evaluation.{is_one}
use Rattle.base_ir.specs.Arrays.{Row, row_in}
use Rattle.direct_expressions.specs.Machine.{value_in}
use Rattle.direct_statements.specs.declared.Effect.{Effect}
use Rattle.direct_statements.specs.declared.Effect.TheVariants.{Waits, Performed}

-- "An if takes the branch that its condition picks"; "A while .. tests its condition: false, it is passed; true, its body is started": the first
-- part stands behind the statement j, the second at `other`, and a while's second part is empty
abbrev pub branch_of : Bool → ℕ → ℕ → ℕ → Effect
branch_of true j other end = Performed (j + 1) other
branch_of false j other end = Performed other end

-- what follows the value of a statement of kind k: 3 an if, 5 a while, else an assignment
abbrev pub valued_of : ℕ → Out ℤ → ℕ → ℕ → ℕ → Out Effect
valued_of k (fault q) j other end = fault q
valued_of k (fine z) j other end = cond (eqb k S.IF) (fine (branch_of (is_one z) j other end))
    (cond (eqb k S.WHILE) (fine (branch_of (is_one z) j other end)) (fine (Performed (j + 1) (j + 1))))

-- 0 is a wait and 4 is null
abbrev pub effect_of : ℕ → Out ℤ → ℕ → ℕ → ℕ → Out Effect
effect_of k e j other end = cond (eqb k S.WAIT) (fine Waits) (cond (eqb k S.NULL) (fine (Performed (j + 1) (j + 1))) (valued_of k e j other end))

-- the value of the expression of a statement with the row r, over the input row i and the variables v
abbrev pub value_of : List ℕ → List ℤ → List ℤ → List ℤ → Row → Out ℤ
value_of codes args i v r = value_in codes args r.from r.to i v

-- the slots that statements of kind w store into, after a statement of kind k with the target n and the value e
abbrev pub stored_of : ℕ → ℕ → ℕ → Out ℤ → List ℤ → List ℤ
stored_of w k n (fine z) s = cond (eqb k w) (set s n z) s
stored_of w k n (fault q) s = s

-- the statement j with the row r and the value e: its effect x, and the outputs o and variables v as they are left
pub record Acts (r : Row) (j : ℕ) (e : Out ℤ) (o v : List ℤ) (x : Out Effect) (o' v' : List ℤ) : Type 0 where
  pub effect : x ≡ effect_of r.kind e j r.other r.end
  pub outputs : o' ≡ stored_of S.OUTPUT r.kind r.target e o
  pub variables : v' ≡ stored_of S.VARIABLE r.kind r.target e v

-- k is the kind of the statement `at`, which is one with a value
pub record Valued (rows : List ℕ) (at k : ℕ) : Type 0 where
  pub row : at < L.STATEMENTS
  pub kind : k ≡ (row_in rows at).kind
  pub no_wait : k ≡ S.WAIT → ⊥
  pub no_null : k ≡ S.NULL → ⊥
