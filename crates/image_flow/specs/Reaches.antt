-- Reaches by position: sweeps over the lines, from the last to the first, until nothing changes. Assumes nothing.
use Rattle.std.specs.Prelude.{◌≡◌, Bool, false, cond, ◌||◌, List, ℕ, zero, suc, ◌+◌, ◌*◌, ◌≤◌, ◌<◌, max, ℤ, length, get_or, set, eqb, ltb}
use Rattle.std.proofs.lemmas.List.Edits.{sets}
use Rattle.base_codes.specs.Statement as S
use Rattle.base_codes.specs.Limit as L
use Rattle.spec_design.specs.Statement.{Stmt, size, C, class_of, LoopsC}
use Rattle.base_ir.specs.Arrays.{At}
use Rattle.spec_format.specs.Lines.{lines_of, reaches_of}
use Rattle.image_flow.specs.declared.followers.Links.{Links}
use Rattle.image_flow.specs.Followers.{stored, Followed}

-- one more, where a 16-bit number holds it
abbrev pub up_one : ℕ → ℕ
up_one v = cond (ltb v 65535) (v + 1) v

-- an if or a while
abbrev pub is_branch : ℕ → Bool
is_branch k = eqb k S.IF || eqb k S.WHILE

-- "Reach is 0 for a wait, else 1 plus the larger reach of its followers", of a statement of the kind k whose followers have the reaches a and b
unfoldable pub reach_by : ℕ → ℕ → ℕ → ℕ
reach_by k a b = cond (eqb k S.WAIT) 0 (cond (is_branch k) (up_one (max a b)) (up_one a))

-- of the line j
abbrev pub reach_at : List ℕ → Links → ℕ → List ℕ → ℕ
reach_at rows x j r = reach_by (get_or rows (S.ROW * j) 0) (get_or r (get_or x.next j 0) 0) (get_or r (get_or x.other j 0) 0)

-- the reaches of the lines below a number stored anew, the last first
unfoldable pub sweep : List ℕ → Links → ℕ → List ℕ → List ℕ
sweep rows x zero r = r
sweep rows x (suc j) r = sweep rows x j (set r j (reach_at rows x j r))

-- k sweeps over n lines
unfoldable pub sweeps : List ℕ → Links → ℕ → ℕ → List ℕ → List ℕ
sweeps rows x n zero r = r
sweeps rows x n (suc k) r = sweeps rows x n k (sweep rows x n r)

-- of every body of n statements that the rows hold, of class C, each of whose loops has a C body, and whose followers the links are: the reaches of its
-- lines are stored, and all else is as it was
abbrev pub Reached : List ℕ → ℕ → Links → List ℕ → List ℕ → Type 0
Reached rows n x before after =
    (codes : List ℕ) (args : List ℤ) (s : Stmt) (x₀ : Links) → At codes args rows s 0 0 → size s ≡ n → class_of s ≡ C → LoopsC s
    → n ≤ length x₀.next → n ≤ length x₀.other → x ≡ stored 0 (lines_of s) x₀ → n ≤ length before → after ≡ sets before 0 (reaches_of s)

-- one sweep over n lines, and whether it changed a reach
pub record Swept (rows : List ℕ) (x : Links) (n : ℕ) (before after : List ℕ) (changed : Bool) : Type 0 where
  pub are : after ≡ sweep rows x n before
  pub still : changed ≡ false → after ≡ before

-- followers, then reaches of n statements: x and r are the arrays before, y and q behind. No body has more than 512 statements; for a higher n they are
-- left as they were
pub record Found (rows : List ℕ) (n : ℕ) (x y : Links) (r q : List ℕ) : Type 0 where
  pub followed : n ≤ L.STATEMENTS → Followed rows n x y
  pub reached : n ≤ L.STATEMENTS → Reached rows n y r q
  pub kept : L.STATEMENTS < n → (y ≡ x) × (q ≡ r)
