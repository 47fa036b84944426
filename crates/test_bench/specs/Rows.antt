-- Many rows run one after another, from the fresh state: the lines performed in all, and the output row at the end (document 01, "State"). One definition
-- for the table and for the direct run; which of the two is told by the call that it is given. Assumes nothing.
use Rattle.std.specs.Prelude.{◌≡◌, cond, List, [], ◌∷◌, ℕ, zero, suc, ◌+◌, length, take, drop, ℤ, leb}
use Rattle.base_answers.specs.declared.State.{State}
use Rattle.spec_semantics.specs.Calls.{Called, Call}
use Rattle.spec_behaviour.specs.Direct.{direct_of}
use Rattle.direct_cycle.specs.Calls.{call_of}
use Rattle.image_runtime.specs.Calls.{way_of}
use Rattle.test_bench.specs.declared.Progress.{Progress}

-- a call of a cycle: a state, an input row and an output row as it is lent, to what the call leaves
abbrev pub Cycle : Type 0
Cycle = State → List ℤ → List ℤ → Called

-- the direct run of a text, as such a call
abbrev pub direct_cycle : List ℕ → Cycle
direct_cycle text s i o = direct_of text s (call_of i o)

-- the first rows of w values each, at most n of them; values that do not fill a row make none
unfoldable pub rows_of : ℕ → ℕ → List ℤ → List (List ℤ)
rows_of zero w l = []
rows_of (suc n) w l = cond (leb w (length l)) (take w l ∷ rows_of n w (drop w l)) []

-- what each row comes to: the first from the state s with the output row o lent, each other one from what the row before it left
unfoldable pub called_on : Cycle → State → List ℤ → List (List ℤ) → List Called
called_on f s o [] = []
called_on f s o (i ∷ is) = let r = f s i o in r ∷ called_on f r.state r.row is

-- those rows as calls: each with its input row, and the output row as it is lent
unfoldable pub made_on : Cycle → State → List ℤ → List (List ℤ) → List Call
made_on f s o [] = []
made_on f s o (i ∷ is) = let r = f s i o in call_of i o ∷ made_on f r.state r.row is

-- "the number of lines performed", of all calls together; "A refused cycle answers 0 lines."
unfoldable pub lines_in : List Called → ℕ
lines_in [] = 0
lines_in (r ∷ rs) = length (way_of r.answer) + lines_in rs

-- the output row o after all calls
unfoldable pub row_after : List ℤ → List Called → List ℤ
row_after o [] = o
row_after o (r ∷ rs) = row_after r.row rs

-- a count as the answer tells it: one above the largest number of 64 bits is told as that number
unfoldable pub told : ℕ → ℕ
told n = cond (leb n 18446744073709551615) n 18446744073709551615

-- the answer k and the output row u as it is left are those of at most n rows of w values from l, from the state s, with the output row o lent
pub record Runs (f : Cycle) (s : State) (l : List ℤ) (w n : ℕ) (o : List ℤ) (k : ℕ) (u : List ℤ) : Type 0 where
  pub lines : k ≡ told (lines_in (called_on f s o (rows_of n w l)))
  pub row : u ≡ row_after o (called_on f s o (rows_of n w l))

-- one row more: the lines of the call c are added to those before it, and its state and output row are left
pub record Adds (c : Called) (before : ℕ) (after : Progress) (u : List ℤ) : Type 0 where
  pub lines : after.lines ≡ told (before + length (way_of c.answer))
  pub state : after.state ≡ c.state
  pub row : u ≡ c.row
