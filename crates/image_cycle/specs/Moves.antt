-- What a cycle answers and leaves, as the format's definition of a call has it (document 01, "State", "Turned back"). Assumes nothing.
use Rattle.std.specs.Prelude.{◌≡◌, cond, List, ◌++◌, ℕ, length, take, drop, ℤ}
use Rattle.base_answers.specs.Answers.{Told, is_done, cycle_told}
use Rattle.spec_semantics.specs.Calls.{Called}
use Rattle.spec_semantics.specs.Advances.{cycle_answer}
use Rattle.base_answers.specs.declared.Advanced.{Advanced}

-- "the output row gets all outputs": the row o after a cycle that answers c and leaves the output slots v; "Buffers .. are untouched" where it is refused
abbrev pub row_after : Told ℕ → List ℤ → List ℤ → List ℤ
row_after c v o = cond (is_done c) (take (length o) v ++ drop (length v) o) o

-- the answer and the state r are those of the call c
pub record Moves (c : Called) (r : Advanced) : Type 0 where
  pub answer : cycle_told r.answer ≡ cycle_answer c.answer
  pub state : r.state ≡ c.state
