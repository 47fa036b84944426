-- What is told of a call and of a fresh state asked for, and what the code leaves (document 01, "State", "Turned back"). Assumes nothing.
use Rattle.std.specs.Prelude.{◌≡◌, List, [], ℕ, length, ℤ}
use Rattle.base_answers.specs.declared.State.{State}
use Rattle.base_answers.specs.declared.Advanced.{Advanced}
use Rattle.base_answers.specs.Answers.{Told, done, refusal, cycle_told}
use Rattle.spec_semantics.specs.Records.{state_for, Started, fresh, not_started}
use Rattle.spec_semantics.specs.Calls.{Answer, performed, not_performed, Called}

-- "answers the number of lines performed": the length of the way; or number and place
abbrev pub cycle_answer : Answer → Told ℕ
cycle_answer (performed way) = done (length way)
cycle_answer (not_performed q k) = refusal q k

-- the answer and the state r, and the output row o as it is left, are those of the call c
pub record Advances (c : Called) (r : Advanced) (o : List ℤ) : Type 0 where
  pub answer : cycle_told r.answer ≡ cycle_answer c.answer
  pub state : r.state ≡ c.state
  pub row : o ≡ c.row

-- a fresh state is there, or number and place
abbrev pub fresh_answer : Started → Told (Unit {0})
fresh_answer (fresh s) = done tt
fresh_answer (not_started q k) = refusal q k

-- the state beside that answer; where the call is refused, document 01 names none, and it is place 512 with 0 in every slot
abbrev pub start_of : Started → State
start_of (fresh s) = s
start_of (not_started q k) = state_for 512 (record { outputs = []; variables = [] })
