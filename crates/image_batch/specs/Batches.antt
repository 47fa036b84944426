-- What a call with many rows comes to in the code, and each of its rows, by the definitions of format (document 02, slip 1). Assumes nothing.
use Rattle.std.specs.Prelude.{◌≡◌, ◌||◌, List, ℕ, ◌+◌, ◌*◌, ◌≤◌, length, take, drop, ℤ}
use borrow.Rule.Slice.PartMut.{put_mid}
use Rattle.base_answers.specs.declared.State.{State}
use Rattle.base_answers.specs.Answers.{told, is_done}
use Rattle.base_answers.specs.Numbers.{numbers_of}
use Rattle.spec_semantics.specs.Calls.{Called}
use Rattle.spec_semantics.specs.Advances.{cycle_answer}
use Rattle.spec_format.specs.Cycle.{cycle_of}
use Rattle.spec_format.specs.Batch.{rows_left, answers_left, state_left, one_performed, Batch, batch_answer, is_moved}
use Rattle.image_batch.specs.declared.Outcome.{Outcome}
use Rattle.image_batch.specs.declared.Widths.{Widths}
use Rattle.image_batch.specs.declared.Progress.{Progress}

-- the outcome r, and the outputs u and the answers v as they are left, are those of the call c; it says whether a row was performed
pub record Batches (c : Batch) (r : Outcome) (u : List ℤ) (v : List ℕ) : Type 0 where
  pub answer : told r.answer ≡ batch_answer c.answer
  pub state : r.state ≡ c.state
  pub rows : u ≡ c.rows
  pub answers : v ≡ c.answers
  pub performed : r.performed ≡ is_moved c.answer

-- the next row's own parts of inputs, outputs and answers are there
pub record Parts (w : Widths) (p : Progress) (is os : List ℤ) (ns : List ℕ) : Type 0 where
  pub inputs : p.input + w.inputs ≤ length is
  pub outputs : p.output + w.outputs ≤ length os
  pub answers : p.answer + 3 ≤ length ns

-- the call of the row that p stands at, on the image b: its own input values, and its own outputs as they are lent
abbrev pub call_at : List ℕ → Widths → Progress → List ℤ → List ℤ → Called
call_at b w p is os = cycle_of b p.state (take w.inputs (drop p.input is)) (take w.outputs (drop p.output os))

-- one row more: the call c from where p stands, whose row and three numbers are put into their own parts of the outputs os and the answers ns; u and v are these
-- as they are left
pub record Steps (c : Called) (w : Widths) (p q : Progress) (os u : List ℤ) (ns v : List ℕ) : Type 0 where
  pub input : q.input ≡ p.input + w.inputs
  pub output : q.output ≡ p.output + w.outputs
  pub answer : q.answer ≡ p.answer + 3
  pub performed : q.performed ≡ (p.performed || is_done (cycle_answer c.answer))
  pub state : q.state ≡ c.state
  pub rows : u ≡ put_mid p.output w.outputs os c.row
  pub answers : v ≡ put_mid p.answer 3 ns (numbers_of (cycle_answer c.answer))

-- the three lengths are the due of n rows
pub record Due (w : Widths) (n : ℕ) (is os : List ℤ) (ns : List ℕ) : Type 0 where
  pub inputs : length is ≡ n * w.inputs
  pub outputs : length os ≡ n * w.outputs
  pub answers : length ns ≡ n * 3

-- all rows: the calls rs from the state s
pub record Runs (rs : List Called) (s : State) (q : Progress) (u : List ℤ) (v : List ℕ) : Type 0 where
  pub performed : q.performed ≡ one_performed rs
  pub state : q.state ≡ state_left s rs
  pub rows : u ≡ rows_left rs
  pub answers : v ≡ answers_left rs
