-- A call of a cycle, of an image or of a text: its answer, and state and output row as they are left (document 01, "State", "Turned back"). Assumes nothing.
use Rattle.std.proofs.Math.Option.{Option, none, some}
use Rattle.std.specs.Prelude.{List, ℕ, ℤ}
use Rattle.base_answers.specs.declared.State.{State}

-- a call's input row, and its output row as it is lent
pub record Call : Type 0 where
  pub inputs : List ℤ
  pub outputs : List ℤ

-- a cycle performed, with its way: "the number of lines performed" is the way's length; or a refusal's number and place
pub data Answer : Type 0 where
  performed : (way : List ℕ) → Answer
  not_performed : (number place : ℕ) → Answer

-- the answer, with state and output row as they are left
pub record Called : Type 0 where
  pub answer : Answer
  pub state : State
  pub row : List ℤ

-- "Buffers and state are untouched": a refused call hands state and output row back as they came
abbrev pub turned_back : ℕ → ℕ → State → List ℤ → Called
turned_back q k s o = record { answer = not_performed q k; state = s; row = o }

-- refusal 14 at the place k, or what comes after it
abbrev pub unless14 : Option ℕ → State → List ℤ → Called → Called
unless14 none s o r = r
unless14 (some k) s o r = turned_back 14 k s o
