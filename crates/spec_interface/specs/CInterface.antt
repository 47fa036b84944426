-- The C interface (include/rabtishu.h): what each of its functions hands out and leaves, by the definitions that the demands speak of. Assumes nothing.
use Rattle.std.specs.Prelude.{cond, List, [], ◌∷◌, ◌++◌, ℕ, get_or, take, drop, length, ℤ, pos, negsuc, ltb}
use Rattle.base_answers.specs.Answers.{Told, done, refusal}
use Rattle.base_answers.specs.Numbers.{numbers_of, uncounted}
use Rattle.base_answers.specs.declared.State.{State}
use Rattle.spec_language.specs.Lexer.{token_at}
use Rattle.spec_semantics.specs.Records.{Started, fresh, not_started}
use Rattle.spec_semantics.specs.Calls.{Answer, performed, not_performed, Called, Call}
use Rattle.spec_semantics.specs.Advances.{cycle_answer}
use Rattle.spec_format.specs.Opening.{Opened, opened, not_opened, open_of}
use Rattle.spec_format.specs.State.{fresh_of}
use Rattle.spec_format.specs.Cycle.{cycle_of}
use Rattle.spec_format.specs.Batch.{Batch, batch_of}
use Rattle.spec_behaviour.specs.Direct.{direct_of, direct_fresh}
use Rattle.spec_interface.specs.Compile.{compile_of}

-- "A place (512 for the beginning, else a wait's line)": a number outside 0 to 65535 is read as 65535, which is neither 512 nor a wait's line and so is
-- refused by 15 where 14 does not come first
abbrev pub place_of_c : ℤ → ℕ
place_of_c (pos n) = cond (ltb n 65536) n 65535
place_of_c (negsuc n) = 65535

-- "A place .., 16 output and 32 variable slots": the state record of 49 numbers
abbrev pub state_of_c : List ℤ → State
state_of_c l = record { place = place_of_c (get_or l 0 (pos 0)); outputs = take 16 (drop 1 l); variables = take 32 (drop 17 l) }

-- the 49 numbers of a state record
abbrev pub c_of_state : State → List ℤ
c_of_state s = pos s.place ∷ s.outputs ++ s.variables

-- what is left of the caller's memory by a function that takes the 49 numbers: the three numbers, the 49 numbers, the output row
pub record Left : Type 0 where
  pub answer : List ℕ
  pub slots : List ℤ
  pub row : List ℤ

-- "Buffers and state are untouched": the 49 numbers l after a cycle that leaves the record s
abbrev pub cycled_slots : Answer → State → List ℤ → List ℤ
cycled_slots (performed way) s l = c_of_state s
cycled_slots (not_performed q k) s l = l

-- a cycle on the 49 numbers l, by what comes of a state record
abbrev pub cycle_left : (State → Called) → List ℤ → Left
cycle_left call l =
    let r = call (state_of_c l) in record { answer = numbers_of (cycle_answer r.answer); slots = cycled_slots r.answer r.state l; row = r.row }

-- rabtishu_cycle
abbrev pub cycle_in_c : List ℕ → List ℤ → List ℤ → List ℤ → Left
cycle_in_c image l i o = cycle_left (λ s. cycle_of image s i o) l

-- rabtishu_direct
abbrev pub direct_in_c : List ℕ → List ℤ → List ℤ → List ℤ → Left
direct_in_c text l i o = cycle_left (λ s. direct_of text s (record { inputs = i; outputs = o })) l

-- the three numbers and the 49 numbers, l before, of a fresh state asked for
abbrev pub start_left : Started → List ℤ → List ℕ × List ℤ
start_left (fresh s) l = (numbers_of (done 0), c_of_state s)
start_left (not_started q k) l = (numbers_of (refusal q k), l)

-- rabtishu_fresh
abbrev pub fresh_in_c : List ℕ → List ℤ → List ℕ × List ℤ
fresh_in_c image l = start_left (fresh_of image) l

-- rabtishu_direct_fresh
abbrev pub direct_fresh_in_c : List ℕ → List ℤ → List ℕ × List ℤ
direct_fresh_in_c text l = start_left (direct_fresh text) l

-- rabtishu_compile: the three numbers, and the buffer as it is left
abbrev pub compile_in_c : List ℕ → List ℕ → List ℕ × List ℕ
compile_in_c text buffer = let c = compile_of text buffer in (numbers_of c.answer, c.buffer)

-- rabtishu_open: nothing is counted
abbrev pub open_numbers : Opened → List ℕ
open_numbers (opened t) = numbers_of (done 0)
open_numbers (not_opened q k) = numbers_of (refusal q k)

abbrev pub open_in_c : List ℕ → List ℕ
open_in_c image = open_numbers (open_of image)

-- rabtishu_token_at: the length of the token that starts at the place
abbrev pub token_in_c : List ℕ → ℕ → ℕ
token_in_c text place = length (token_at text place)

-- a list of calls, each with the 49 numbers that the last one left
unfoldable pub calls_in_c : (List ℤ → List ℤ → List ℤ → Left) → List ℤ → List Call → List Left
calls_in_c f l [] = []
calls_in_c f l (c ∷ cs) = let r = f l c.inputs c.outputs in r ∷ calls_in_c f r.slots cs

-- MANY ROWS IN ONE CALL (document 02, slip 1)

-- the 49 numbers after rows given singly, l before the first: those of the last row that was performed, or as they came
unfoldable pub slots_left : List ℤ → List Called → List ℤ
slots_left l [] = l
slots_left l (r ∷ rs) = slots_left (cycled_slots r.answer r.state l) rs

-- "writing nothing": after a call that is turned away they are as they came
abbrev pub batch_slots : Told (List Called) → List ℤ → List ℤ
batch_slots (done rs) l = slots_left l rs
batch_slots (refusal q k) l = l

-- what is left of the caller's memory: the call's own three numbers, the 49 numbers, all output rows and the three numbers of each row
pub record BatchLeft : Type 0 where
  pub answer : List ℕ
  pub slots : List ℤ
  pub rows : List ℤ
  pub answers : List ℕ

-- by what is left of a state record: the rows have their own counts, the call has none
abbrev pub batch_left : Batch → List ℤ → BatchLeft
batch_left r l = record { answer = numbers_of (uncounted r.answer); slots = batch_slots r.answer l; rows = r.rows; answers = r.answers }

-- rabtishu_cycles
abbrev pub batch_in_c : List ℕ → List ℤ → ℕ → List ℤ → List ℤ → List ℕ → BatchLeft
batch_in_c image l n is os ns = batch_left (batch_of image (state_of_c l) n is os ns) l
