-- What was promised of many rows in one call on an image (document 02, slip 1), for every image, state record, count, input rows, output rows and answers as
-- they are lent. `batch_of` is the definition that stands in the `ensures` of the code that takes such a call, `batch_in_c` that of rabtishu_cycles. Assumes nothing.
use Rattle.std.specs.Prelude.{◌≡◌, false, ◌↔◌, List, [], ◌∷◌, ◌++◌, map, ℕ, zero, suc, ◌*◌, ◌≤◌, length, get_or, take, drop, ℤ, Ok, Result}
use Rattle.base_answers.specs.Answers.{done, refusal, told}
use Rattle.base_answers.specs.declared.Refusal as declared
use Rattle.base_answers.specs.declared.State.{State}
use Rattle.spec_design.specs.Process.{Process}
use Rattle.spec_language.specs.Validity.{Valid}
use Rattle.spec_semantics.specs.Rows.{kept_at_first}
use Rattle.spec_semantics.specs.Records.{fresh}
use Rattle.spec_semantics.specs.Calls.{Called}
use Rattle.spec_semantics.specs.Comparison.{laid, equation_calls}
use Rattle.spec_format.specs.Image.{Table}
use Rattle.spec_format.specs.Opening.{opened, open_of}
use Rattle.spec_format.specs.Refusals.{Refusal}
use Rattle.spec_format.specs.State.{fresh_of}
use Rattle.spec_format.specs.Cycle.{cycle_of, calls_of}
use Rattle.spec_format.specs.Batch.{Batch, calls_in, rows_left, answers_left, state_left, batch_of, batch_answer, is_moved}
use Rattle.spec_interface.specs.Compile.{compile_of}
use Rattle.spec_interface.specs.CInterface.{Left, BatchLeft, c_of_state, compile_in_c, fresh_in_c, cycle_in_c, calls_in_c, batch_in_c}
use Rattle.spec_promises.specs.Promises.{RefusedAs, refused_numbers, done_numbers, answer_in_c, seen_in_c}

-- "the count's due": i input values, o outputs and three numbers for each of n rows
pub record Due (i o n : ℕ) (is os : List ℤ) (ns : List ℕ) : Type 0 where
  pub inputs : length is ≡ n * i
  pub outputs : length os ≡ n * o
  pub answers : length ns ≡ n * 3

-- of an opened table
abbrev pub DueTo : Table → ℕ → List ℤ → List ℤ → List ℕ → Type 0
DueTo t n is os ns = Due (length t.signature.inputs) (length t.signature.outputs) n is os ns

-- the clauses for a call that is turned away: 11 to 13 of the image; where it opens, 17, "an input, output or answer length that is not the count's due,
-- place 0"
pub data BatchRefused (image : List ℕ) (n : ℕ) (is os : List ℤ) (ns : List ℕ) (q k : ℕ) : Type 0 where
  by_image : Refusal image q k → BatchRefused image n is os ns q k
  by_length : (t : Table) → open_of image ≡ opened t → (DueTo t n is os ns → ⊥) → q ≡ 17 → k ≡ 0 → BatchRefused image n is os ns q k

-- what calls leave from the state s on, laid end to end
abbrev pub end_to_end : State → List Called → Batch
end_to_end s rs = record { answer = done rs; state = state_left s rs; rows = rows_left rs; answers = answers_left rs }

-- what a call comes to, as demand 1 has it: turned away, "writing nothing"; or its rows, each from the state that the one before it left
pub data Comes (image : List ℕ) (s : State) (n : ℕ) (is os : List ℤ) (ns : List ℕ) : Batch → Type 0 where
  turned_away : (q k : ℕ) → BatchRefused image n is os ns q k → Comes image s n is os ns (record { answer = refusal q k; state = s; rows = os; answers = ns })
  takes : (t : Table) → open_of image ≡ opened t → DueTo t n is os ns
      → Comes image s n is os ns (end_to_end s (calls_of image s (calls_in n (length t.signature.inputs) (length t.signature.outputs) is os)))

-- a call of many rows, by its first row given singly and the call of the other rows: its state is the one that the others leave; in front of their output
-- rows stands the first row's own, in front of their answers its three numbers, "refusal number or 0, its place or 0, lines"
pub record Follows (first : Called) (others whole : Batch) : Type 0 where
  pub state : whole.state ≡ others.state
  pub rows : whole.rows ≡ first.row ++ others.rows
  pub answers : whole.answers ≡ answer_in_c first.answer ++ others.answers
  pub taken : (rs : List Called) × (others.answer ≡ done rs) × (whole.answer ≡ done (first ∷ rs))

-- count 0 changes nothing; else the first row is a single call with the first i input values and the first o outputs, and the others are a call on the state
-- that it left, with the lists that are left
abbrev pub Singly : List ℕ → ℕ → ℕ → State → ℕ → List ℤ → List ℤ → List ℕ → Type 0
Singly image i o s zero is os ns = batch_of image s zero is os ns ≡ record { answer = done []; state = s; rows = os; answers = ns }
Singly image i o s (suc n) is os ns =
    let r = cycle_of image s (take i is) (take o os) in
    Follows r (batch_of image r.state n (drop i is) (drop o os) (drop 3 ns)) (batch_of image s (suc n) is os ns)

-- ON ANY IMAGE
pub record Batched (image : List ℕ) (s : State) (n : ℕ) (is os : List ℤ) (ns : List ℕ) : Type 0 where
  -- every call is taken or turned away
  pub comes : Comes image s n is os ns (batch_of image s n is os ns)
  -- "Turned away: 17 ..; after 13, before 14": 11, 12, 13, then 17, and the call as a whole by no other number
  pub refused : (q k : ℕ) → ((batch_of image s n is os ns).answer ≡ refusal q k) ↔ BatchRefused image n is os ns q k
  -- the place is the image's, or 0: at most 512
  pub place : (q k : ℕ) → (batch_of image s n is os ns).answer ≡ refusal q k → k ≤ 512
  -- "writing nothing"
  pub untouched : (q k : ℕ) → (batch_of image s n is os ns).answer ≡ refusal q k
      → batch_of image s n is os ns ≡ record { answer = refusal q k; state = s; rows = os; answers = ns }
  -- "The result must equal the same rows given singly": the list of calls, each from the state that the one before it left
  pub taken : (t : Table) → open_of image ≡ opened t → DueTo t n is os ns
      → batch_of image s n is os ns ≡ end_to_end s (calls_of image s (calls_in n (length t.signature.inputs) (length t.signature.outputs) is os))
  -- the same, one row after another
  pub singly : (t : Table) → open_of image ≡ opened t → DueTo t n is os ns
      → Singly image (length t.signature.inputs) (length t.signature.outputs) s n is os ns
  -- what is written has the lengths of what is lent, whatever the call came to
  pub long : (length (batch_of image s n is os ns).rows ≡ length os) × (length (batch_of image s n is os ns).answers ≡ length ns)
  -- "three numbers per row": each at most 512, so that the 32 bits of an answer lose nothing
  pub small : (t : Table) → open_of image ≡ opened t → DueTo t n is os ns → (k : ℕ) → get_or (batch_of image s n is os ns).answers k 0 ≤ 512
  -- where no row was performed, state and output rows are as they came
  pub kept : is_moved (batch_of image s n is os ns).answer ≡ false → ((batch_of image s n is os ns).state ≡ s) × ((batch_of image s n is os ns).rows ≡ os)

-- AN ANSWER THAT IS AN ENUM: an answer of the code that tells what is told of the definition's, as its contract has it
pub record BatchTold : Type 0 where
  pub taken : (r : Result (Unit {0}) declared.Refusal) (rs : List Called) → told r ≡ batch_answer (done rs) → r ≡ Ok tt
  pub refused : (r : Result (Unit {0}) declared.Refusal) (q k : ℕ) → told r ≡ batch_answer (refusal q k) → RefusedAs r q k

-- ON WHAT A COMPILE WROTE, m bytes: the widths are the numbers of the text's inputs and outputs; from the fresh state the rows are those of the text's
-- equations, laid end to end; from any state record, lengths that are not due are turned away
pub record BatchOfText (text buffer : List ℕ) (m : ℕ) : Type 0 where
  pub process : Process
  pub valid : Valid text process
  pub state : State
  pub starts : fresh_of (take m (compile_of text buffer).buffer) ≡ fresh state
  pub same : (n : ℕ) (is os : List ℤ) (ns : List ℕ) → Due (length process.inputs) (length process.outputs) n is os ns
      → batch_of (take m (compile_of text buffer).buffer) state n is os ns
      ≡ end_to_end state (equation_calls process (kept_at_first process) (calls_in n (length process.inputs) (length process.outputs) is os))
  pub not_due : (s : State) (n : ℕ) (is os : List ℤ) (ns : List ℕ) → (Due (length process.inputs) (length process.outputs) n is os ns → ⊥)
      → batch_of (take m (compile_of text buffer).buffer) s n is os ns ≡ record { answer = refusal 17 0; state = s; rows = os; answers = ns }

-- IN C: what single calls leave of the caller's memory, laid end to end; of the 49 numbers, l before the first call, those that the last one left
unfoldable pub slots_after : List ℤ → List Left → List ℤ
slots_after l [] = l
slots_after l (x ∷ xs) = slots_after x.slots xs

unfoldable pub rows_after : List Left → List ℤ
rows_after [] = []
rows_after (x ∷ xs) = x.row ++ rows_after xs

unfoldable pub answers_after : List Left → List ℕ
answers_after [] = []
answers_after (x ∷ xs) = x.answer ++ answers_after xs

-- a call that is taken: 0, 0, 0
abbrev pub end_to_end_in_c : List ℤ → List Left → BatchLeft
end_to_end_in_c l xs = record { answer = done_numbers 0; slots = slots_after l xs; rows = rows_after xs; answers = answers_after xs }

-- rabtishu_cycles on any bytes and any 49 numbers
pub record BatchInC (image : List ℕ) (l : List ℤ) (n : ℕ) (is os : List ℤ) (ns : List ℕ) : Type 0 where
  -- "writing nothing": number, place, 0, and all else as it came
  pub refused : (q k : ℕ) → BatchRefused image n is os ns q k
      → batch_in_c image l n is os ns ≡ record { answer = refused_numbers q k; slots = l; rows = os; answers = ns }
  -- "The result must equal the same rows given singly": to rabtishu_cycle, each call with the 49 numbers that the one before it left
  pub taken : (t : Table) → open_of image ≡ opened t → DueTo t n is os ns
      → batch_in_c image l n is os ns ≡ end_to_end_in_c l
      (calls_in_c (cycle_in_c image) l (calls_in n (length t.signature.inputs) (length t.signature.outputs) is os))

-- rabtishu_cycles on what rabtishu_compile wrote, m bytes, from the 49 numbers that rabtishu_fresh leaves: the rows of the text's equations
pub record BatchOfTextInC (text buffer : List ℕ) (m : ℕ) : Type 0 where
  pub process : Process
  pub valid : Valid text process
  pub starts : (l : List ℤ) → fresh_in_c (take m (compile_in_c text buffer).1) l ≡ (done_numbers 0, c_of_state (laid (kept_at_first process)))
  pub same : (n : ℕ) (is os : List ℤ) (ns : List ℕ) → Due (length process.inputs) (length process.outputs) n is os ns
      → batch_in_c (take m (compile_in_c text buffer).1) (c_of_state (laid (kept_at_first process))) n is os ns
      ≡ end_to_end_in_c (c_of_state (laid (kept_at_first process)))
      (map seen_in_c (equation_calls process (kept_at_first process) (calls_in n (length process.inputs) (length process.outputs) is os)))
