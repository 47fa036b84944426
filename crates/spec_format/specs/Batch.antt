-- Many rows in one call on an image (document 02, slip 1): the same rows given singly, and what they leave laid end to end. Assumes nothing.
use Rattle.std.specs.Prelude.{Bool, false, cond, ◌&&◌, ◌||◌, List, [], ◌∷◌, ◌++◌, ℕ, zero, suc, ◌*◌, length, take, drop, ℤ, eqb}
use Rattle.base_answers.specs.declared.State.{State}
use Rattle.base_answers.specs.Answers.{Told, done, refusal, is_done}
use Rattle.base_answers.specs.Numbers.{numbers_of}
use Rattle.spec_semantics.specs.Calls.{Called, Call}
use Rattle.spec_semantics.specs.Advances.{cycle_answer}
use Rattle.spec_format.specs.Signature.{Signature}
use Rattle.spec_format.specs.Opening.{Opened, opened, not_opened, open_of}
use Rattle.spec_format.specs.Cycle.{calls_of}

-- "a row count, all input rows end to end, all output rows": n rows as calls, each with its own i input values and its own o outputs as they are lent
unfoldable pub calls_in : ℕ → ℕ → ℕ → List ℤ → List ℤ → List Call
calls_in zero i o is os = []
calls_in (suc n) i o is os = record { inputs = take i is; outputs = take o os } ∷ calls_in n i o (drop i is) (drop o os)

-- what calls leave, laid end to end: their output rows
unfoldable pub rows_left : List Called → List ℤ
rows_left [] = []
rows_left (r ∷ rs) = r.row ++ rows_left rs

-- "three numbers per row as answer (refusal number or 0, its place or 0, lines)"
unfoldable pub answers_left : List Called → List ℕ
answers_left [] = []
answers_left (r ∷ rs) = numbers_of (cycle_answer r.answer) ++ answers_left rs

-- and the state after the last of them, s before the first
unfoldable pub state_left : State → List Called → State
state_left s [] = s
state_left s (r ∷ rs) = state_left r.state rs

-- what a call with many rows leaves: what each row came to, or the call's own number and place; state, outputs and answers as they are left
pub record Batch : Type 0 where
  pub answer : Told (List Called)
  pub state : State
  pub rows : List ℤ
  pub answers : List ℕ

-- 17: "an input, output or answer length that is not the count's due". The products are those of numbers without end: no count wraps.
unfoldable pub due : Signature → ℕ → List ℤ → List ℤ → List ℕ → Bool
due σ n is os ns = eqb (length is) (n * length σ.inputs) && (eqb (length os) (n * length σ.outputs) && eqb (length ns) (n * 3))

-- "after 13, before 14", "place 0"; then the rows, each from the state that the one before it left
abbrev pub rows_run_on : Opened → List ℕ → State → ℕ → List ℤ → List ℤ → List ℕ → Told (List Called)
rows_run_on (opened t) b s n is os ns =
    cond (due t.signature n is os ns) (done (calls_of b s (calls_in n (length t.signature.inputs) (length t.signature.outputs) is os))) (refusal 17 0)
rows_run_on (not_opened q k) b s n is os ns = refusal q k

-- "The result must equal the same rows given singly"; turned away "writing nothing"
abbrev pub laid_out : Told (List Called) → State → List ℤ → List ℕ → Batch
laid_out (done rs) s os ns = record { answer = done rs; state = state_left s rs; rows = rows_left rs; answers = answers_left rs }
laid_out (refusal q k) s os ns = record { answer = refusal q k; state = s; rows = os; answers = ns }

-- THE EQUATION: a call on the bytes b with the state s, the count n, the inputs is, and the outputs os and the answers ns as they are lent
unfoldable pub batch_of : List ℕ → State → ℕ → List ℤ → List ℤ → List ℕ → Batch
batch_of b s n is os ns = laid_out (rows_run_on (open_of b) b s n is os ns) s os ns

-- the call's own answer: it was taken, or number and place
abbrev pub batch_answer : Told (List Called) → Told (Unit {0})
batch_answer (done rs) = done tt
batch_answer (refusal q k) = refusal q k

-- whether one of the calls was performed
unfoldable pub one_performed : List Called → Bool
one_performed [] = false
one_performed (r ∷ rs) = is_done (cycle_answer r.answer) || one_performed rs

-- whether a row of the call was performed; only then is a state stored
abbrev pub is_moved : Told (List Called) → Bool
is_moved (done rs) = one_performed rs
is_moved (refusal q k) = false
