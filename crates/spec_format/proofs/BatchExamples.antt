-- Many rows in one call, computed on an image of two waits with two inputs and one output: each row has its own part of the lists and goes on from the state
-- that
-- the one before it left, and each of the three lengths is held to the count. Assumes nothing.
use mathlib.Core.Path.{◌≡◌, refl}
use mathlib.Core.Bool.{Bool, true, false}
use mathlib.Core.List.{List, [], ◌∷◌}
use mathlib.Core.Option.{bind as and_then}
use Prim.Native.Nat.{ℕ}
use lib.ListN.{replicate}
use lib.IntN.{ℤ, pos}
use Rattle.base_answers.specs.Answers.{Told, done, refusal}
use Rattle.base_answers.specs.declared.State.{State}
use Rattle.spec_design.specs.Types.{in_range, in_type}
use Rattle.spec_design.specs.Expression.{nth}
use Rattle.spec_semantics.specs.Equations.{log, then}
use Rattle.spec_semantics.specs.Rows.{wrong_value}
use Rattle.spec_semantics.specs.Records.{zeros, slots_ok, pad, state_for}
use Rattle.spec_format.specs.Walk.{step, walk, from, table_cycle}
use Rattle.spec_format.specs.Code.{operations, onto, run, run_operations, run_code, with_type, value_of, decode}
use Rattle.spec_format.specs.Signature.{read_types, read_cells, signature_of}
use Rattle.spec_format.specs.Good.{good_line}
use Rattle.spec_format.specs.Opening.{read_sections, read_image, whole_lines, sections_of, raws, line_of, open_line, open_lines, open_table, open_sections, open_of}
use Rattle.spec_format.specs.State.{place_allowed, state_ok, memory_of}
use Rattle.spec_format.specs.Cycle.{row_place, table_row, row_of, cycle_of, calls_of}
use Rattle.spec_format.specs.Batch.{Batch, calls_in, rows_left, answers_left, state_left, due, batch_of, batch_answer, one_performed, is_moved}

-- the pairs (28, 10), (38, 24), (62, 0); the types std_logic and integer of the inputs, the output an integer that begins as 7; wait, wait
abbrev bytes : List ℕ
bytes =
    1 ∷ 0 ∷ 3 ∷ 0
    ∷ 28 ∷ 0 ∷ 0 ∷ 0 ∷ 10 ∷ 0 ∷ 0 ∷ 0
    ∷ 38 ∷ 0 ∷ 0 ∷ 0 ∷ 24 ∷ 0 ∷ 0 ∷ 0
    ∷ 62 ∷ 0 ∷ 0 ∷ 0 ∷ 0 ∷ 0 ∷ 0 ∷ 0
    ∷ 2 ∷ 1 ∷ 0 ∷ 0 ∷ 1 ∷ 1 ∷ 7 ∷ 0 ∷ 0 ∷ 0
    ∷ 0 ∷ 0 ∷ 0 ∷ 0 ∷ 0 ∷ 0 ∷ 1 ∷ 0 ∷ 0 ∷ 0 ∷ 0 ∷ 0
    ∷ 0 ∷ 0 ∷ 0 ∷ 0 ∷ 0 ∷ 0 ∷ 0 ∷ 0 ∷ 0 ∷ 0 ∷ 0 ∷ 0 ∷ []

abbrev state : ℕ → State
state p = record { place = p; outputs = pos 7 ∷ replicate 15 (pos 0); variables = replicate 32 (pos 0) }

-- what a call leaves: its own answer and whether a row was performed; the state, the output rows and the three numbers of each row
abbrev leaves : Batch → Told (Unit {0}) × Bool × State × List ℤ × List ℕ
leaves b = (batch_answer b.answer, is_moved b.answer, b.state, b.rows, b.answers)

unfoldable computed : List ℕ → State → ℕ → List ℤ → List ℤ → List ℕ → Batch
unfolding read_sections read_image whole_lines sections_of and_then read_types read_cells signature_of raws line_of open_line open_lines open_table open_sections open_of
    decode run_code run_operations run operations onto with_type value_of good_line nth in_type in_range state_for pad memory_of cycle_of calls_of row_of row_place
    wrong_value state_ok place_allowed slots_ok zeros table_row table_cycle walk step from then log calls_in rows_left answers_left state_left due batch_of one_performed
computed b s n is os ns = batch_of b s n is os ns

-- the first row stops at line 0; the second has a first value that is no std_logic value, and keeps its own output; the third stops at line 1
own_parts : leaves (batch_of bytes (state 512) 3 (pos 0 ∷ pos 5 ∷ pos 2 ∷ pos 5 ∷ pos 1 ∷ pos 6 ∷ []) (pos 90 ∷ pos 91 ∷ pos 92 ∷ []) (replicate 9 77))
    ≡ (done tt, true, state 1, pos 7 ∷ pos 91 ∷ pos 7 ∷ [], 0 ∷ 0 ∷ 1 ∷ 14 ∷ 0 ∷ 0 ∷ 0 ∷ 0 ∷ 1 ∷ [])
unfolding computed
own_parts = refl

-- a place that is no wait: 15 for every row, and none was performed
none_performed : leaves (batch_of bytes (state 9) 2 (pos 0 ∷ pos 5 ∷ pos 1 ∷ pos 6 ∷ []) (pos 90 ∷ pos 91 ∷ []) (replicate 6 77))
    ≡ (done tt, false, state 9, pos 90 ∷ pos 91 ∷ [], 15 ∷ 0 ∷ 0 ∷ 15 ∷ 0 ∷ 0 ∷ [])
unfolding computed
none_performed = refl

-- 17 for each of the three lengths
abbrev away : List ℤ → List ℕ → Told (Unit {0}) × Bool × State × List ℤ × List ℕ
away os ns = (refusal 17 0, false, state 512, os, ns)

not_due : leaves (batch_of bytes (state 512) 2 (replicate 3 (pos 0)) (replicate 2 (pos 9)) (replicate 6 77))
    ∷ leaves (batch_of bytes (state 512) 2 (replicate 4 (pos 0)) (replicate 3 (pos 9)) (replicate 6 77))
    ∷ leaves (batch_of bytes (state 512) 2 (replicate 4 (pos 0)) (replicate 2 (pos 9)) (replicate 5 77))
    ∷ []
    ≡ away (replicate 2 (pos 9)) (replicate 6 77) ∷ away (replicate 3 (pos 9)) (replicate 6 77) ∷ away (replicate 2 (pos 9)) (replicate 5 77) ∷ []
unfolding computed
not_due = refl
