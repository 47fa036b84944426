-- tally's rows by document 01's reading and by the published equations, both by computing: the trace of document 01 (P1). Assumes nothing.
use mathlib.Core.Path.{◌≡◌, refl}
use mathlib.Core.List.{List, [], ◌∷◌, map}
use lib.IntN.{pos, negsuc}
use native.Mathlib.Bridge.{le_by_compare, IsLe}
use Rattle.spec_design.specs.Types.{same_ty, same_type, in_range, in_type}
use Rattle.spec_design.specs.Expression.{items, fold, bind, nth, plainly, sum_type, order_type, type_of_binary, leaf_type, given, given2, type_of}
use Rattle.spec_design.specs.Statement.{size, has, seq_class, class_of, LoopsC}
use Rattle.spec_design.specs.Process.{is_type, fits, typed_act, typed, WellFormed}
use Rattle.spec_semantics.specs.Evaluation.{binary_result, as_integer, apply_binary, leaf_value, evaluate, exact_value}
use Rattle.spec_semantics.specs.Equations.{perform, holds, log, then, acted, tested, pick, start, resume, at, enter, cycle}
use Rattle.spec_semantics.specs.Rows.{Call, Kept, Outcome, performed, operator_refused, kept_at_first, wrong_value, row_refusal, concluded, judged, row, rows_from}
use Rattle.spec_semantics.specs.Rows.{rows}
use Rattle.spec_semantics.specs.Effects.{and_then}
use Rattle.spec_semantics.specs.Published.{PRIMREC_option, PRIMREC_sum, ◌⇒◌∣◌, SIGNAL_ASSIGNMENT, VARIABLE_ASSIGNMENT, «WAIT», SEQ_AC, SEQ_BC}
use Rattle.spec_semantics.specs.Published.{WHILE_C, CLOSE_C}
use Rattle.spec_semantics.specs.Denotation.{raised, performing, act_sem, wait_sem, condition_sem, sem, process}
use Rattle.spec_semantics.specs.Automaton.{states_over}
use Rattle.spec_semantics.specs.PublishedRows.{concluded_published, judged_published, published_from, published_rows}
use Rattle.spec_semantics.specs.Calls.{Called}
use Rattle.spec_semantics.specs.Calls as C
use Rattle.spec_semantics.specs.Comparison.{seen_all}
use Rattle.spec_semantics.specs.PrintedRows.{printed_from, printed_rows, of_performed, row_answers}
use Rattle.spec_semantics.specs.Tally.{tally, tally_calls}

-- "0 2 3 0", "1 2 3 0", "2 5 4 14", "3 2 3 14", "4 refused 16", "5 2 3 14": output row and way, and what is kept
abbrev trace : List (Outcome × Kept)
trace =
    (performed (pos 0 ∷ []) (0 ∷ 1 ∷ 2 ∷ []), record { place = at 2; memory = record { outputs = pos 0 ∷ []; variables = pos 7 ∷ [] } })
    ∷ (performed (pos 0 ∷ []) (0 ∷ 1 ∷ 2 ∷ []), record { place = at 2; memory = record { outputs = pos 0 ∷ []; variables = pos 14 ∷ [] } })
    ∷ (performed (pos 14 ∷ []) (0 ∷ 3 ∷ 4 ∷ 5 ∷ []), record { place = at 5; memory = record { outputs = pos 14 ∷ []; variables = pos 0 ∷ [] } })
    ∷ (performed (pos 14 ∷ []) (0 ∷ 1 ∷ 2 ∷ []), record { place = at 2; memory = record { outputs = pos 14 ∷ []; variables = negsuc 4 ∷ [] } })
    ∷ (operator_refused 16 1, record { place = at 2; memory = record { outputs = pos 14 ∷ []; variables = negsuc 4 ∷ [] } })
    ∷ (performed (pos 14 ∷ []) (0 ∷ 1 ∷ 2 ∷ []), record { place = at 2; memory = record { outputs = pos 14 ∷ []; variables = pos 15 ∷ [] } })
    ∷ []

pub tally_rows : rows tally tally_calls ≡ trace
unfolding rows rows_from tally_calls tally row judged row_refusal wrong_value in_type in_range concluded cycle then enter kept_at_first start resume tested holds bind
    evaluate fold apply_binary as_integer binary_result leaf_value perform acted log pick has size
tally_rows = refl

pub tally_published : published_rows tally tally_calls ≡ trace
unfolding published_rows published_from tally_calls tally judged_published concluded_published row_refusal wrong_value in_type in_range process sem class_of seq_class
    act_sem wait_sem condition_sem performing raised and_then PRIMREC_option PRIMREC_sum ◌⇒◌∣◌ SIGNAL_ASSIGNMENT VARIABLE_ASSIGNMENT «WAIT» SEQ_AC
    SEQ_BC WHILE_C CLOSE_C bind evaluate fold apply_binary as_integer binary_result leaf_value size
tally_published = refl

-- tally is a well-formed process, so that every theorem about well-formed processes speaks of it.
pub tally_well_formed : WellFormed tally
unfolding tally size seq_class class_of LoopsC IsLe typed typed_act fits is_type items type_of given given2 leaf_type plainly nth type_of_binary sum_type order_type
    same_type same_ty in_type in_range
tally_well_formed =
    record {
      inputs = le_by_compare 1 16 tt;
      outputs = le_by_compare 1 16 tt;
      variables = le_by_compare 1 32 tt;
      statements = le_by_compare 6 512 tt;
      initial_outputs = (refl, tt);
      initial_variables = (refl, tt);
      typed = refl;
      class = refl;
      loops = ((refl, (tt, tt)), (tt, (tt, tt)));
    }

-- the same calls, each with an output row of one 99
abbrev lent : List C.Call
lent = map (λ (c : Call). record { inputs = c.inputs; outputs = pos 99 ∷ [] }) tally_calls

-- what the equations' outcomes come to as answers of calls: ways, the refusal's number and place
pub tally_answers : map (λ (r : Called). r.answer) (seen_all trace lent)
    ≡ C.performed (0 ∷ 1 ∷ 2 ∷ []) ∷ C.performed (0 ∷ 1 ∷ 2 ∷ []) ∷ C.performed (0 ∷ 3 ∷ 4 ∷ 5 ∷ []) ∷ C.performed
    (0 ∷ 1 ∷ 2 ∷ []) ∷ C.not_performed 16 1 ∷ C.performed (0 ∷ 1 ∷ 2 ∷ []) ∷ []
unfolding seen_all tally_calls
tally_answers = refl

-- .. and as output rows: a refused call leaves the row as it was lent
pub tally_left : map (λ (r : Called). r.row) (seen_all trace lent)
    ≡ (pos 0 ∷ []) ∷ (pos 0 ∷ []) ∷ (pos 14 ∷ []) ∷ (pos 14 ∷ []) ∷ (pos 99 ∷ []) ∷ (pos 14 ∷ []) ∷ []
unfolding seen_all tally_calls
tally_left = refl

-- of the calls, the one that is refused is dropped: rows 7, 7, 1, -5, 20 are left
pub tally_performed : of_performed (row_answers trace) (map (λ (c : Call). c.inputs) tally_calls)
    ≡ (pos 7 ∷ []) ∷ (pos 7 ∷ []) ∷ (pos 1 ∷ []) ∷ (negsuc 4 ∷ []) ∷ (pos 20 ∷ []) ∷ []
unfolding of_performed tally_calls
tally_performed = refl

-- over these the printed equations keep what is kept after the calls that are performed
pub tally_printed : printed_rows tally ((pos 7 ∷ []) ∷ (pos 7 ∷ []) ∷ (pos 1 ∷ []) ∷ (negsuc 4 ∷ []) ∷ (pos 20 ∷ []) ∷ [])
    ≡ of_performed (row_answers trace) (map (λ (r : Outcome × Kept). r.1) trace)
unfolding of_performed printed_rows printed_from states_over tally process sem class_of seq_class act_sem wait_sem condition_sem performing PRIMREC_option
    PRIMREC_sum ◌⇒◌∣◌ SIGNAL_ASSIGNMENT VARIABLE_ASSIGNMENT «WAIT» SEQ_AC SEQ_BC WHILE_C CLOSE_C exact_value fold binary_result leaf_value size
tally_printed = refl
