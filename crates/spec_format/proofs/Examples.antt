-- tally, computed: its image, the image opened, its calls with every slot, and damaged images with their refusals. Assumes nothing.
use mathlib.Core.Path.{◌≡◌, refl}
use mathlib.Core.List.{List, [], ◌∷◌, ◌++◌}
use mathlib.Core.Option.{bind as and_then}
use Prim.Native.Nat.{ℕ}
use lib.ListN.{set}
use lib.IntN.{ℤ, pos, negsuc}
use Rattle.base_answers.specs.declared.State.{State}
use Rattle.spec_design.specs.Types.{same_ty, same_type, in_range, in_type}
use Rattle.spec_design.specs.Expression.{items, nth, plainly, bind, fold, leaf_type, given, given2, type_of_unary, type_of_binary, sum_type, order_type, equality_type}
use Rattle.spec_design.specs.Expression.{logical_type, type_of}
use Rattle.spec_design.specs.Statement.{size}
use Rattle.spec_design.specs.Process.{is_type, fits, typed_act}
use Rattle.spec_semantics.specs.Evaluation.{evaluate, leaf_value, apply_unary, apply_binary, unary_result, binary_result, as_integer}
use Rattle.spec_semantics.specs.Equations.{perform, holds, log, then, acted, tested}
use Rattle.spec_semantics.specs.Rows.{wrong_value}
use Rattle.spec_semantics.specs.Tally.{tally}
use Rattle.spec_format.specs.Lines.{lines, lines_of, entry, reaches, reaches_of}
use Rattle.spec_format.specs.Walk.{step, walk, from, table_cycle}
use Rattle.spec_format.specs.Code.{post, operation_bytes, code, operations, onto, run, run_operations, run_code, with_type, value_of, decode}
use Rattle.spec_format.specs.Signature.{type_bytes, cell_bytes, signature_bytes, read_types, read_cells, signature_of}
use Rattle.spec_format.specs.Image.{raws_bytes, code_of_line, code_of_lines, raw_of, raws_of, pairs, joined, image, form1, sections_for, encode_table}
use Rattle.spec_format.specs.Good.{good_line}
use Rattle.spec_format.specs.Opening.{read_sections, read_image, whole_lines, sections_of, raws, line_of, open_line, open_lines, open_table, open_sections, opened}
use Rattle.spec_format.specs.Opening.{not_opened, open_of}
use Rattle.spec_format.specs.State.{place_allowed, state_ok, memory_of, fresh_table, fresh_of}
use Rattle.spec_semantics.specs.Records.{zeros, slots_ok, pad, state_for, fresh}
use Rattle.spec_format.specs.Cycle.{row_place, table_row, row_of, cycle_of, calls_of}
use Rattle.spec_semantics.specs.Calls.{performed, not_performed, Called, turned_back, Call}
use Rattle.spec_format.specs.Encode.{signature_for, table_of, encode}

-- form and count; a row for each pair; the signature; a row for each line; the code
abbrev pub bytes : List ℕ
bytes =
    1 ∷ 0 ∷ 3 ∷ 0
    ∷ 28 ∷ 0 ∷ 0 ∷ 0 ∷ 14 ∷ 0 ∷ 0 ∷ 0
    ∷ 42 ∷ 0 ∷ 0 ∷ 0 ∷ 72 ∷ 0 ∷ 0 ∷ 0
    ∷ 114 ∷ 0 ∷ 0 ∷ 0 ∷ 20 ∷ 0 ∷ 0 ∷ 0
    ∷ 1 ∷ 1 ∷ 1 ∷ 1 ∷ 1 ∷ 0 ∷ 0 ∷ 0 ∷ 0 ∷ 1 ∷ 0 ∷ 0 ∷ 0 ∷ 0
    ∷ 3 ∷ 0 ∷ 0 ∷ 0 ∷ 8 ∷ 0 ∷ 1 ∷ 0 ∷ 3 ∷ 0 ∷ 3 ∷ 0
    ∷ 2 ∷ 0 ∷ 8 ∷ 0 ∷ 5 ∷ 0 ∷ 2 ∷ 0 ∷ 0 ∷ 0 ∷ 1 ∷ 0
    ∷ 0 ∷ 0 ∷ 13 ∷ 0 ∷ 0 ∷ 0 ∷ 0 ∷ 0 ∷ 0 ∷ 0 ∷ 0 ∷ 0
    ∷ 1 ∷ 0 ∷ 13 ∷ 0 ∷ 2 ∷ 0 ∷ 4 ∷ 0 ∷ 0 ∷ 0 ∷ 2 ∷ 0
    ∷ 2 ∷ 0 ∷ 15 ∷ 0 ∷ 5 ∷ 0 ∷ 5 ∷ 0 ∷ 0 ∷ 0 ∷ 1 ∷ 0
    ∷ 0 ∷ 0 ∷ 20 ∷ 0 ∷ 0 ∷ 0 ∷ 0 ∷ 0 ∷ 0 ∷ 0 ∷ 0 ∷ 0
    ∷ 4 ∷ 0 ∷ 1 ∷ 10 ∷ 0 ∷ 0 ∷ 0 ∷ 22 ∷ 4 ∷ 0 ∷ 3 ∷ 0 ∷ 18 ∷ 4 ∷ 0 ∷ 1 ∷ 0 ∷ 0 ∷ 0 ∷ 0 ∷ []

-- (P3), every byte
tally_bytes : encode tally ≡ bytes
unfolding encode encode_table form1 sections_for table_of signature_for image pairs joined signature_bytes type_bytes cell_bytes raws_bytes raws_of raw_of code_of_line
    code_of_lines code post operation_bytes lines_of lines reaches_of reaches entry size tally
tally_bytes = refl

-- (P2)
tally_reaches : (table_of tally).reaches ≡ 3 ∷ 1 ∷ 0 ∷ 2 ∷ 1 ∷ 0 ∷ []
unfolding tally table_of reaches_of entry reaches
tally_reaches = refl

tally_opens : open_of bytes ≡ opened (table_of tally)
unfolding read_sections read_image whole_lines sections_of and_then read_types read_cells signature_of raws line_of open_line open_lines open_table open_sections open_of
    decode run_code run_operations run operations onto with_type value_of good_line fits typed_act is_type items type_of given given2 leaf_type plainly nth type_of_unary
    type_of_binary sum_type order_type equality_type logical_type same_type same_ty bind in_type in_range tally table_of signature_for lines_of lines reaches_of reaches
    entry size
tally_opens = refl

abbrev pub padding16 : List ℤ
padding16 = pos 0 ∷ pos 0 ∷ pos 0 ∷ pos 0 ∷ pos 0 ∷ pos 0 ∷ pos 0 ∷ pos 0 ∷ pos 0 ∷ pos 0 ∷ pos 0 ∷ pos 0 ∷ pos 0 ∷ pos 0 ∷ pos 0 ∷ []

abbrev pub padding32 : List ℤ
padding32 = pos 0 ∷ pos 0 ∷ pos 0 ∷ pos 0 ∷ pos 0 ∷ pos 0 ∷ pos 0 ∷ pos 0 ∷ pos 0 ∷ pos 0 ∷ pos 0 ∷ pos 0 ∷ pos 0 ∷ pos 0 ∷ pos 0 ∷ pos 0 ∷ padding16

-- a state record by its place, the output's value and the variable's value
abbrev pub state : ℕ → ℤ → ℤ → State
state p o v = record { place = p; outputs = o ∷ padding16; variables = v ∷ padding32 }

-- the initial values at a place
abbrev pub placed : ℕ → State
placed p = state p (pos 0) (pos 0)

abbrev pub begun : State
begun = placed 512

tally_fresh : fresh_of bytes ≡ fresh begun
unfolding read_sections read_image whole_lines sections_of and_then read_types read_cells signature_of raws line_of open_line open_lines open_table open_sections open_of
    decode run_code run_operations run operations onto with_type value_of good_line fits typed_act is_type items type_of given given2 leaf_type plainly nth type_of_unary
    type_of_binary sum_type order_type equality_type logical_type same_type same_ty bind in_type in_range fresh_of fresh_table state_for pad
tally_fresh = refl

abbrev pub call : ℤ → Call
call z = record { inputs = z ∷ []; outputs = pos 99 ∷ [] }

abbrev pub left : List Called
left =
    record { answer = performed (0 ∷ 1 ∷ 2 ∷ []); state = state 2 (pos 0) (pos 7); row = pos 0 ∷ [] }
    ∷ record { answer = performed (0 ∷ 1 ∷ 2 ∷ []); state = state 2 (pos 0) (pos 14); row = pos 0 ∷ [] }
    ∷ record { answer = performed (0 ∷ 3 ∷ 4 ∷ 5 ∷ []); state = state 5 (pos 14) (pos 0); row = pos 14 ∷ [] }
    ∷ record { answer = performed (0 ∷ 1 ∷ 2 ∷ []); state = state 2 (pos 14) (negsuc 4); row = pos 14 ∷ [] }
    ∷ record { answer = not_performed 16 1; state = state 2 (pos 14) (negsuc 4); row = pos 99 ∷ [] }
    ∷ record { answer = performed (0 ∷ 1 ∷ 2 ∷ []); state = state 2 (pos 14) (pos 15); row = pos 14 ∷ [] }
    ∷ []

-- (P1) on the bytes, with every slot and the way of every call
tally_calls_lem : calls_of bytes begun (call (pos 7) ∷ call (pos 7) ∷ call (pos 1) ∷ call (negsuc 4) ∷ call (negsuc 2147483647) ∷ call (pos 20) ∷ []) ≡ left
unfolding read_sections read_image whole_lines sections_of and_then read_types read_cells signature_of raws line_of open_line open_lines open_table open_sections open_of
    decode run_code run_operations run operations onto with_type value_of good_line fits typed_act is_type items type_of given given2 leaf_type plainly nth type_of_unary
    type_of_binary sum_type order_type equality_type logical_type same_type same_ty bind in_type in_range fresh_of fresh_table state_for pad memory_of cycle_of calls_of row_of
    row_place wrong_value state_ok place_allowed slots_ok zeros table_row table_cycle walk step from then acted tested log perform holds evaluate fold leaf_value
    apply_unary apply_binary unary_result binary_result as_integer
tally_calls_lem = refl

-- Damaged images.

-- form 2
form_2 : open_of (set bytes 0 2) ≡ not_opened 11 0
unfolding read_sections read_image whole_lines sections_of and_then read_types read_cells signature_of raws line_of open_line open_lines open_table open_sections open_of
    decode run_code run_operations run operations onto with_type value_of good_line fits typed_act is_type items type_of given given2 leaf_type plainly nth type_of_unary
    type_of_binary sum_type order_type equality_type logical_type same_type same_ty bind in_type in_range
form_2 = refl

-- a gap between signature and lines
gap : open_of (set bytes 12 43) ≡ not_opened 11 0
unfolding read_sections read_image whole_lines sections_of and_then read_types read_cells signature_of raws line_of open_line open_lines open_table open_sections open_of
    decode run_code run_operations run operations onto with_type value_of good_line fits typed_act is_type items type_of given given2 leaf_type plainly nth type_of_unary
    type_of_binary sum_type order_type equality_type logical_type same_type same_ty bind in_type in_range
gap = refl

-- 12: type byte 2
type_byte_2 : open_of (set bytes 31 2) ≡ not_opened 12 0
unfolding read_sections read_image whole_lines sections_of and_then read_types read_cells signature_of raws line_of open_line open_lines open_table open_sections open_of
    decode run_code run_operations run operations onto with_type value_of good_line fits typed_act is_type items type_of given given2 leaf_type plainly nth type_of_unary
    type_of_binary sum_type order_type equality_type logical_type same_type same_ty bind in_type in_range
type_byte_2 = refl

-- reach 1 on the wait in line 2: the lowest bad line is line 1, which it follows
reach_on_a_wait : open_of (set bytes 76 1) ≡ not_opened 13 1
unfolding read_sections read_image whole_lines sections_of and_then read_types read_cells signature_of raws line_of open_line open_lines open_table open_sections open_of
    decode run_code run_operations run operations onto with_type value_of good_line fits typed_act is_type items type_of given given2 leaf_type plainly nth type_of_unary
    type_of_binary sum_type order_type equality_type logical_type same_type same_ty bind in_type in_range
reach_on_a_wait = refl

-- other of an assignment not 0
unused_other : open_of (set bytes 62 1) ≡ not_opened 13 1
unfolding read_sections read_image whole_lines sections_of and_then read_types read_cells signature_of raws line_of open_line open_lines open_table open_sections open_of
    decode run_code run_operations run operations onto with_type value_of good_line fits typed_act is_type items type_of given given2 leaf_type plainly nth type_of_unary
    type_of_binary sum_type order_type equality_type logical_type same_type same_ty bind in_type in_range
unused_other = refl

-- other of an assignment to an output not 0
unused_other_output : open_of (set bytes 86 1) ≡ not_opened 13 3
unfolding read_sections read_image whole_lines sections_of and_then read_types read_cells signature_of raws line_of open_line open_lines open_table open_sections open_of
    decode run_code run_operations run operations onto with_type value_of good_line fits typed_act is_type items type_of given given2 leaf_type plainly nth type_of_unary
    type_of_binary sum_type order_type equality_type logical_type same_type same_ty bind in_type in_range
unused_other_output = refl

-- the offset of a line without code is where the run before ended
offset_of_a_wait : open_of (set bytes 68 12) ≡ not_opened 13 2
unfolding read_sections read_image whole_lines sections_of and_then read_types read_cells signature_of raws line_of open_line open_lines open_table open_sections open_of
    decode run_code run_operations run operations onto with_type value_of good_line fits typed_act is_type items type_of given given2 leaf_type plainly nth type_of_unary
    type_of_binary sum_type order_type equality_type logical_type same_type same_ty bind in_type in_range
offset_of_a_wait = refl

-- no operator
operator_29 : open_of (set bytes 121 29) ≡ not_opened 13 0
unfolding read_sections read_image whole_lines sections_of and_then read_types read_cells signature_of raws line_of open_line open_lines open_table open_sections open_of
    decode run_code run_operations run operations onto with_type value_of good_line fits typed_act is_type items type_of given given2 leaf_type plainly nth type_of_unary
    type_of_binary sum_type order_type equality_type logical_type same_type same_ty bind in_type in_range
operator_29 = refl

-- an input that is not there
input_1 : open_of (set bytes 125 1) ≡ not_opened 13 1
unfolding read_sections read_image whole_lines sections_of and_then read_types read_cells signature_of raws line_of open_line open_lines open_table open_sections open_of
    decode run_code run_operations run operations onto with_type value_of good_line fits typed_act is_type items type_of given given2 leaf_type plainly nth type_of_unary
    type_of_binary sum_type order_type equality_type logical_type same_type same_ty bind in_type in_range
input_1 = refl

-- a byte more than the last section has
byte_after_the_end : open_of (bytes ++ (0 ∷ [])) ≡ not_opened 11 0
unfolding read_sections read_image whole_lines sections_of and_then read_types read_cells signature_of raws line_of open_line open_lines open_table open_sections open_of
    decode run_code run_operations run operations onto with_type value_of good_line fits typed_act is_type items type_of given given2 leaf_type plainly nth type_of_unary
    type_of_binary sum_type order_type equality_type logical_type same_type same_ty bind in_type in_range
byte_after_the_end = refl

-- Refused calls.

-- 15: place 513
place_513 : cycle_of bytes (placed 513) (pos 7 ∷ []) (pos 99 ∷ []) ≡ turned_back 15 0 (placed 513) (pos 99 ∷ [])
unfolding read_sections read_image whole_lines sections_of and_then read_types read_cells signature_of raws line_of open_line open_lines open_table open_sections open_of
    decode run_code run_operations run operations onto with_type value_of good_line fits typed_act is_type items type_of given given2 leaf_type plainly nth type_of_unary
    type_of_binary sum_type order_type equality_type logical_type same_type same_ty bind in_type in_range fresh_of fresh_table state_for pad memory_of cycle_of calls_of row_of
    row_place wrong_value state_ok place_allowed slots_ok zeros table_row table_cycle walk step from then acted tested log perform holds evaluate fold leaf_value
    apply_unary apply_binary unary_result binary_result as_integer
place_513 = refl

-- 15: the line 0 is no wait
place_0 : cycle_of bytes (placed 0) (pos 7 ∷ []) (pos 99 ∷ []) ≡ turned_back 15 0 (placed 0) (pos 99 ∷ [])
unfolding read_sections read_image whole_lines sections_of and_then read_types read_cells signature_of raws line_of open_line open_lines open_table open_sections open_of
    decode run_code run_operations run operations onto with_type value_of good_line fits typed_act is_type items type_of given given2 leaf_type plainly nth type_of_unary
    type_of_binary sum_type order_type equality_type logical_type same_type same_ty bind in_type in_range fresh_of fresh_table state_for pad memory_of cycle_of calls_of row_of
    row_place wrong_value state_ok place_allowed slots_ok zeros table_row table_cycle walk step from then acted tested log perform holds evaluate fold leaf_value
    apply_unary apply_binary unary_result binary_result as_integer
place_0 = refl

abbrev wrong_slot : State
wrong_slot = record { place = 512; outputs = pos 0 ∷ set padding16 3 (pos 1); variables = pos 0 ∷ padding32 }

-- 15: an unused slot that is not 0
unused_slot : cycle_of bytes wrong_slot (pos 7 ∷ []) (pos 99 ∷ []) ≡ turned_back 15 0 wrong_slot (pos 99 ∷ [])
unfolding read_sections read_image whole_lines sections_of and_then read_types read_cells signature_of raws line_of open_line open_lines open_table open_sections open_of
    decode run_code run_operations run operations onto with_type value_of good_line fits typed_act is_type items type_of given given2 leaf_type plainly nth type_of_unary
    type_of_binary sum_type order_type equality_type logical_type same_type same_ty bind in_type in_range fresh_of fresh_table state_for pad memory_of cycle_of calls_of row_of
    row_place wrong_value state_ok place_allowed slots_ok zeros table_row table_cycle walk step from then acted tested log perform holds evaluate fold leaf_value
    apply_unary apply_binary unary_result binary_result as_integer
unused_slot = refl

-- 14 before 15: an input row longer than its count, and place 513
row_too_long : cycle_of bytes (placed 513) (pos 7 ∷ pos 7 ∷ []) (pos 99 ∷ []) ≡ turned_back 14 0 (placed 513) (pos 99 ∷ [])
unfolding read_sections read_image whole_lines sections_of and_then read_types read_cells signature_of raws line_of open_line open_lines open_table open_sections open_of
    decode run_code run_operations run operations onto with_type value_of good_line fits typed_act is_type items type_of given given2 leaf_type plainly nth type_of_unary
    type_of_binary sum_type order_type equality_type logical_type same_type same_ty bind in_type in_range fresh_of fresh_table state_for pad memory_of cycle_of calls_of row_of
    row_place wrong_value state_ok place_allowed slots_ok zeros table_row table_cycle walk step from then acted tested log perform holds evaluate fold leaf_value
    apply_unary apply_binary unary_result binary_result as_integer
row_too_long = refl

-- 14: an input value outside integer, at its index
input_out_of_range : cycle_of bytes (begun) (pos 2147483648 ∷ []) (pos 99 ∷ []) ≡ turned_back 14 0 (begun) (pos 99 ∷ [])
unfolding read_sections read_image whole_lines sections_of and_then read_types read_cells signature_of raws line_of open_line open_lines open_table open_sections open_of
    decode run_code run_operations run operations onto with_type value_of good_line fits typed_act is_type items type_of given given2 leaf_type plainly nth type_of_unary
    type_of_binary sum_type order_type equality_type logical_type same_type same_ty bind in_type in_range fresh_of fresh_table state_for pad memory_of cycle_of calls_of row_of
    row_place wrong_value state_ok place_allowed slots_ok zeros table_row table_cycle walk step from then acted tested log perform holds evaluate fold leaf_value
    apply_unary apply_binary unary_result binary_result as_integer
input_out_of_range = refl
