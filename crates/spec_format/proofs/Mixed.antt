-- A second process, with both types, negative values, null, branches that meet again and branches that do not: its image, worked out apart from the
-- definitions from document 01's words, and the image opened. Assumes nothing.
use mathlib.Core.Path.{◌≡◌, refl}
use mathlib.Core.Bool.{true}
use mathlib.Core.List.{List, [], ◌∷◌}
use mathlib.Core.Option.{bind as and_then}
use Prim.Native.Nat.{ℕ}
use lib.IntN.{pos, negsuc}
use Rattle.spec_design.specs.Types.{std_logic, integer, plain, boolean, same_ty, same_type, in_range, in_type}
use Rattle.spec_design.specs.Expression.{int, bit, input, variable, sign, invert, plus, minus, equal, unequal, at_least, and, or, Expr, leaf, unary, binary}
use Rattle.spec_design.specs.Expression.{items, nth, plainly, bind, leaf_type, given, given2, type_of_unary, type_of_binary, sum_type, order_type, equality_type}
use Rattle.spec_design.specs.Expression.{logical_type, type_of}
use Rattle.spec_design.specs.Statement.{output, variable as assign, null, act, wait, if_else, seq, size}
use Rattle.spec_design.specs.Process.{Process, is_type, fits, typed_act}
use Rattle.spec_format.specs.Lines.{lines, lines_of, entry, reaches, reaches_of}
use Rattle.spec_format.specs.Code.{post, operation_bytes, code, operations, onto, run, run_operations, run_code, with_type, value_of, decode}
use Rattle.spec_format.specs.Signature.{type_bytes, cell_bytes, signature_bytes, read_types, read_cells, signature_of}
use Rattle.spec_format.specs.Image.{raws_bytes, code_of_line, code_of_lines, raw_of, raws_of, pairs, joined, image, form1, sections_for, encode_table}
use Rattle.spec_format.specs.Good.{good_line}
use Rattle.spec_format.specs.Opening.{read_sections, read_image, whole_lines, sections_of, raws, line_of, open_line, open_lines, open_table, open_sections, opened}
use Rattle.spec_format.specs.Opening.{open_of}
use Rattle.spec_format.specs.Encode.{signature_for, table_of, encode}

-- a = '1' or d >= -3 - w, where a and d are the inputs, v and w the variables
abbrev condition : Expr
condition =
    binary or boolean (binary equal (plain std_logic) (leaf (input 0)) (leaf (bit true)))
    (binary at_least (plain integer) (leaf (input 1)) (binary minus (plain integer) (unary sign (plain integer) (leaf (int (pos 3)))) (leaf (variable 1))))

-- not a and v
abbrev conjunction : Expr
conjunction = binary and (plain std_logic) (unary invert (plain std_logic) (leaf (input 0))) (leaf (variable 0))

-- if a = '1' or d >= -3 - w then q <= not a and v; else null; end if;
-- if w /= 0 then wait; else w := -w; wait; end if; r <= w + d; wait;
unfoldable mixed : Process
mixed =
    record {
      inputs = record { name = 0; type = std_logic } ∷ record { name = 1; type = integer } ∷ [];
      outputs = record { name = 2; type = std_logic; initial = pos 1 } ∷ record { name = 3; type = integer; initial = negsuc 4 } ∷ [];
      variables = record { name = 4; type = std_logic; initial = pos 0 } ∷ record { name = 5; type = integer; initial = negsuc 6 } ∷ [];
      body =
          seq (if_else condition (act (output 0 conjunction)) (act null))
          (seq (if_else (binary unequal (plain integer) (leaf (variable 1)) (leaf (int (pos 0)))) wait
          (seq (act (assign 1 (unary sign (plain integer) (leaf (variable 1))))) wait))
          (seq (act (output 1 (binary plus (plain integer) (leaf (variable 1)) (leaf (input 1))))) wait));
    }

-- form and count; a row for each pair; the signature; a row for each line; the code
abbrev bytes : List ℕ
bytes =
    1 ∷ 0 ∷ 3 ∷ 0
    ∷ 28 ∷ 0 ∷ 0 ∷ 0 ∷ 25 ∷ 0 ∷ 0 ∷ 0
    ∷ 53 ∷ 0 ∷ 0 ∷ 0 ∷ 108 ∷ 0 ∷ 0 ∷ 0
    ∷ 161 ∷ 0 ∷ 0 ∷ 0 ∷ 40 ∷ 0 ∷ 0 ∷ 0
    ∷ 2 ∷ 2 ∷ 2 ∷ 0 ∷ 1 ∷ 0 ∷ 1 ∷ 0 ∷ 0 ∷ 0 ∷ 1 ∷ 251 ∷ 255 ∷ 255 ∷ 255 ∷ 0 ∷ 0 ∷ 0 ∷ 0 ∷ 0 ∷ 1 ∷ 249 ∷ 255 ∷ 255 ∷ 255
    ∷ 3 ∷ 0 ∷ 0 ∷ 0 ∷ 18 ∷ 0 ∷ 1 ∷ 0 ∷ 2 ∷ 0 ∷ 4 ∷ 0
    ∷ 1 ∷ 0 ∷ 18 ∷ 0 ∷ 6 ∷ 0 ∷ 3 ∷ 0 ∷ 0 ∷ 0 ∷ 3 ∷ 0
    ∷ 4 ∷ 0 ∷ 24 ∷ 0 ∷ 0 ∷ 0 ∷ 3 ∷ 0 ∷ 0 ∷ 0 ∷ 3 ∷ 0
    ∷ 3 ∷ 0 ∷ 24 ∷ 0 ∷ 8 ∷ 0 ∷ 4 ∷ 0 ∷ 5 ∷ 0 ∷ 2 ∷ 0
    ∷ 0 ∷ 0 ∷ 32 ∷ 0 ∷ 0 ∷ 0 ∷ 7 ∷ 0 ∷ 0 ∷ 0 ∷ 0 ∷ 0
    ∷ 2 ∷ 1 ∷ 32 ∷ 0 ∷ 3 ∷ 0 ∷ 6 ∷ 0 ∷ 0 ∷ 0 ∷ 1 ∷ 0
    ∷ 0 ∷ 0 ∷ 35 ∷ 0 ∷ 0 ∷ 0 ∷ 7 ∷ 0 ∷ 0 ∷ 0 ∷ 0 ∷ 0
    ∷ 1 ∷ 1 ∷ 35 ∷ 0 ∷ 5 ∷ 0 ∷ 8 ∷ 0 ∷ 0 ∷ 0 ∷ 1 ∷ 0
    ∷ 0 ∷ 0 ∷ 40 ∷ 0 ∷ 0 ∷ 0 ∷ 0 ∷ 0 ∷ 0 ∷ 0 ∷ 0 ∷ 0
    ∷ 3 ∷ 0 ∷ 2 ∷ 1 ∷ 20 ∷ 3 ∷ 1 ∷ 1 ∷ 3 ∷ 0 ∷ 0 ∷ 0 ∷ 16 ∷ 4 ∷ 1 ∷ 19 ∷ 25 ∷ 27 ∷ 3 ∷ 0 ∷ 17 ∷ 4 ∷ 0 ∷ 26 ∷ 4 ∷ 1 ∷ 1 ∷ 0 ∷ 0 ∷ 0
    ∷ 0 ∷ 21 ∷ 4 ∷ 1 ∷ 16 ∷ 4 ∷ 1 ∷ 3 ∷ 1 ∷ 18 ∷ []

mixed_bytes : encode mixed ≡ bytes
unfolding encode encode_table form1 sections_for table_of signature_for image pairs joined signature_bytes type_bytes cell_bytes raws_bytes raws_of raw_of code_of_line
    code_of_lines code post operation_bytes lines_of lines reaches_of reaches entry size mixed
mixed_bytes = refl

mixed_reaches : (table_of mixed).reaches ≡ 4 ∷ 3 ∷ 3 ∷ 2 ∷ 0 ∷ 1 ∷ 0 ∷ 1 ∷ 0 ∷ []
unfolding mixed table_of reaches_of entry reaches
mixed_reaches = refl

mixed_opens : open_of bytes ≡ opened (table_of mixed)
unfolding read_sections read_image whole_lines sections_of and_then read_types read_cells signature_of raws line_of open_line open_lines open_table open_sections open_of
    decode run_code run_operations run operations onto with_type value_of good_line fits typed_act is_type items type_of given given2 leaf_type plainly nth type_of_unary
    type_of_binary sum_type order_type equality_type logical_type same_type same_ty bind in_type in_range mixed table_of signature_for lines_of lines reaches_of reaches
    entry size
mixed_opens = refl
