-- The trace of tally as document 01 prints it (P1), byte for byte, computed from the text and the rows; a refused text; rows that are not readable; a row
-- with a zero divisor. Assumes nothing.
use mathlib.Core.Path.{◌≡◌, refl}
use mathlib.Core.List.{List, ◌++◌}
use Prim.Native.Nat.{ℕ}
use Rattle.spec_design.specs.Types as Types
use Rattle.spec_design.specs.Expression as Expression
use Rattle.spec_design.specs.Statement as Statement
use Rattle.spec_language.specs.Bytes.{bytes}
use Rattle.spec_design.specs.Spelling as Spelling
use Rattle.spec_language.proofs.Computing.{computed}
use Rattle.spec_language.proofs.ExamplesReadings.{tally_text}
use Rattle.spec_semantics.specs.Division as Division
use Rattle.spec_semantics.specs.Evaluation as Evaluation
use Rattle.spec_semantics.specs.Equations as Equations
use Rattle.spec_semantics.specs.Rows as Rows
use Rattle.trace_lines.specs.Rows as R
use Rattle.trace_lines.specs.Printing as Printing
use Rattle.trace_header.specs.Header as Header
use Rattle.trace_lines.specs.Trace as Trace
use Rattle.trace_lines.specs.Trace.{trace_of}

-- opens all that a trace computes by
unfoldable opened : List ℕ → List ℕ → List ℕ
unfolding computed Types.in_range Types.in_type Expression.bind Expression.fold Statement.size Statement.has Evaluation.unary_result Evaluation.binary_result
    Evaluation.as_integer Division.by_nonzero Evaluation.apply_unary Evaluation.apply_binary Evaluation.leaf_value Evaluation.evaluate Equations.perform
    Equations.holds Equations.log Equations.then Equations.acted Equations.tested Equations.pick Equations.start Equations.resume Equations.enter
    Equations.cycle Rows.kept_at_first Rows.wrong_value Rows.row_refusal Rows.concluded Rows.judged Rows.row R.split R.digits R.magnitude R.decimal_of R.all
    R.decimals Spelling.decimal_by Printing.integers Printing.performed_line Printing.refused_line Printing.refused_text Spelling.digits
    Spelling.name_bytes Header.labelled Header.header_of Trace.rows_traced Trace.row_values Trace.trace_of
opened text rows = trace_of text rows

-- P1
pub p1 : trace_of tally_text (bytes "7\n7\n1\n-5\n-2147483648\n20\n") ≡ bytes "cycle wait lines total\n0 2 3 0\n1 2 3 0\n2 5 4 14\n3 2 3 14\n4 refused 16\n5 2 3 14\n"
unfolding opened
p1 = refl

-- a last line without LF counts; an empty line is a row of no values; a double space, a tab, `+`, CR, a decimal outside integer and a row of two values are 14;
-- leading zeros and `-0` are decimals
pub unreadable : trace_of tally_text (bytes "007\n\n7  1\n+7\n7\r\n-2147483649\n2147483648\n1 2\n 7\n7 \n-\n\t7\n-0")
    ≡ bytes "cycle wait lines total\n0 2 3 0\n1 refused 14\n2 refused 14\n3 refused 14\n4 refused 14\n5 refused 14\n6 refused 14\n7 refused 14\n8 refused 14\n9 refused 14\n10 refused 14\n11 refused 14\n12 2 3 0\n"
unfolding opened
unreadable = refl

-- a process that divides
abbrev dividing : List ℕ
dividing =
    bytes "entity e is port(clk:in std_logic;d:in integer;q:out integer:=0);end e;" ++
    bytes "architecture a of e is begin process begin q<=10/d;wait until clk='1';end process;end a;"

-- "18, a zero divisor": the row prints that number, and the next one goes on from the state before it
pub zero_divisor : trace_of dividing (bytes "5\n0\n-3\n") ≡ bytes "cycle wait lines q\n0 1 2 2\n1 refused 18\n2 1 2 -3\n"
unfolding opened
zero_divisor = refl

-- no rows: the header alone
pub no_rows : trace_of tally_text (bytes "") ≡ bytes "cycle wait lines total\n"
unfolding opened
no_rows = refl

-- a refused text, whatever the rows are
pub refused_text_lem : trace_of (bytes "entity 5") (bytes "7\n") ≡ bytes "refused 3 7\n"
unfolding opened
refused_text_lem = refl
