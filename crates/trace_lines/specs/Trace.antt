-- The trace of a text over rows, by the equations (document 01, "The trace of tally"). Assumes nothing.
use Rattle.std.specs.Prelude.{Option, None, Some, cond, List, [], ◌∷◌, ◌++◌, ℕ, suc, length, ℤ, leb}
use Rattle.base_codes.specs.Refusal as F
use Rattle.spec_design.specs.Process.{Process}
use Rattle.spec_semantics.specs.Rows.{Kept, Outcome, performed, row_refused, operator_refused, row, kept_at_first}
use Rattle.spec_semantics.specs.Records.{number}
use Rattle.spec_language.specs.Verdict.{Verdict, on_accepted, verdict}
use Rattle.trace_lines.specs.Rows.{rows_in, decimals}
use Rattle.trace_lines.specs.Printing.{performed_line, refused_line, refused_text}
use Rattle.trace_header.specs.Header.{header_of}

-- the line of the row n: "row number, wait line, lines performed, outputs; a refused row prints its number, `refused`, the refusal"
abbrev pub line_for : ℕ → Outcome × Kept → List ℕ
line_for n (performed outputs way, k) = performed_line n (number k.place) (length way) outputs
line_for n (row_refused place, k) = refused_line n F.BAD_ROW
line_for n (operator_refused q line, k) = refused_line n q

-- the line of a row and what is kept after it; "A row that is unreadable or has a decimal outside integer counts as 14."
abbrev pub row_traced : Process → Kept → ℕ → Option (List ℤ) → List ℕ × Kept
row_traced p k n None = (refused_line n F.BAD_ROW, k)
row_traced p k n (Some v) = let r = row p k (record { inputs = v; room = length p.outputs }) in (line_for n r, r.1)

-- the lines of the rows, from the row n on
unfoldable pub rows_traced : Process → Kept → ℕ → List (Option (List ℤ)) → List ℕ
rows_traced p k n [] = []
rows_traced p k n (v ∷ vs) = let r = row_traced p k n v in r.0 ++ rows_traced p r.1 (suc n) vs

-- what each row is
unfoldable pub row_values : List (List ℕ) → List (Option (List ℤ))
row_values [] = []
row_values (w ∷ ws) = decimals w ∷ row_values ws

-- "A refused text prints only `refused`, number, place"; "For an accepted text with above 65,536 bytes of rows it prints only `refused 14 0`."
abbrev pub traced_by : Verdict → List ℕ → List ℕ
traced_by v rows =
    on_accepted
    (λ p. cond (leb (length rows) 65536) (header_of p ++ rows_traced p (kept_at_first p) 0 (row_values (rows_in rows))) (refused_text F.BAD_ROW 0))
    refused_text v

-- what the trace program prints for the text and the rows
unfoldable pub trace_of : List ℕ → List ℕ → List ℕ
trace_of text rows = traced_by (verdict text) rows
