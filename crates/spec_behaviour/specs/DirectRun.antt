-- What the direct run of an accepted text gives, call by call (demand 2, second sentence). Assumes nothing.
use Rattle.std.specs.Prelude.{◌≡◌, List, map, ℕ}
use Rattle.spec_design.specs.Process.{Process}
use Rattle.spec_semantics.specs.Rows.{kept_at_first}
use Rattle.spec_semantics.specs.Records.{fresh}
use Rattle.spec_semantics.specs.Calls.{Call}
use Rattle.spec_semantics.specs.Comparison.{fed, laid, seen_all, equation_calls}
use Rattle.spec_semantics.specs.PublishedRows.{published_rows}
use Rattle.spec_semantics.specs.PrintedRows.{CallsPrinted}
use Rattle.spec_behaviour.specs.Direct.{direct_fresh, direct_calls}

-- "The direct run of an accepted text gives, row by row, what the published ABC-VHDL equations give": from the fresh state of the text, every list of
-- calls, refused ones included, leaves after every call the answer, the whole state record and the output row that the equations leave
pub record DirectRun (text : List ℕ) (d : Process) : Type 0 where
  pub starts : direct_fresh text ≡ fresh (laid (kept_at_first d))
  pub equations : (cs : List Call) → direct_calls text (laid (kept_at_first d)) cs ≡ equation_calls d (kept_at_first d) cs
  pub published : (cs : List Call) → direct_calls text (laid (kept_at_first d)) cs ≡ seen_all (published_rows d (map fed cs)) cs
  -- ".. within 32-bit integers": and the calls that were performed, the refused ones dropped, left the output row and the state record of the printed
  -- equations, which know neither refusals nor bounds, over the input rows of the same calls
  pub printed : (cs : List Call) → CallsPrinted d cs (direct_calls text (laid (kept_at_first d)) cs)
