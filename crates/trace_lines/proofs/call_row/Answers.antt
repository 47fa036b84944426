-- `trace_lines::call_row` meets its contract: the output row that it lends is of zeros. Assumes nothing.
use mathlib.Core.Path.{refl}
use Rattle.trace_lines.proofs.ShowLaws.{values_shown}
use Rattle.trace_lines.proofs.call_row.Goals as goal

pub returns : goal.returns
returns c =
    values_shown _ _ _ _ _ _ _ _ _ _ c.outputs_of-m.ensures refl
    c.run_row.ensures
