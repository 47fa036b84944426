-- `trace_lines::printing::performed_line` meets its contract: its parts stand one behind another. Assumes nothing.
use Rattle.trace_lines.proofs.PrintingLaws.{performed_puts}
use Rattle.trace_lines.proofs.printing.performed_line.Goals as goal

pub returns : goal.returns
returns c =
    performed_puts _ _ _ _ _ _ _ _ _ _ _ _ _
    c.put_pair-a.ensures
    c.put_spaced-b.ensures
    c.put_integers-c.ensures c.put.ensures
