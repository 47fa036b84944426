-- `trace_lines::printing::put_spaced` meets its contract: the space, then the number. Assumes nothing.
use Rattle.trace_lines.proofs.PrintingLaws.{puts_then}
use Rattle.trace_lines.proofs.printing.put_spaced.Goals as goal

pub returns : goal.returns
returns c = puts_then _ _ _ _ _ _ _ _ c.put-next.ensures c.put_number.ensures
