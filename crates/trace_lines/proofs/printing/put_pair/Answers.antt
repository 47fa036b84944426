-- `trace_lines::printing::put_pair` meets its contract: the first number, then the second behind its space. Assumes nothing.
use Rattle.trace_lines.proofs.PrintingLaws.{puts_then}
use Rattle.trace_lines.proofs.printing.put_pair.Goals as goal

pub returns : goal.returns
returns c = puts_then _ _ _ _ _ _ _ _ c.put_number-next.ensures c.put_spaced.ensures
