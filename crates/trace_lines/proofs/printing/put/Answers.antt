-- `trace_lines::printing::put` meets its contract: behind the end nothing is stored. Assumes nothing.
use Rattle.trace_lines.proofs.PrintingLaws.{puts_one, puts_past}
use Rattle.trace_lines.proofs.printing.put.Goals as goal

pub returns-then-at-out : goal.returns-then-at-out
returns-then-at-out c = puts_one _ _ _ c.if-at-out.true

pub returns : goal.returns
returns c = puts_past _ _ _ c.if-at-out.false
