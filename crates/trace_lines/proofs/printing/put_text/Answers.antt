-- `trace_lines::printing::put_text` meets its contract. The invariant: the bytes passed are stored. Assumes nothing.
use borrow.Author.Rules.{rules}
use Rattle.trace_lines.proofs.PrintingLaws.{text_again}
use Rattle.trace_lines.proofs.printing.put_text.Goals as goal

pub loop-b-preserved : goal.loop-b-preserved
loop-b-preserved c = (search rules, text_again _ _ _ _ _ _ _ _ c.loop-b-test.true c.loop-b.invariant.1 c.put-k.ensures)
