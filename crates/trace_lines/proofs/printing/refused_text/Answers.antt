-- `trace_lines::printing::refused_text` meets its contract: its parts stand one behind another. Assumes nothing.
use Rattle.spec_language.specs.Bytes.{bytes}
use Rattle.trace_lines.proofs.PrintingLaws.{text_puts}
use Rattle.trace_lines.proofs.printing.refused_text.Goals as goal

pub returns : goal.returns
unfolding bytes
returns c =
    text_puts _ _ _ _ _ _ _ _ _
    c.put_text-a.ensures
    c.put_pair-b.ensures c.put.ensures
