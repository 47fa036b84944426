-- `trace_lines::printing::refused_line` meets its contract: its parts stand one behind another. Assumes nothing.
use Rattle.spec_language.specs.Bytes.{bytes}
use Rattle.trace_lines.proofs.PrintingLaws.{refused_puts}
use Rattle.trace_lines.proofs.printing.refused_line.Goals as goal

pub returns : goal.returns
unfolding bytes
returns c =
    refused_puts _ _ _ _ _ _ _ _ _ _ _
    c.put_number-a.ensures
    c.put_text-b.ensures
    c.put_number-c.ensures c.put.ensures
