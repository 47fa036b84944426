-- `trace_lines::first` meets its contract: the fresh state. Assumes nothing.
use Rattle.trace_lines.proofs.ChunkLaws.{first_is}
use Rattle.trace_lines.proofs.first.Goals as goal

pub returns : goal.returns
returns c = first_is _ _ c.fresh-f.ensures.1
