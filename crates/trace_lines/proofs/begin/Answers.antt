-- `trace_lines::begin` meets its contract: by its test. Assumes nothing.
use Rattle.trace_lines.proofs.ChunkLaws.{begin_only, begin_image}
use Rattle.trace_lines.proofs.begin.Goals as goal

pub returns-then-length-gt-TRACED : goal.returns-then-length-gt-TRACED
returns-then-length-gt-TRACED c = begin_only _ _ _ _ _ c.if-length-gt-TRACED.true c.refused_text-size.ensures

pub returns : goal.returns
returns c = begin_image _ _ _ c.if-length-gt-TRACED.false
