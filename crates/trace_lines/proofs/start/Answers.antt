-- `trace_lines::start` meets its contract: by the cases of the compile. Assumes nothing.
use Rattle.trace_lines.proofs.ChunkLaws.{start_written, start_refused}
use Rattle.trace_lines.proofs.start.Goals as goal

pub returns-in-Ok : goal.returns-in-Ok
returns-in-Ok c =
    start_written c.compile.result _ _ _ _ _
    c.compile.ensures.0
    c.compile.ensures.1 _ _ _
    c.in-Ok.is c.begin.ensures

pub returns-in-Err : goal.returns-in-Err
returns-in-Err c =
    start_refused c.compile.result _ _ _ _ _
    c.compile.ensures.0
    c.compile.ensures.1 _ _ _ _ _
    c.in-Err.is c.number-number.ensures
    c.place.ensures c.refused_text-size.ensures
