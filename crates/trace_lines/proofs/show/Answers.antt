-- `trace_lines::show` meets its contract: by the cases of the answer. Assumes nothing.
use Rattle.trace_lines.proofs.ShowLaws.{show_performed, show_refused}
use Rattle.trace_lines.proofs.show.Goals as goal

pub returns-in-Ok : goal.returns-in-Ok
returns-in-Ok c = show_performed _ _ _ _ _ _ _ _ c.in-Ok.is (rw c.from.ensures at c.performed_line.ensures)

pub returns-in-Err : goal.returns-in-Err
returns-in-Err c =
    show_refused _ _ _ _ _ _ _ _ _ c.in-Err.is c.number.ensures
    c.refused_line.ensures
