-- `trace_lines::run_row` meets its contract: the cycle, then its line. Assumes nothing.
use Rattle.trace_lines.proofs.ShowLaws.{call_shown}
use Rattle.spec_format.specs.Cycle.{cycle_of}
use Rattle.trace_lines.proofs.run_row.Goals as goal

pub returns : goal.returns
returns c =
    let a = c.args in
    let r = c.cycle_opened-a.ensures in
    call_shown _ (cycle_of a.image.now a.s a.inputs.now a.row.now) _ _ _ _ _ _ r.answer r.state r.row c.show-size.ensures
