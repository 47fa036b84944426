-- `test_bench::run_row` meets its contract: the lines of the call are added to those before it. Assumes nothing.
use mathlib.Core.Path.{◌∙◌}
use Rattle.test_bench.proofs.RowLaws.{adds, told_min}
use Rattle.test_bench.proofs.run_row.Goals as goal

pub returns : goal.returns
returns g c =
    let a = c.args in
    adds (g.C.Cycles.cycle a.cycles.now) a.p.state a.inputs.now a.from a.width a.row.now c.run-a.result.answer
    c.lines_of.ensures c.run-a.ensures.answer (c.saturating_add-lines.ensures ∙ told_min _)
    c.run-a.ensures.state c.run-a.ensures.row
