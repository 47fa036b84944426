-- `test_bench::rabtishu_bench_opened` meets its contract: the rows on an image that opens, and none where it is refused. Assumes nothing.
use mathlib.Core.Path.{sym, ◌∙◌, ap}
use Rattle.image_loader.proofs.OpenLaws.{image_refused}
use Rattle.test_bench.proofs.RowLaws.{closed_runs, runs_from}
use Rattle.base_answers.specs.Answers.{told, number_of, place_of}
use Rattle.test_bench.proofs.rabtishu_bench_opened.Goals as goal

pub invariant_of-cycles : goal.invariant_of-cycles
invariant_of-cycles c = record { opened = sym (ap told c.in-Ok.is) ∙ c.open-opened.ensures }

pub returns-in-Ok : goal.returns-in-Ok
returns-in-Ok c = runs_from c.fresh-f.ensures.1 c.run_rows.ensures

pub returns-in-Err : goal.returns-in-Err
returns-in-Err c =
    let r = c.in-Err.field-0 in
    let g = image_refused c.args.image.now r
    (sym (ap told c.in-Err.is) ∙ c.open-opened.ensures) in
    closed_runs c.args.image.now (number_of r) (place_of r) g _
    c.args.inputs.now c.args.width
    c.args.count c.args.row.now
