-- `test_bench::rabtishu_bench_checked` meets its contract: the rows from the fresh state. Assumes nothing.
use Rattle.test_bench.proofs.RowLaws.{runs_from}
use Rattle.test_bench.proofs.rabtishu_bench_checked.Goals as goal

pub returns : goal.returns
returns c = runs_from c.fresh-f.ensures.1 c.run_rows.ensures
