-- `test_bench::run_rows` meets its contract. The invariant: what was told so far and what the rest from here comes to is what the whole comes to. Assumes
-- nothing.
use mathlib.Core.Path.{refl}
use borrow.Author.Rules.{rules}
use Rattle.test_bench.proofs.RowLaws.{rest_first, rest_again, rest_short, rest_run}
use Rattle.test_bench.proofs.run_rows.Goals as goal

pub loop-i-init : goal.loop-i-init
loop-i-init g c = (refl, rest_first (g.C.Cycles.cycle c.args.cycles.now) c.args.inputs.now c.args.width _ c.args.count c.args.row.now)

pub loop-i-preserved : goal.loop-i-preserved
loop-i-preserved g c = (
  search rules,
  rest_again (g.C.Cycles.cycle c.args.cycles.now) c.args.inputs.now c.args.width _ c.args.count c.args.row.now _ _ _ _ _ _
      (search rules) (search rules) c.loop-i.invariant.1 c.run_row-p.ensures,
)

pub returns-then-inputs-from : goal.returns-then-inputs-from
returns-then-inputs-from g c =
    rest_short (g.C.Cycles.cycle c.args.cycles.now) c.args.inputs.now c.args.width _ c.args.count c.args.row.now _ _ _ _
    (search rules) c.loop-i.invariant.1

pub returns : goal.returns
returns g c =
    rest_run (g.C.Cycles.cycle c.args.cycles.now) c.args.inputs.now c.args.width _ c.args.count c.args.row.now _ _ _ _
    (search rules) c.loop-i.invariant.1
