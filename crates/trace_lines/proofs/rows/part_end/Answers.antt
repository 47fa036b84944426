-- `trace_lines::rows::part_end` meets its contract. The invariant: the part from here ends where the whole part ends. Assumes nothing.
use mathlib.Core.Path.{◌≡◌, sym, ◌∙◌}
use native.Mathlib.Omega.{arith}
use Rattle.front_token.proofs.RunLaws.{run_pass, run_stop, run_end}
use Rattle.trace_lines.specs.Reading.{other}
use Rattle.trace_lines.proofs.ReadingLaws.{other_is, other_not}
use Rattle.trace_lines.proofs.rows.part_end.Goals as goal

pub returns-then-s-i : goal.returns-then-s-i
returns-then-s-i c =
    sym (run_stop (other c.args.c) _ _ c.loop-i-test.true (other_is _ _ c.if-s-i.true))
    ∙ c.loop-i.invariant.1

pub loop-i-preserved : goal.loop-i-preserved
loop-i-preserved c = (
  omega arith,
  run_pass (other c.args.c) _ _ c.loop-i-test.true (other_not _ _ c.if-s-i.false) ∙ c.loop-i.invariant.1,
)

pub returns : goal.returns
returns c =
    let last : c.max.result ≡ c.loop-i.i = omega (arith, c.loop-i.invariant.0) in
    last ∙ (sym (run_end (other c.args.c) _ _ c.loop-i-test.false) ∙ c.loop-i.invariant.1)
