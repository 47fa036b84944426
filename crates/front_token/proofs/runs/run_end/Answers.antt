-- `front_token::runs::run_end` meets its contract. The invariant: the run from here ends where the whole run ends. Assumes nothing.
use mathlib.Core.Path.{sym, ◌∙◌}
use Rattle.front_token.proofs.RunLaws.{run_pass, run_stop, run_over}
use Rattle.front_token.proofs.runs.run_end.Goals as goal

pub returns-then-not-passes : goal.returns-then-not-passes
returns-then-not-passes g c p t =
    sym (run_stop p _ _ c.loop-i-test.true (sym (t _ _ c.passes.ensures) ∙ c.if-not-passes.true)) ∙ c.loop-i.invariant p t

pub loop-i-preserved : goal.loop-i-preserved
loop-i-preserved g c p t =
    run_pass p _ _ c.loop-i-test.true (sym (t _ _ c.passes.ensures) ∙ c.if-not-passes.false) ∙ c.loop-i.invariant p t

pub returns : goal.returns
returns g c p t =
    c.max.ensures ∙ run_over p _ _ _ c.loop-i-test.false c.loop-i.auto.i-end (c.loop-i.invariant p t)
