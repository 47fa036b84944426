-- `image_cycle::judged` meets its contract: 15, or the cycle where the state is right. Assumes nothing.
use mathlib.Core.Path.{sym, ◌∙◌}
use Rattle.image_cycle.proofs.Calls.{state_moves}
use Rattle.image_cycle.proofs.judged.Goals as goal

pub returns-then-right : goal.returns-then-right
returns-then-right c =
    λ t o h right. c.run.ensures t o h right
    (sym (c.state_ok-right.ensures t c.args.code.now h.opens) ∙ c.if-right.true)

pub returns : goal.returns
returns c =
    λ t o h right. state_moves t c.args.s c.args.inputs.now o right
    (sym (c.state_ok-right.ensures t c.args.code.now h.opens) ∙ c.if-right.false) _
    c.refused.ensures
