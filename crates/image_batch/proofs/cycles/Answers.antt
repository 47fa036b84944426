-- `image_batch::cycles` meets its contract: an image that is refused turns the call back, an opened one takes it on. Assumes nothing.
use mathlib.Core.Path.{sym, ap, ◌∙◌}
use Rattle.base_answers.specs.Answers.{told}
use Rattle.image_batch.proofs.CallLaws.{closed}
use Rattle.image_batch.proofs.cycles.Goals as goal

pub opened_cycles-requires : goal.opened_cycles-requires
opened_cycles-requires c = sym (ap told c.in-Ok.is) ∙ c.«open».ensures

pub returns-in-Err : goal.returns-in-Err
returns-in-Err c =
    let r = c.in-Err.r in
    rw c.refused.ensures (closed c.args.image.now c.args.s c.args.count c.args.inputs.now c.args.outputs.now
    c.args.answers.now r (sym (ap told c.in-Err.is) ∙ c.«open».ensures))
