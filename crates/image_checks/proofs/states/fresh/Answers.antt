-- `image_checks::states::fresh` meets its contract: the slots are filled with the initial values of the signature. Assumes nothing.
use Rattle.image_checks.proofs.Judged.{fresh_judged}
use Rattle.image_checks.proofs.states.fresh.Goals as goal

pub returns : goal.returns
returns c =
    let a = c.args in
    fresh_judged a.signature.now _ _
    c.outputs_at.result c.count.result
    c.variables_at.result c.count-2.result
    c.outputs_at.ensures.value c.count.ensures.value
    c.variables_at.ensures.value c.count-2.ensures.value
    c.fill.ensures c.fill-2.ensures
