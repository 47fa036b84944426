-- `image_checks::types::variable_types` meets its contract: the bytes that are copied are the variables' type bytes. Assumes nothing.
use mathlib.Core.Path.{◌≡◌, ap}
use mathlib.Core.List.{◌++◌}
use lib.ListN.{length, take, drop}
use lib.Seq.{length-take-le}
use Rattle.image_checks.proofs.Judged.{variables_copied, variables_inside}
use Rattle.image_checks.proofs.types.variable_types.Goals as goal

pub returns-then-kinds-n : goal.returns-then-kinds-n
returns-then-kinds-n c =
    let a = c.args in
    λ σ e h. variables_inside a.signature.now σ e c.count-n.result (length a.kinds.now) c.count-n.ensures.value h c.if-kinds-n.true

pub returns : goal.returns
returns c =
    let a = c.args in
    let n : length (take c.count-n.result a.kinds.now) ≡ c.count-n.result = length-take-le c.count-n.result a.kinds.now c.if-kinds-n.false in
    λ σ e h. variables_copied a.signature.now σ e c.count-n.result c.variables_at.result c.count-n.ensures.value c.variables_at.ensures.value a.kinds.now _
    (ap (λ l. l ++ drop c.count-n.result a.kinds.now) (rw n at c.copy_types.ensures))
