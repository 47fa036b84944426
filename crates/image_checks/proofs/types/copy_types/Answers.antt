-- `image_checks::types::copy_types` meets its contract. The loop's invariant: the first `k` type bytes stand in front of what was there. Assumes nothing.
use Rattle.image_checks.proofs.Steps.{copy_first, copy_more}
use Rattle.image_checks.proofs.types.copy_types.Goals as goal

pub loop-k-init : goal.loop-k-init
loop-k-init c = copy_first c.args.signature.now c.args.at c.args.kinds.now

pub loop-k-preserved : goal.loop-k-preserved
loop-k-preserved c =
    let a = c.args in
    copy_more a.signature.now a.at c.loop-k.k a.kinds.now c.loop-k.kinds c.byte.result c.loop-k-test.true c.loop-k.invariant c.byte.ensures
