-- `image_batch::row` meets its contract: a cycle on the row's own part of inputs and outputs, its three numbers into their own part of the answers. Assumes
-- nothing.
use native.Mathlib.Omega.{arith}
use Rattle.spec_simulation.proofs.Places.{cycle_narrow}
use Rattle.image_runtime.proofs.OpenedImage.{all_bytes}
use Rattle.image_batch.proofs.row.Goals as goal

pub answered-requires : goal.answered-requires
answered-requires c =
    let a = c.args in
    let h = all_bytes a.image.now (λ k. omega (arith, c.type_inv.image k)) in
    cycle_narrow a.image.now h _ _ _ c.cycle_opened-a.result.answer c.cycle_opened-a.ensures.answer
