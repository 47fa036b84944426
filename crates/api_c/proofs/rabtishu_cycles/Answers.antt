-- `api_c::rabtishu_cycles` meets its contract: the new state is stored where a row was performed. Assumes nothing.
use native.Mathlib.Omega.{arith}
use Rattle.image_runtime.proofs.OpenedImage.{all_bytes}
use Rattle.spec_promises.proofs.Batch.{batch_narrow}
use Rattle.api_c.proofs.CallLaws.{rows_stored, rows_kept}
use Rattle.api_c.proofs.rabtishu_cycles.Goals as goal

pub answered-requires : goal.answered-requires
answered-requires c =
    let h = all_bytes c.args.image.now (λ k.
    omega (arith, c.shared_slice_known-1.given k)) in
    batch_narrow c.args.image.now h c.to_state-s.result c.args.count c.args.inputs.now
    c.args.outputs.now c.args.answers.now c.cycles-r.result.answer c.cycles-r.ensures.answer

pub returns-then-r : goal.returns-then-r
returns-then-r c =
    let y = c.cycles-r in
    rows_stored c.args.image.now c.args.state.now c.args.count c.args.inputs.now c.args.outputs.now c.args.answers.now _
    y.result _ _ _ _ c.to_state-s.ensures y.ensures
    c.answered.ensures c.if-r.true c.from_state.ensures

pub returns-else-r : goal.returns-else-r
returns-else-r c =
    let y = c.cycles-r in
    rows_kept c.args.image.now c.args.state.now c.args.count c.args.inputs.now c.args.outputs.now c.args.answers.now _
    y.result _ _ _ c.to_state-s.ensures y.ensures c.answered.ensures
    c.if-r.false
