-- `image_checks::types::input_types` meets its contract: the type bytes stand between the counts and the outputs. Assumes nothing.
use native.Mathlib.Omega.{arith}
use Rattle.image_checks.proofs.Judged.{inputs_part, inputs_inside}
use Rattle.image_checks.proofs.types.input_types.Goals as goal

pub returns-then-signature-end : goal.returns-then-signature-end
returns-then-signature-end c =
    λ σ e. inputs_inside c.args.signature.now σ e c.outputs_at-end.result c.outputs_at-end.ensures.value
    c.if-signature-end.true

pub slice_bounds-result-count : goal.slice_bounds-result-count
slice_bounds-result-count c = omega arith

pub slice_bounds-result-start : goal.slice_bounds-result-start
slice_bounds-result-start c = omega arith

pub returns : goal.returns
returns c =
    λ σ e. inputs_part c.args.signature.now σ e c.outputs_at-end.result
    c.outputs_at-end.ensures.value
