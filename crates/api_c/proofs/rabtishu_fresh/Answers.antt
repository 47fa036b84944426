-- `api_c::rabtishu_fresh` meets its contract: the fresh state of the image is stored where there is one. Assumes nothing.
use Rattle.spec_format.specs.State.{fresh_of}
use Rattle.api_c.proofs.CallLaws.{started_stored, started_kept}
use native.Mathlib.Omega.{arith}
use Rattle.image_runtime.proofs.OpenedImage.{all_bytes}
use Rattle.api_c.proofs.NarrowLaws.{fresh_narrow}
use Rattle.api_c.proofs.rabtishu_fresh.Goals as goal

pub answered-requires : goal.answered-requires
answered-requires c =
    let b = c.args.image.now in
    fresh_narrow b (all_bytes b (λ k. omega (arith, c.shared_slice_known-1.given k))) c.fresh-f.result.answer c.fresh-f.ensures.0

pub returns-then-is_ok : goal.returns-then-is_ok
returns-then-is_ok c =
    started_stored (fresh_of c.args.image.now) c.fresh-f.result.answer _ _
    c.args.state.now c.fresh-f.ensures.0
    c.answered.ensures c.is_ok.ensures.value _ _ c.if-is_ok.true c.fresh-f.ensures.1
    c.from_state.ensures

pub returns-else-is_ok : goal.returns-else-is_ok
returns-else-is_ok c =
    started_kept (fresh_of c.args.image.now) c.fresh-f.result.answer _ _
    c.args.state.now c.fresh-f.ensures.0 c.answered.ensures
    c.is_ok.ensures.value c.if-is_ok.false
