-- `api_c::rabtishu_direct_fresh` meets its contract: the fresh state of the text is stored where there is one. Assumes nothing.
use Rattle.spec_behaviour.specs.Direct.{direct_fresh}
use Rattle.api_c.proofs.CallLaws.{started_stored, started_kept}
use Rattle.api_c.proofs.NarrowLaws.{direct_fresh_narrow}
use Rattle.api_c.proofs.rabtishu_direct_fresh.Goals as goal

pub answered-requires : goal.answered-requires
answered-requires c = direct_fresh_narrow c.args.text.now c.fresh-f.result.answer c.fresh-f.ensures.0

pub returns-then-is_ok : goal.returns-then-is_ok
returns-then-is_ok c =
    started_stored (direct_fresh c.args.text.now) c.fresh-f.result.answer _ _
    c.args.state.now c.fresh-f.ensures.0
    c.answered.ensures c.is_ok.ensures.value _ _ c.if-is_ok.true c.fresh-f.ensures.1
    c.from_state.ensures

pub returns-else-is_ok : goal.returns-else-is_ok
returns-else-is_ok c =
    started_kept (direct_fresh c.args.text.now) c.fresh-f.result.answer _ _
    c.args.state.now c.fresh-f.ensures.0 c.answered.ensures
    c.is_ok.ensures.value c.if-is_ok.false
