-- `api_rattle::calls::fresh` meets its contract: the state is stored where there is one, and else left. Assumes nothing.
use Rattle.std.proofs.Common.{sym, ◌∙◌}
use Rattle.spec_format.specs.State.{fresh_of}
use Rattle.api_rattle.proofs.CallingLaws.{fresh_stored, fresh_kept}
use Rattle.api_rattle.proofs.calls.fresh.Goals as goal

pub returns-then-is_ok : goal.returns-then-is_ok
returns-then-is_ok c =
    let h = c.fresh-f.ensures in
    (h.0, fresh_stored (fresh_of c.args.image.now) _ _ _ h.0 h.1 (sym c.is_ok.ensures.value ∙ c.if-is_ok.true))

pub returns-else-is_ok : goal.returns-else-is_ok
returns-else-is_ok c =
    let h = c.fresh-f.ensures in
    (h.0, fresh_kept (fresh_of c.args.image.now) _ _ h.0 (sym c.is_ok.ensures.value ∙ c.if-is_ok.false))
