-- `api_rattle::calls::direct` meets its contract: a refused cycle leaves the state that it came with. Assumes nothing.
use Rattle.std.proofs.Common.{sym, ◌∙◌}
use Rattle.api_rattle.proofs.CallingLaws.{direct_kept}
use Rattle.api_rattle.proofs.calls.direct.Goals as goal

pub returns-else-is_ok : goal.returns-else-is_ok
returns-else-is_ok c =
    let h = c.run-a.ensures in
    (h.0, direct_kept _ _ _ _ _ h.0 (sym c.is_ok.ensures.value ∙ c.if-is_ok.false), h.2)
