-- `image_runtime::advance_state` meets its contract: a refused cycle leaves the state that it came with. Assumes nothing.
use Rattle.std.proofs.Common.{sym, ◌∙◌}
use Rattle.image_runtime.proofs.Stored.{refused_kept}
use Rattle.image_runtime.proofs.advance_state.Goals as goal

pub returns-else-is_ok : goal.returns-else-is_ok
returns-else-is_ok c =
    let h = c.cycle-a.ensures in
    (h.0, refused_kept _ _ _ _ _ h.0 (sym c.is_ok.ensures.value ∙ c.if-is_ok.false), h.2, h.3, h.4)
