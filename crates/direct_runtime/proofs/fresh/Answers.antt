-- `direct_runtime::fresh` meets its contract: the front end refuses the text, or its design gives the fresh state. Assumes nothing.
use mathlib.Core.Path.{refl}
use Rattle.base_ir.proofs.Bounds.{held_bounded}
use Rattle.front_accept.proofs.Told.{design_of, turned_of}
use Rattle.direct_runtime.proofs.Texts.{fresh_accepted, fresh_refused}
use Rattle.direct_runtime.proofs.fresh.Goals as goal

pub fresh-requires : goal.fresh-requires
fresh-requires c =
    let d = design_of _ c.accept.result _
    (c.accept.ensures (record { ops_size = refl; args_size = refl; line_cells = refl })) c.in-Ok.is in
    held_bounded _ d.border.holds d.formed

pub returns-in-Ok : goal.returns-in-Ok
returns-in-Ok c =
    let d = design_of _ c.accept.result _
    (c.accept.ensures (record { ops_size = refl; args_size = refl; line_cells = refl })) c.in-Ok.is in
    fresh_accepted _ d.process d.is_verdict _ (c.fresh.ensures d.process d.border.holds.declared)

pub returns-in-Err : goal.returns-in-Err
returns-in-Err c =
    fresh_refused _ c.in-Err.r
    (turned_of _ c.accept.result _
    (c.accept.ensures (record { ops_size = refl; args_size = refl; line_cells = refl }))
    c.in-Err.is) _ c.blank.ensures
