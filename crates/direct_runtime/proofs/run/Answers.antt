-- `direct_runtime::run` meets its contract: the front end refuses the text, or a call on its design is the call on the text. Assumes nothing.
use mathlib.Core.Path.{refl}
use Rattle.base_ir.proofs.Bounds.{held_bounded}
use Rattle.direct_cycle.specs.Calls.{call_of}
use Rattle.front_accept.proofs.Told.{design_of, turned_of}
use Rattle.direct_runtime.proofs.Texts.{run_accepted, run_refused}
use Rattle.direct_runtime.proofs.run.Goals as goal

pub run_design-requires : goal.run_design-requires
run_design-requires c =
    let d = design_of _ c.accept.result _
    (c.accept.ensures (record { ops_size = refl; args_size = refl; line_cells = refl }))
    c.in-Ok.is in
    held_bounded _ d.border.holds d.formed

pub returns-in-Ok : goal.returns-in-Ok
returns-in-Ok c =
    let d = design_of _ c.accept.result _
    (c.accept.ensures (record { ops_size = refl; args_size = refl; line_cells = refl }))
    c.in-Ok.is in
    run_accepted _ c.args.s
    (call_of c.args.inputs.now
    c.args.row.now) d.process
    d.is_verdict _ _ (c.run_design.ensures d.process d.border.holds d.formed)

pub returns-in-Err : goal.returns-in-Err
returns-in-Err c =
    rw c.refused.ensures (run_refused _ c.args.s
    (call_of c.args.inputs.now
    c.args.row.now) c.in-Err.r
    (turned_of _ c.accept.result _
    (c.accept.ensures (record { ops_size = refl; args_size = refl; line_cells = refl })) c.in-Err.is))
