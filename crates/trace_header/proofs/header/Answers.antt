-- `trace_header::header` meets its contract: the front end refuses the text, or hands out the places of its names. Assumes nothing.
use mathlib.Core.Path.{refl, subst}
use Rattle.base_ir.proofs.Bounds.{held_bounded}
use Rattle.front_accept.proofs.Told.{design_of, turned_of}
use Rattle.trace_header.specs.Lines.{Shows}
use Rattle.trace_header.proofs.Listed.{header_is}
use Rattle.trace_header.proofs.Accepting.{headed_yes, headed_no}
use Rattle.trace_header.proofs.header.Goals as goal

pub returns-in-Ok : goal.returns-in-Ok
returns-in-Ok c =
    let d = design_of _ c.accept.result _
    (c.accept.ensures (record { ops_size = refl; args_size = refl; line_cells = refl })) c.in-Ok.is in
    let h = header_is _ d.process c.in-Ok.declared d.border.spelled
    (held_bounded _ d.border.holds d.formed) in
    headed_yes _ c.named_line.result d.process d.is_verdict d.formed
    (subst (Shows c.named_line.result.bytes c.named_line.result.size) h c.named_line.ensures)

pub returns-in-Err : goal.returns-in-Err
returns-in-Err c =
    headed_no _ _ _ _ (turned_of _ c.accept.result _
    (c.accept.ensures (record { ops_size = refl; args_size = refl; line_cells = refl })) c.in-Err.is)
    c.blank.ensures
