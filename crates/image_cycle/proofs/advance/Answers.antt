-- `image_cycle::advance` meets its contract: 14, or the cycle where the rows are right, with its output row. Assumes nothing.
use Rattle.image_checks.proofs.Opened.{opens_signature}
use Rattle.image_cycle.proofs.Calls.{row_is_right, row_advances, row_shown_lem}
use Rattle.image_cycle.proofs.advance.Goals as goal

pub returns-in-Ok : goal.returns-in-Ok
returns-in-Ok c =
    λ t h. let a = c.args in
    let e = c.row_place.ensures t.signature
    (opens_signature a.signature.now a.lines.now a.code.now t h.opens) in
    let right = row_is_right t a.s a.inputs.now a.row.now c.row_place.result e
    c.in-Ok.is in
    row_shown_lem t a.s a.inputs.now a.row.now h.held.good right _ _ _ (c.judged.ensures t a.row.now h right)
    c.show.ensures.0 c.show.ensures.1

pub returns-in-Err : goal.returns-in-Err
returns-in-Err c =
    λ t h. let a = c.args in
    let e = c.row_place.ensures t.signature
    (opens_signature a.signature.now a.lines.now a.code.now t h.opens) in
    let r = row_advances t a.s a.inputs.now a.row.now _ c.row_place.result e
    c.in-Err.is _ c.refused.ensures in
    (r.answer, r.state, r.row)
