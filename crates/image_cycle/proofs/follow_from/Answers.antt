-- `image_cycle::follow_from` meets its contract: the first line is the table's. Assumes nothing.
use Rattle.image_checks.proofs.Opened.{opens_signature}
use Rattle.image_cycle.proofs.Runs.{place_read}
use Rattle.image_cycle.proofs.follow_from.Goals as goal

pub returns : goal.returns
returns c =
    λ t h ok. let a = c.args in
    place_read a.signature.now a.lines.now a.code.now t h a.place ok a.inputs.now _ _ _ _
    (c.first_line-x.ensures.value t a.signature.now a.code.now h.opens ok)
    (c.follow_line.ensures t.signature (opens_signature a.signature.now a.lines.now a.code.now t h.opens))
