-- `image_encoder::write_counted` meets its contract: the sections one behind another, where there is room for all of them. Assumes nothing.
use Rattle.image_encoder.proofs.WriteLaws.{write_short, write_done}
use Rattle.image_encoder.proofs.write_counted.Goals as goal

pub returns-then-image-size : goal.returns-then-image-size
returns-then-image-size c =
    let a = c.args in
    write_short a.codes.now a.args.now a.rows.now a.d a.image.now c.signature_size-s.ensures
    c.run_width-c.ensures.value c.if-image-size.true

pub returns : goal.returns
returns c =
    let a = c.args in
    write_done a.codes.now a.args.now a.rows.now a.d a.image.now
    c.signature_size-s.ensures
    c.run_width-c.ensures.value
    c.if-image-size.false
    c.put_front.ensures c.put_statements.ensures
