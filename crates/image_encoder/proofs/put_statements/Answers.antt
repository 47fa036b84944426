-- `image_encoder::put_statements` meets its contract: the code stands behind the lines. Assumes nothing.
use Rattle.image_encoder.proofs.WriteLaws.{body_stored}
use Rattle.image_encoder.proofs.put_statements.Goals as goal

pub returns : goal.returns
returns c =
    let a = c.args in
    body_stored a.codes.now a.args.now a.rows.now a.k a.n a.at a.image.now
    c.put_body.ensures c.put_code.ensures
