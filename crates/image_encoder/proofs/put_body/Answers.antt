-- `image_encoder::put_body` meets its contract: followers and reaches, then the lines that they give. Assumes nothing.
use Prim.Native.Nat.{ℕ}
use native.Mathlib.Omega.{arith}
use lib.ListN.{replicate, length-replicate}
use Rattle.image_encoder.proofs.WriteLaws.{body_lines}
use Rattle.image_encoder.proofs.put_body.Goals as goal

pub returns : goal.returns
returns c =
    let a = c.args in
    let few = c.requires.1 in
    let l = length-replicate {A = ℕ} 512 0 in
    let f = c.find.ensures in
    body_lines a.codes.now a.rows.now a.n a.at _ _ (replicate 512 0) _ a.image.now _ (omega arith)
    (omega arith) (omega arith) (f.followed few) (f.reached few) c.put_lines.ensures
