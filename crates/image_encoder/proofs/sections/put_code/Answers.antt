-- `image_encoder::sections::put_code` meets its contract. The invariant: the rest from here stores what the whole loop stores. Assumes nothing.
use Rattle.std.proofs.Common.{arith}
use mir.Facts.{to_z-of_z}
use mir.Val.{SFits}
use mir.Syntax.{w32}
use Rattle.std.proofs.Common.{pos, get_or, rules, ◌∙◌, ap}
use lib.IntN.{ℤ}
use lib.Seq.{sets}
use Rattle.image_encoder.specs.Emitted.{op_bytes}
use Rattle.image_encoder.proofs.SectionsLaws.{code_again, code_done}
use Rattle.image_encoder.proofs.sections.put_code.Goals as goal

pub loop-i-preserved : goal.loop-i-preserved
loop-i-preserved c =
    let a = c.args in
    let l = c.loop-i in
    let h : SFits w32 (get_or a.args.now l.i (pos 0)) = search rules in
    record {
      place = omega (arith, c.put_op-p.ensures.1);
      rest = code_again _ _ _ _ _ _ c.loop-i-test.true
          (c.put_op-p.ensures.2 ∙ ap (λ (z : ℤ). sets l.image l.p (op_bytes (get_or a.codes.now l.i 0) z)) (to_z-of_z h))
          c.put_op-p.ensures.0 l.invariant.rest;
    }

pub returns : goal.returns
returns c = code_done _ _ _ _ _ _ c.loop-i-test.false c.loop-i.invariant.rest
