-- `image_encoder::sections::put_lines` meets its contract. The invariant: the rest from here stores what the whole loop stores. Assumes nothing.
use Rattle.std.proofs.Common.{arith}
use Rattle.image_encoder.proofs.SectionsLaws.{lines_again, lines_done}
use Rattle.image_encoder.proofs.sections.put_lines.Goals as goal

pub loop-j-preserved : goal.loop-j-preserved
loop-j-preserved c =
    record {
      offset = omega (arith, c.code_size-size.ensures.upper_bound);
      rest = lines_again _ _ _ _ _ _ _ _ _ c.loop-j-test.true c.code_size-size.ensures.value c.put_row.ensures c.loop-j.invariant.rest;
    }

pub returns : goal.returns
returns c = lines_done _ _ _ _ _ _ _ _ _ c.loop-j-test.false c.loop-j.invariant.rest
