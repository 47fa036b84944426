-- `image_batch::widths_in` meets its contract: the first two bytes of the section are the counts. Assumes nothing.
use Rattle.image_batch.proofs.RowLaws.{section_widths}
use Rattle.image_batch.proofs.widths_in.Goals as goal

pub returns : goal.returns
returns c = section_widths c.args.signature.now _ _ c.count.ensures.value c.count-2.ensures.value
