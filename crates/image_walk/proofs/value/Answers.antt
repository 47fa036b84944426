-- `image_walk::value` meets its contract: start and size of the code are the line's. Assumes nothing.
use Rattle.image_walk.proofs.Steps.{part_read}
use Rattle.image_walk.proofs.value.Goals as goal

pub evaluate-requires : goal.evaluate-requires
evaluate-requires c = c.requires

pub returns : goal.returns
returns c =
    record {
      value = part_read _ _ _ _ _ _ _ _ _ _ c.word2-start.ensures.value c.word2-size.ensures.value
          c.evaluate.ensures.value;
      room = c.evaluate.ensures.room;
    }
