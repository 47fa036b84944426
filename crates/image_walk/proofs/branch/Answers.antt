-- `image_walk::branch` meets its contract: next by the value 1, other by any other. Assumes nothing.
use mir.Facts.{to_z-of_z}
use Rattle.image_walk.proofs.Steps.{when_true, when_false}
use Rattle.image_walk.proofs.branch.Goals as goal

pub returns-then-is_one : goal.returns-then-is_one
returns-then-is_one c =
    when_true _ _ _ _ _ (rw (to_z-of_z c.ranges.v) at c.is_one.ensures)
    c.if-is_one.true c.next.ensures

pub returns-else-is_one : goal.returns-else-is_one
returns-else-is_one c =
    when_false _ _ _ _ _ (rw (to_z-of_z c.ranges.v) at c.is_one.ensures)
    c.if-is_one.false c.word2.ensures.value
