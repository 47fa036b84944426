-- `image_walk::perform` meets its contract: a wait, null, or a line that has a value. Assumes nothing.
use Rattle.image_walk.proofs.Steps.{wait_at, null_at, has_value}
use Rattle.image_walk.proofs.perform.Goals as goal

pub returns-then-k-eq-WAIT : goal.returns-then-k-eq-WAIT
returns-then-k-eq-WAIT c = record { performs_line = wait_at c.kind-k.ensures c.if-k-eq-WAIT.true; room = c.requires }

pub returns-then-k-eq-NULL : goal.returns-then-k-eq-NULL
returns-then-k-eq-NULL c = record { performs_line = null_at c.kind-k.ensures c.if-k-eq-NULL.true c.next.ensures; room = c.requires }

pub operate-requires : goal.operate-requires
operate-requires c = (
  c.requires,
  has_value c.kind-k.ensures c.if-k-eq-WAIT.false
      c.if-k-eq-NULL.false,
)
