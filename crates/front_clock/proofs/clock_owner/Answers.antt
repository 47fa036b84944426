-- `front_clock::clock_owner` meets its contract: the test is that of `owner_in`, and the law ties it to the tree. Assumes nothing.
use Rattle.front_clock.proofs.Steps.{owner_there, owner_none}
use Rattle.front_clock.proofs.Exact.{owns}
use Rattle.front_clock.proofs.clock_owner.Goals as goal

pub returns-then-w-n : goal.returns-then-w-n
returns-then-w-n c =
    owns c.args.rows.now c.args.s c.args.owners.now
    c.args.n _
    (owner_there c.args.rows.now c.args.s c.args.owners.now
    c.args.n _ c.first_wait-w.ensures _ c.if-w-n.true c.owner_at.ensures)

pub returns-else-w-n : goal.returns-else-w-n
returns-else-w-n c =
    owns c.args.rows.now c.args.s c.args.owners.now c.args.n _
    (owner_none c.args.rows.now c.args.s c.args.owners.now c.args.n _
    c.first_wait-w.ensures c.if-w-n.false)
