-- `direct_statements::blocks::pick` meets its contract: the test is that of the definition. Assumes nothing.
use borrow.Author.Tests.{lt-ltb, le-ltb}
use Rattle.direct_statements.proofs.blocks.pick.Goals as goal

pub returns-then-place-other : goal.returns-then-place-other
returns-then-place-other c = rw (lt-ltb c.args.place c.args.other c.if-place-other.true)

pub returns-else-place-other : goal.returns-else-place-other
returns-else-place-other c = rw (le-ltb c.args.place c.args.other c.if-place-other.false)
