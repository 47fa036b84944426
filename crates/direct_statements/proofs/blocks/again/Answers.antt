-- `direct_statements::blocks::again` meets its contract: the test is that of the definition. Assumes nothing.
use borrow.Author.Tests.{eq-eqb, ne_eqb}
use Rattle.direct_statements.proofs.blocks.again.Goals as goal

pub returns-then-kind-eq-WHILE : goal.returns-then-kind-eq-WHILE
returns-then-kind-eq-WHILE c = rw (eq-eqb c.args.kind 5 c.if-kind-eq-WHILE.true)

pub returns-else-kind-eq-WHILE : goal.returns-else-kind-eq-WHILE
returns-else-kind-eq-WHILE c = rw (ne_eqb c.args.kind 5 c.if-kind-eq-WHILE.false)
