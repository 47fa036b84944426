-- `image_evaluator::operand::tag` meets its contract, by its test. Assumes nothing.
use borrow.Author.Tests.{ne_eqb}
use Rattle.image_evaluator.proofs.operand.tag.Goals as goal

pub returns-then-b-eq-STD_LOGIC : goal.returns-then-b-eq-STD_LOGIC
returns-then-b-eq-STD_LOGIC c = rw c.if-b-eq-STD_LOGIC.true

pub returns-else-b-eq-STD_LOGIC : goal.returns-else-b-eq-STD_LOGIC
returns-else-b-eq-STD_LOGIC c = rw (ne_eqb _ 0 c.if-b-eq-STD_LOGIC.false)
