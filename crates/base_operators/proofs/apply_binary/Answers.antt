-- `base_operators::apply_binary` meets its contract: what is applied without the table has the type integer. Assumes nothing.
use Rattle.base_operators.proofs.Laws.{integer_on}
use Rattle.base_operators.proofs.apply_binary.Goals as goal

pub returns-in-18 : goal.returns-in-18
returns-in-18 c = rw (c.if-t-ne-INTEGER.false, integer_on) c.apply_sum.ensures
