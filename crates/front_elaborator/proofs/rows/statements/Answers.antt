-- `front_elaborator::rows::statements` meets its contract. The invariant: the rest from here stores what the whole stores. Assumes nothing.
use Rattle.front_elaborator.proofs.RowLoop.{storing_first, storing_again, storing_last}
use Rattle.front_elaborator.proofs.rows.statements.Goals as goal

pub loop-j-init : goal.loop-j-init
loop-j-init c = storing_first _ _ _ _ _

pub loop-j-preserved : goal.loop-j-preserved
loop-j-preserved c = storing_again _ _ _ _ _ _ _ c.loop-j-test.true c.put.ensures c.loop-j.invariant

pub returns : goal.returns
returns c = storing_last _ _ _ _ _ _ _ _ c.min-j-end.ensures c.loop-j-test.false c.loop-j.invariant
