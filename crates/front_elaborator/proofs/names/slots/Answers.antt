-- `front_elaborator::names::slots` meets its contract. The invariant: what is still to be written makes the array of the contract. Assumes nothing.
use Rattle.std.proofs.Common.{sym}
use Rattle.front_elaborator.specs.Names.{slots_after}
use Rattle.front_elaborator.proofs.NameLaws.{slots_first, slots_again, slots_end}
use Rattle.front_elaborator.proofs.names.slots.Goals as goal

pub loop-j-init : goal.loop-j-init
loop-j-init c = slots_first _ _ _

pub loop-j-preserved : goal.loop-j-preserved
loop-j-preserved c = slots_again _ _ _ _ c.loop-j-test.true c.slot_of.ensures c.loop-j.invariant

pub returns : goal.returns
unfolding slots_after
returns c = rw (sym c.min-j-end.ensures) (slots_end _ _ _ _ c.loop-j-test.false c.loop-j.invariant)
