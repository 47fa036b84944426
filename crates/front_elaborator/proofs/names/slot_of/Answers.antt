-- `front_elaborator::names::slot_of` meets its contract. The invariant: what is counted with what is still to be counted is the index. Assumes nothing.
use Rattle.std.proofs.Common.{sym, arith}
use Rattle.front_elaborator.specs.Names.{slot_of}
use Rattle.front_elaborator.proofs.NameLaws.{bool_most, count_first, count_again, count_end}
use Rattle.front_elaborator.proofs.names.slot_of.Goals as goal

pub loop-k-init : goal.loop-k-init
loop-k-init c = count_first _ _

pub overflow_add-n : goal.overflow_add-n
overflow_add-n c = let m = bool_most _ c.from-n.ensures in omega (arith, c.min-k-end.ensures, c.loop-k.invariant.few)

pub loop-k-preserved : goal.loop-k-preserved
loop-k-preserved c = count_again _ _ c.loop-k-test.true c.belongs.ensures c.from-n.ensures c.loop-k.invariant

pub returns : goal.returns
unfolding slot_of
returns c = rw (sym c.field_at-mode.ensures, sym c.min-k-end.ensures) (count_end _ _ c.loop-k-test.false c.loop-k.invariant)
