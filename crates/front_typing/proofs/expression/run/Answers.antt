-- `front_typing::expression::run` meets its contract. The invariant: the items from `m` on make of the stack what the whole makes. Assumes nothing.
use Rattle.front_typing.specs.Expressions.{sources_of}
use Rattle.front_typing.proofs.StackLaws.{left_first, left_again, left_stop}
use Rattle.front_typing.proofs.expression.run.Goals as goal

pub loop-m-init : goal.loop-m-init
loop-m-init c =
    let s = c.args in left_first (sources_of s.tree.now)
    s.span.from s.span.to s.stack.now c.requires.0

pub item-p-requires : goal.item-p-requires
item-p-requires c = c.loop-m.invariant.room

pub loop-m-preserved : goal.loop-m-preserved
loop-m-preserved c =
    let s = c.args in
    let m = c.loop-m in
    left_again (sources_of s.tree.now) s.span.from s.span.to
    m.stack _ m.p.depth m.p.lowest m.m c.item-p.result m.invariant c.loop-m-test.true
    (rw c.from-i.ensures at c.item-p.ensures)

pub returns : goal.returns
returns c =
    let s = c.args in left_stop
    (sources_of s.tree.now) s.span.from s.span.to
    c.loop-m.stack c.loop-m.p c.loop-m.m c.loop-m.invariant c.loop-m-test.false
