-- `front_elaborator::items::resolve` meets its contract. The invariant: the rest from here stores what the whole stores. Assumes nothing.
use Rattle.std.proofs.Common.{◌∙◌, rules}
use mir.Syntax.{w32}
use mir.Val.{SFits}
use mir.Facts.{to_z-of_z}
use Rattle.front_elaborator.proofs.ItemLoop.{resolving_first, resolving_again, resolving_last}
use Rattle.front_elaborator.proofs.items.resolve.Goals as goal

pub loop-j-init : goal.loop-j-init
loop-j-init c = resolving_first _ _ _ _ _

pub loop-j-preserved : goal.loop-j-preserved
loop-j-preserved c =
    let fit : SFits w32 c.value_at.result = search rules in
    resolving_again _ _ _ _ _ c.loop-j-test.true c.from-i.ensures (to_z-of_z fit ∙ c.value_at.ensures) c.loop-j.invariant

pub returns : goal.returns
returns c = resolving_last _ _ _ _ _ _ c.min-j-end.ensures c.loop-j-test.false c.loop-j.invariant
