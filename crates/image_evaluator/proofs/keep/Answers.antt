-- `image_evaluator::keep` meets its contract: one value more on the stack, or none. Assumes nothing.
use mir.Syntax.{w32}
use mir.Val.{SFits}
use Rattle.image_evaluator.proofs.StackLaws.{kept}
use borrow.Author.Rules.{rules}
use Rattle.image_evaluator.proofs.keep.Goals as goal

pub returns : goal.returns
returns c =
    let s = c.args in
    let fit : SFits w32 c.in_ok-f.f.value = search rules in
    λ o q.
    kept s.stack.now.values s.stack.now.tags s.i c.in_ok-f.f.value c.in_ok-f.f.kind s.at o (rw c.in_ok-f.was at q) fit c.requires.0 c.requires.1
