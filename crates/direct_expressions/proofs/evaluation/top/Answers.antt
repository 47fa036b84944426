-- `direct_expressions::evaluation::top` meets its contract: the number on top is the last in use. Assumes nothing.
use lib.ListN.{get_or}
use lib.IntN.{pos}
use Prim.Native.Nat.{◌-◌}
use mir.Syntax.{w32}
use mir.Val.{SFits}
use mir.Facts.{to_z-of_z}
use Rattle.direct_expressions.proofs.StackLaws.{top_none, top_some}
use borrow.Author.Rules.{rules}
use Rattle.direct_expressions.proofs.evaluation.top.Goals as goal

pub returns-then-depth-lt1 : goal.returns-then-depth-lt1
returns-then-depth-lt1 c = top_none c.args.stack.now c.args.depth c.if-depth-lt1.true

pub returns : goal.returns
returns c =
    let fit : SFits w32 (get_or c.args.stack.now (c.args.depth - 1) (pos 0)) = search rules in
    rw (to_z-of_z fit) (top_some c.args.stack.now c.args.depth c.if-depth-lt1.false)
