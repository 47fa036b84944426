-- `direct_expressions::evaluation::named` meets its contract: a name's index is its operation's argument. Assumes nothing.
use mir.Syntax.{w32}
use mir.Val.{SFits}
use mir.Facts.{to_z-of_z}
use borrow.Author.Rules.{rules}
use Rattle.direct_expressions.proofs.evaluation.named.Goals as goal

pub returns : goal.returns
returns c =
    let fit : SFits w32 c.number.result = search rules in
    rw (to_z-of_z fit) (rw (to_z-of_z c.ranges.arg) at (rw c.to_bits.ensures at c.number.ensures))
