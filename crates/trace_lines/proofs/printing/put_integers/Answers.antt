-- `trace_lines::printing::put_integers` meets its contract. The invariant: what is stored and the integers from here on make the whole. Assumes nothing.
use mathlib.Core.Path.{refl}
use lib.IntN.{pos}
use lib.ListN.{get_or}
use mir.Syntax.{w32}
use mir.Val.{SFits}
use mir.Facts.{to_z-of_z}
use Rattle.trace_lines.proofs.PrintingLaws.{printed_again, printed_end}
use borrow.Author.Rules.{rules}
use Rattle.trace_lines.proofs.printing.put_integers.Goals as goal

pub loop-v-preserved : goal.loop-v-preserved
loop-v-preserved c =
    let fit : SFits w32 (get_or c.args.values.now c.loop-v.v-index (pos 0)) = search rules in
    printed_again _ _ _ _ _ _ c.loop-v.invariant _ _ _ _ _ c.loop-v-test.true refl c.put-next.ensures
    (rw (to_z-of_z fit) at c.put_integer-k.ensures) (search rules)

pub returns : goal.returns
returns c = printed_end _ _ _ _ _ _ c.loop-v.invariant c.loop-v-test.false
