-- `trace_lines::rows::number` meets its contract. The invariant: the rest, read on from v, has the number of the whole. Assumes nothing.
use mathlib.Core.Path.{◌≡◌, sym, ◌∙◌}
use mathlib.Core.Bool.{true, false}
use Prim.Native.Nat.{◌-◌}
use lib.ListN.{length, get_or}
use borrow.Author.Rules.{rules}
use Rattle.spec_language.specs.Bytes.{between}
use Rattle.trace_lines.proofs.ReadingLaws.{number_none, number_first, number_stop, number_again, number_end}
use Rattle.trace_lines.proofs.rows.number.Goals as goal

pub returns-then-is_empty : goal.returns-then-is_empty
returns-then-is_empty c = number_none _ (search rules)

pub loop-b-init : goal.loop-b-init
loop-b-init c = (search rules, number_first _ (search rules))

pub returns-then-not-is_ascii_digit : goal.returns-then-not-is_ascii_digit
unfolding between
returns-then-not-is_ascii_digit c =
    number_stop c.args.w.now _ c.loop-b.v c.loop-b-test.true (search rules) ∙ c.loop-b.invariant.1

pub loop-b-preserved : goal.loop-b-preserved
unfolding between
loop-b-preserved c =
    (search rules, number_again _ _ _ _ c.loop-b-test.true (search rules) (search rules) ∙ c.loop-b.invariant.1)

pub returns : goal.returns
returns c = number_end c.args.w.now _ _ c.loop-b-test.false c.loop-b.invariant.0 ∙ c.loop-b.invariant.1
