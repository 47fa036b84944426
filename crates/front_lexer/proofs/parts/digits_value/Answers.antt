-- `front_lexer::parts::digits_value` meets its contract. The invariant: the rest, read on from v, has the value of the whole. Assumes nothing.
use mathlib.Core.Path.{sym, ◌∙◌}
use Rattle.front_lexer.proofs.PartLaws.{value_again, value_end}
use borrow.Author.Rules.{rules}
use Rattle.front_lexer.proofs.parts.digits_value.Goals as goal

pub loop-b-preserved : goal.loop-b-preserved
loop-b-preserved c = (search rules, value_again _ _ _ _ c.loop-b-test.true c.next_value-v.ensures ∙ c.loop-b.invariant.1)

pub returns : goal.returns
returns c = sym (value_end c.args.digits.now _ _ c.loop-b-test.false) ∙ c.loop-b.invariant.1
