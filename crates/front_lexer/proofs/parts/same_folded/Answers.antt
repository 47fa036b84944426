-- `front_lexer::parts::same_folded` meets its contract: as long, and the same byte at every place without regard to case. Assumes nothing.
use mathlib.Core.Path.{sym, ◌∙◌}
use borrow.Author.Tests.{ne_eqb}
use borrow.Author.Rules.{rules}
use Rattle.front_lexer.proofs.PartLaws.{folded_by, folded_length}
use Rattle.front_lexer.proofs.parts.same_folded.Goals as goal

pub returns-then-a-b : goal.returns-then-a-b
returns-then-a-b c = folded_by _ _ _ c.if-a-b.true (search rules)

pub returns-else-a-b : goal.returns-else-a-b
returns-else-a-b c = ne_eqb _ _ c.if-a-b.false ∙ sym (folded_length c.args.a.now c.args.b.now c.if-a-b.false)
