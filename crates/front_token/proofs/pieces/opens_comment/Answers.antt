-- `front_token::pieces::opens_comment` meets its contract, by its two tests. Assumes nothing.
use mathlib.Core.Path.{◌∙◌}
use borrow.Author.Tests.{ne_eqb}
use Rattle.front_token.proofs.PieceLaws.{dashes_not, dashes_second}
use Rattle.front_token.proofs.pieces.opens_comment.Goals as goal

pub returns-then-text-at-eq45 : goal.returns-then-text-at-eq45
returns-then-text-at-eq45 c = dashes_second c.args.text.now c.args.at _ _ c.if-text-at-eq45.true c.byte_at.ensures

pub returns-else-text-at-eq45 : goal.returns-else-text-at-eq45
returns-else-text-at-eq45 c = ne_eqb _ 45 c.if-text-at-eq45.false ∙ dashes_not c.args.text.now c.args.at _ c.if-text-at-eq45.false
