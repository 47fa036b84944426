-- `front_token::runs::comment_end` meets its contract: the test is that the byte is no LF. Assumes nothing.
use borrow.Author.Rules.{rules}
use Rattle.spec_language.specs.Bytes.{not_lf}
use Rattle.front_token.proofs.runs.comment_end.Goals as goal

pub returns : goal.returns
unfolding not_lf
returns c = c.run_end.ensures not_lf (λ b r e. search rules)
