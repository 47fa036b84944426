-- `front_token::pieces::number_at` meets its contract. Assumes nothing.
use Rattle.front_token.proofs.PieceLaws.{number_good}
use Rattle.front_token.proofs.pieces.number_at.Goals as goal

pub returns : goal.returns
returns c = number_good _ _ _ c.digits_end.ensures
