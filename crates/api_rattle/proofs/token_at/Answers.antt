-- `api_rattle::token_at` meets its contract: so many bytes from the place on are the token's. Assumes nothing.
use Rattle.api_rattle.proofs.TokenLent.{token_lent}
use Rattle.api_rattle.proofs.token_at.Goals as goal

pub returns : goal.returns
returns c = token_lent _ _ _ _ c.token_length-n.ensures c.part.ensures
