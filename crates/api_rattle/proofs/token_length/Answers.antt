-- `api_rattle::token_length` meets its contract: the length of the part that the lexer hands out. Assumes nothing.
use mathlib.Core.Path.{ap}
use lib.ListN.{length}
use Rattle.api_rattle.proofs.token_length.Goals as goal

pub returns : goal.returns
returns c = ap length c.token_at-t.ensures
