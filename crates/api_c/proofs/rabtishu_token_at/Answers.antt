-- `api_c::rabtishu_token_at` meets its contract: the length of the part that the lexer hands out. Assumes nothing.
use mathlib.Core.Path.{ap}
use lib.ListN.{length}
use Rattle.api_c.proofs.rabtishu_token_at.Goals as goal

pub returns : goal.returns
returns c = ap length c.token_at.ensures
