-- `front_token::bytes::lower_case` meets its contract: the capitals are a stretch of the bytes. Assumes nothing.
use mathlib.Core.Path.{◌∙◌}
use Rattle.front_token.proofs.Lower.{lower_is}
use Rattle.front_token.proofs.bytes.lower_case.Goals as goal

pub returns : goal.returns
returns c = c.to_ascii_lowercase.ensures.value ∙ lower_is c.args.b
