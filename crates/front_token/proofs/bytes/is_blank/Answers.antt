-- `front_token::bytes::is_blank` meets its contract, by the kind that it compares with. Assumes nothing.
use mathlib.Core.Path.{◌∙◌}
use Rattle.spec_language.specs.Bytes.{blank}
use Rattle.front_token.proofs.ByteKinds.{same_kind}
use Rattle.front_token.proofs.bytes.is_blank.Goals as goal

pub returns : goal.returns
returns c = c.eq.ensures ∙ same_kind blank c.args.b _ c.kind_of.ensures
