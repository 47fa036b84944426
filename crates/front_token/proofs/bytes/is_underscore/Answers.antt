-- `front_token::bytes::is_underscore` meets its contract, by the kind that it compares with. Assumes nothing.
use mathlib.Core.Path.{◌∙◌}
use Rattle.spec_language.specs.Bytes.{underscore}
use Rattle.front_token.proofs.ByteKinds.{same_kind}
use Rattle.front_token.proofs.bytes.is_underscore.Goals as goal

pub returns : goal.returns
returns c = c.eq.ensures ∙ same_kind underscore c.args.b _ c.kind_of.ensures
