-- `api_rattle::find` meets its contract: it is the opener's. Assumes nothing.
use mathlib.Core.Path.{◌∙◌}
use Rattle.spec_format.specs.Opening.{open_of}
use Rattle.api_rattle.proofs.LendingLaws.{found}
use Rattle.api_rattle.proofs.find.Goals as goal

pub returns : goal.returns
returns c = c.open.ensures ∙ found c.args.bytes.now (open_of c.args.bytes.now)
