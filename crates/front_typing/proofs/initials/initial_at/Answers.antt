-- `front_typing::initials::initial_at` meets its contract: its tests are those of `initial_at`. Assumes nothing.
use Rattle.std.proofs.Common.{rules}
use Rattle.front_typing.specs.Positions.{initial_at}
use Rattle.front_typing.proofs.initials.initial_at.Goals as goal

pub returns : goal.returns
unfolding initial_at
returns c = search rules
