-- `front_scope::doubled::doubled_at` meets its contract: the tests are those of `doubled_at`. Assumes nothing.
use Rattle.std.proofs.Common.{rules}
use Rattle.front_scope.specs.Positions.{doubled_at}
use Rattle.front_scope.proofs.doubled.doubled_at.Goals as goal

pub returns : goal.returns
unfolding doubled_at
returns c = search rules
