-- `front_scope::owners::same_at` meets its contract: the tests are those of `same_in`. Assumes nothing.
use Rattle.std.proofs.Common.{rules}
use Rattle.front_scope.specs.Positions.{same_in}
use Rattle.front_scope.proofs.owners.same_at.Goals as goal

pub returns : goal.returns
unfolding same_in
returns c = search rules
