-- `front_scope::reads::readable` meets its contract: the tests are those of `readable_in`. Assumes nothing.
use Rattle.std.proofs.Common.{rules}
use Rattle.front_scope.specs.Positions.{readable_in}
use Rattle.front_scope.proofs.reads.readable.Goals as goal

pub returns-then-mode-ne-OUT : goal.returns-then-mode-ne-OUT
unfolding readable_in
returns-then-mode-ne-OUT c = search rules

pub returns-else-mode-ne-OUT : goal.returns-else-mode-ne-OUT
unfolding readable_in
returns-else-mode-ne-OUT c = search rules
