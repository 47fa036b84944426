-- `front_scope::reads::read_at` meets its contract: the tests are those of `read_at`. Assumes nothing.
use Rattle.std.proofs.Common.{rules}
use Rattle.front_scope.specs.Positions.{read_at}
use Rattle.front_scope.proofs.reads.read_at.Goals as goal

pub returns-then-tree-j-ne-NAME : goal.returns-then-tree-j-ne-NAME
unfolding read_at
returns-then-tree-j-ne-NAME c = search rules

pub returns : goal.returns
unfolding read_at
returns c = search rules
