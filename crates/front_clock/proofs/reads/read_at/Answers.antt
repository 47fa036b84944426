-- `front_clock::reads::read_at` meets its contract: the test is that of `read_at`. Assumes nothing.
use Rattle.std.proofs.Common.{rules}
use Rattle.front_clock.specs.Positions.{read_at}
use Rattle.front_clock.proofs.reads.read_at.Goals as goal

pub returns-then-tree-j-ne-NAME : goal.returns-then-tree-j-ne-NAME
unfolding read_at
returns-then-tree-j-ne-NAME c = search rules

pub returns : goal.returns
unfolding read_at
returns c = search rules
