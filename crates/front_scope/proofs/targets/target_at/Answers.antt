-- `front_scope::targets::target_at` meets its contract: the tests are those of `target_at`. Assumes nothing.
use Rattle.std.proofs.Common.{rules}
use Rattle.front_scope.specs.Positions.{target_at}
use Rattle.front_scope.proofs.targets.target_at.Goals as goal

pub returns-then-not-has_name : goal.returns-then-not-has_name
unfolding target_at
returns-then-not-has_name c = search rules

pub returns : goal.returns
unfolding target_at
returns c = search rules
