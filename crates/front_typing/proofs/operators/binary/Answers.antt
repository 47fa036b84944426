-- `front_typing::operators::binary` meets its contract: its tests are those of `binary_code`. Assumes nothing.
use Rattle.std.proofs.Common.{rules}
use Rattle.front_typing.specs.Operators.{binary_code}
use Rattle.front_typing.proofs.operators.binary.Goals as goal

pub returns-then-t-u : goal.returns-then-t-u
unfolding binary_code
returns-then-t-u c = search rules

pub returns-else-t-u : goal.returns-else-t-u
unfolding binary_code
returns-else-t-u c = search rules
