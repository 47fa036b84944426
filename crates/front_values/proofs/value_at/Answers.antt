-- `front_values::value_at` meets its contract: the numbers of the row are those of `value_at`. Assumes nothing.
use Rattle.std.proofs.Common.{rules}
use Rattle.front_values.specs.Positions.{value_at}
use Rattle.front_values.proofs.value_at.Goals as goal

pub returns : goal.returns
unfolding value_at
returns c = search rules
