-- `front_expressions::put` meets its contract: both arrays are stored to at the number of items so far. Assumes nothing.
use mathlib.Core.Path.{refl}
use Rattle.front_cursor.specs.Reading.{here}
use Rattle.front_expressions.proofs.Items.{put_on}
use Rattle.front_expressions.proofs.put.Goals as goal

pub returns : goal.returns
returns c = record { answer = put_on (here c.args.q) refl; stored = λ z. refl }
