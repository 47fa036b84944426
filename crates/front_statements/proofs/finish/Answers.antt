-- `front_statements::finish` meets its contract: six stores. Assumes nothing.
use mathlib.Core.Path.{refl}
use Rattle.front_layout.specs.Rows.{set_row}
use Rattle.front_statements.proofs.finish.Goals as goal

pub returns : goal.returns
unfolding set_row
returns c = refl
