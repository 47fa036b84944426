-- `front_declarations::put_row` meets its contract: six stores. Assumes nothing.
use mathlib.Core.Path.{refl}
use Rattle.front_layout.specs.Headings.{set_decl}
use Rattle.front_declarations.proofs.put_row.Goals as goal

pub returns : goal.returns
unfolding set_decl
returns c = refl
