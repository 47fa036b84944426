-- `front_scope::targets::target_fits` meets its contract: the tests are those of `fits_in`. Assumes nothing.
use Rattle.std.proofs.Common.{rules}
use Rattle.front_scope.specs.Positions.{fits_in}
use Rattle.front_scope.proofs.targets.target_fits.Goals as goal

pub returns-in-0 : goal.returns-in-0
unfolding fits_in
returns-in-0 c = search rules

pub returns-in-1 : goal.returns-in-1
unfolding fits_in
returns-in-1 c = search rules

pub returns-in_default : goal.returns-in_default
unfolding fits_in
returns-in_default c = search rules
