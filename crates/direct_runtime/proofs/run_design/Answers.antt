-- `direct_runtime::run_design` meets its contract: the arrays are lent on as slices. Assumes nothing.
use Rattle.direct_runtime.proofs.run_design.Goals as goal

pub returns : goal.returns
returns c = c.advance.ensures
