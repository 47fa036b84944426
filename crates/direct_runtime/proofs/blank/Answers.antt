-- `direct_runtime::blank` meets its contract: no outputs and no variables, and 0 behind them. Assumes nothing.
use mathlib.Core.Path.{refl}
use Rattle.spec_semantics.specs.Records.{state_for, pad}
use Rattle.direct_runtime.proofs.blank.Goals as goal

pub returns : goal.returns
unfolding state_for pad
returns c = refl
