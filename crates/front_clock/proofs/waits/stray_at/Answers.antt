-- `front_clock::waits::stray_at` meets its contract: the test is that of `stray_at`. Assumes nothing.
use Rattle.std.proofs.Common.{rules}
use Rattle.front_clock.specs.Positions.{stray_at}
use Rattle.front_clock.proofs.waits.stray_at.Goals as goal

pub returns-then-statement-ne-WAIT : goal.returns-then-statement-ne-WAIT
unfolding stray_at
returns-then-statement-ne-WAIT c = search rules

pub returns : goal.returns
unfolding stray_at
returns c = search rules
