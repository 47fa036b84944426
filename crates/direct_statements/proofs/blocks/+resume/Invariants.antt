-- The measure of the recursion is the rows left.
use Rattle.std.proofs.Common.{◌-◌}
use Rattle.direct_statements.proofs.blocks.+resume.Given as goal

abbrev pub decreases-resume : goal.decreases-resume
decreases-resume l = l.end - l.first
