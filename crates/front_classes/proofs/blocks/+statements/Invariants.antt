-- The measure of the cycle is the rows left, 4 for each, and a number for the level, so that it falls at a call over the same rows too.
use Rattle.std.proofs.Common.{◌-◌, ◌+◌, ◌*◌}
use Rattle.front_classes.proofs.Steps.{Resting}
use Rattle.front_classes.proofs.blocks.+statements.Given as goal

abbrev pub decreases-block : goal.decreases-block
decreases-block l = 4 * (l.to - l.from) + 3

abbrev pub decreases-if_statement : goal.decreases-if_statement
decreases-if_statement l = 4 * (l.end - l.at) + 1

abbrev pub decreases-statement : goal.decreases-statement
decreases-statement l = 4 * (l.end - l.at) + 2

abbrev pub decreases-while_statement : goal.decreases-while_statement
decreases-while_statement l = 4 * (l.end - l.at) + 1

abbrev pub invariant-block-loop-at : goal.invariant-block-loop-at
invariant-block-loop-at l = Resting l.process.rows.now l.process.starts.now l.process.tokens l.from l.to l.at l.class l.lowest

abbrev pub decreases-block-loop-at : goal.decreases-block-loop-at
decreases-block-loop-at l = l.to - l.at
