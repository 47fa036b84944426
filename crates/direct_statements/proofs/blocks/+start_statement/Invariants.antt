-- The measure of the cycle is twice the rows left, and one more for a block, so that it falls at the call of a block's only statement too. The loop keeps that
-- the rest of the block leads where the whole leads.
use Rattle.std.proofs.Common.{◌-◌, ◌+◌, ◌*◌}
use Rattle.direct_statements.proofs.BlockLaws.{Keeps}
use Rattle.direct_statements.proofs.blocks.+start_statement.Given as goal

abbrev pub decreases-start : goal.decreases-start
decreases-start l = 2 * (l.end - l.first) + 1

abbrev pub decreases-statement : goal.decreases-statement
decreases-statement l = 2 * (l.next - l.at)

abbrev pub invariant-start-loop-at : goal.invariant-start-loop-at
invariant-start-loop-at l =
    Keeps l.codes l.args l.rows l.inputs l.first l.end l.count l.initial.outputs l.initial.variables l.at l.n l.outputs l.variables

abbrev pub decreases-start-loop-at : goal.decreases-start-loop-at
decreases-start-loop-at l = l.end - l.at
