-- `direct_statements::blocks::branch` meets its contract: the test is that of the definition. Assumes nothing.
use mir.Facts.{to_z-of_z}
use Rattle.spec_semantics.specs.Evaluation.{is_one}
use Rattle.direct_statements.proofs.StatementLaws.{branch_true, branch_false}
use Rattle.direct_statements.proofs.blocks.branch.Goals as goal

pub returns-then-is_one : goal.returns-then-is_one
returns-then-is_one c =
    branch_true c.is_one.result (is_one c.args.v) c.args.at c.args.other
    c.args.end (rw (to_z-of_z c.ranges.v) at c.is_one.ensures) c.if-is_one.true

pub returns-else-is_one : goal.returns-else-is_one
returns-else-is_one c =
    branch_false c.is_one.result (is_one c.args.v) c.args.at c.args.other
    c.args.end (rw (to_z-of_z c.ranges.v) at c.is_one.ensures) c.if-is_one.false
