-- `base_operators::one_logical` meets its contract: not is the one operator. Assumes nothing.
use Rattle.std.proofs.Common.{rules}
use mir.Facts.{to_z-of_z}
use mir.Val.{SFits}
use mir.Syntax.{w32}
use Rattle.spec_design.specs.Types.{boolean}
use Rattle.spec_design.specs.Expression.{invert}
use Rattle.base_operators.proofs.Laws.{unary_arm, truth_other}
use Rattle.base_operators.proofs.one_logical.Goals as goal

pub returns-in-17 : goal.returns-in-17
returns-in-17 c =
    let fit : SFits w32 c.inverted.result = search rules in
    unary_arm invert boolean c.args.op c.args.x c.in-17.is (rw (to_z-of_z fit) (rw (to_z-of_z c.ranges.x) at c.inverted.ensures))

pub returns-in_default : goal.returns-in_default
returns-in_default c = truth_other c.args.op c.args.x (search rules)
