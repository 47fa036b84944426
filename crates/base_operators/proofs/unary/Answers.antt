-- `base_operators::unary` meets its contract: each number of a type has its function. Assumes nothing.
use mathlib.Core.Path.{◌∙◌}
use Rattle.std.proofs.Common.{rules}
use mir.Facts.{to_z-of_z}
use Rattle.spec_design.specs.Types.{std_logic, integer, plain, boolean}
use Rattle.base_operators.proofs.Laws.{unary_tag, unary_no_tag, one_bit}
use Rattle.base_operators.proofs.unary.Goals as goal

pub returns-in-0 : goal.returns-in-0
returns-in-0 c =
    unary_tag (plain std_logic) c.args.op c.args.t c.args.x c.in-0.is
    ((rw (to_z-of_z c.ranges.x) at c.one_logical.ensures) ∙ one_bit c.args.op c.args.x)

pub returns-in-1 : goal.returns-in-1
returns-in-1 c =
    unary_tag (plain integer) c.args.op c.args.t c.args.x c.in-1.is (rw (to_z-of_z c.ranges.x) at c.one_integer.ensures)

pub returns-in-254 : goal.returns-in-254
returns-in-254 c =
    unary_tag boolean c.args.op c.args.t c.args.x c.in-254.is (rw (to_z-of_z c.ranges.x) at c.one_logical-in-254.ensures)

pub returns-in_default : goal.returns-in_default
returns-in_default c =
    let s = c.args in unary_no_tag s.op s.t s.x (search rules) (search rules) (search rules)
