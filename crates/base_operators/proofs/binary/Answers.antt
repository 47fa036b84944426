-- `base_operators::binary` meets its contract: each number of a type has its function. Assumes nothing.
use Rattle.std.proofs.Common.{rules}
use mir.Facts.{to_z-of_z}
use Rattle.spec_design.specs.Types.{std_logic, integer, plain, boolean}
use Rattle.base_operators.proofs.Laws.{binary_tag, binary_no_tag}
use Rattle.base_operators.proofs.binary.Goals as goal

pub returns-in-0 : goal.returns-in-0
returns-in-0 c =
    binary_tag (plain std_logic) c.args.op c.args.t c.args.x c.args.y c.in-0.is
    (simp (to_z-of_z c.ranges.x, to_z-of_z c.ranges.y) at c.bits.ensures)

pub returns-in-1 : goal.returns-in-1
returns-in-1 c =
    binary_tag (plain integer) c.args.op c.args.t c.args.x c.args.y c.in-1.is
    (simp (to_z-of_z c.ranges.x, to_z-of_z c.ranges.y) at c.integers.ensures)

pub returns-in-254 : goal.returns-in-254
returns-in-254 c =
    binary_tag boolean c.args.op c.args.t c.args.x c.args.y c.in-254.is
    (simp (to_z-of_z c.ranges.x, to_z-of_z c.ranges.y) at c.logical.ensures)

pub returns-in_default : goal.returns-in_default
returns-in_default c =
    let s = c.args in binary_no_tag s.op s.t s.x s.y (search rules) (search rules) (search rules)
