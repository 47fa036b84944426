-- `base_operators::sum` meets its contract: the one arm of + and -. Assumes nothing.
use native.Mathlib.Omega.{arith}
use mir.Facts.{to_z-of_z}
use Rattle.base_operators.proofs.Laws.{sum_arm}
use Rattle.base_operators.proofs.sum.Goals as goal

pub returns : goal.returns
returns c =
    sum_arm c.args.op c.args.x c.args.y c.requires.0 (omega (arith, c.requires.1))
    (simp (to_z-of_z c.ranges.x, to_z-of_z c.ranges.y) at c.sum.ensures)
