-- `base_signed::divide` meets its contract: the divisor 0 and the least integer by -1 are told first, every other quotient fits. Assumes nothing.
use mathlib.Core.Path.{sym, ◌∙◌}
use mir.Facts.{to_z-of_z}
use mir.Syntax.{w32}
use mir.Val.{SFits}
use lib.Signed.{quot_z}
use Rattle.base_signed.proofs.Range.{integer_inside}
use Rattle.base_signed.proofs.Division.{divisor_zero, divisor_other, least_quotient, quot_fits}
use Rattle.base_signed.proofs.divide.Goals as goal

pub returns-then-y-eq0 : goal.returns-then-y-eq0
returns-then-y-eq0 c = divisor_zero c.args.y _ c.ranges.y c.if-y-eq0.true

pub returns-then-least_by_minus_one : goal.returns-then-least_by_minus_one
returns-then-least_by_minus_one c =
    let e = (simp (to_z-of_z c.ranges.x, to_z-of_z c.ranges.y) at c.least_by_minus_one.ensures) in
    least_quotient c.args.x c.args.y (sym e ∙ c.if-least_by_minus_one.true)

pub returns-else-least_by_minus_one : goal.returns-else-least_by_minus_one
returns-else-least_by_minus_one c =
    let e = (simp (to_z-of_z c.ranges.x, to_z-of_z c.ranges.y) at c.least_by_minus_one.ensures) in
    let fits : SFits w32 (quot_z c.args.x c.args.y) = quot_fits c.args.x c.args.y c.ranges.x (sym e ∙ c.if-least_by_minus_one.false) in
    simp (to_z-of_z c.ranges.x, to_z-of_z c.ranges.y, to_z-of_z fits) (sym (integer_inside _ fits) ∙ divisor_other c.args.y _ c.if-y-eq0.false)
