-- `base_signed::remainder` meets its contract: the divisor 0 and the least integer by -1 are told first, every other remainder is the machine's. Assumes nothing.
use mathlib.Core.Path.{sym, ◌∙◌}
use mir.Facts.{to_z-of_z}
use Rattle.base_signed.proofs.Division.{divisor_zero, divisor_other, least_remainder, rem_fits}
use Rattle.base_signed.proofs.remainder.Goals as goal

pub returns-then-y-eq0 : goal.returns-then-y-eq0
returns-then-y-eq0 c = divisor_zero c.args.y _ c.ranges.y c.if-y-eq0.true

pub returns-then-least_by_minus_one : goal.returns-then-least_by_minus_one
returns-then-least_by_minus_one c =
    let e = (simp (to_z-of_z c.ranges.x, to_z-of_z c.ranges.y) at c.least_by_minus_one.ensures) in
    least_remainder c.args.x c.args.y (sym e ∙ c.if-least_by_minus_one.true)

pub returns : goal.returns
returns c =
    simp (to_z-of_z c.ranges.x, to_z-of_z c.ranges.y, to_z-of_z (rem_fits c.args.x c.args.y c.ranges.x))
    (divisor_other c.args.y _ c.if-y-eq0.false)
