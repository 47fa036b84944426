-- `base_signed::modulus` meets its contract: the divisor 0 and the least integer by -1 are told first, every other remainder is brought to the sign of the divisor.
-- Assumes nothing.
use mathlib.Core.Path.{sym, ap, ◌∙◌}
use mir.Facts.{to_z-of_z}
use mir.Syntax.{w32}
use mir.Val.{SFits}
use Rattle.spec_design.specs.Expression.{fine}
use Rattle.base_signed.proofs.Division.{divisor_zero, divisor_other, least_modulus, rem_fits}
use Rattle.base_signed.proofs.modulus.Goals as goal

pub returns-then-y-eq0 : goal.returns-then-y-eq0
returns-then-y-eq0 c = divisor_zero c.args.y _ c.ranges.y c.if-y-eq0.true

pub returns-then-least_by_minus_one : goal.returns-then-least_by_minus_one
returns-then-least_by_minus_one c =
    let e = (simp (to_z-of_z c.ranges.x, to_z-of_z c.ranges.y) at c.least_by_minus_one.ensures) in
    least_modulus c.args.x c.args.y (sym e ∙ c.if-least_by_minus_one.true)

pub returns : goal.returns
returns c =
    let s : SFits w32 c.to_sign.result = record { sfits = c.to_sign.type_inv } in
    let e = (simp (to_z-of_z c.ranges.x, to_z-of_z c.ranges.y, to_z-of_z (rem_fits c.args.x c.args.y c.ranges.x)) at c.to_sign.ensures) in
    rw (to_z-of_z s) (ap fine e ∙ divisor_other c.args.y _ c.if-y-eq0.false)
