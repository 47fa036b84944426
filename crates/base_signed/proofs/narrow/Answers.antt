-- `base_signed::narrow` meets its contract: the two tests are those of the range. Assumes nothing.
use mathlib.Core.Path.{sym}
use mir.Facts.{to_z-of_z}
use mir.Syntax.{w32}
use mir.Val.{SFits}
use Rattle.base_signed.proofs.Range.{fits_range, integer_inside, integer_low, integer_high}
use Rattle.base_signed.proofs.narrow.Goals as goal
use Rattle.base_signed.proofs.narrow.Goals.{then-s-lt-WIDE_LEAST-via-then-s-lt-WIDE_LEAST, then-s-lt-WIDE_LEAST-via-else-s-lt-WIDE_LEAST+then-s-gt-WIDE_GREATEST}

pub returns-then-s-lt-WIDE_LEAST : goal.returns-then-s-lt-WIDE_LEAST
returns-then-s-lt-WIDE_LEAST c =
    elim c.then-s-lt-WIDE_LEAST.branch [
      | then-s-lt-WIDE_LEAST-via-then-s-lt-WIDE_LEAST w ↦ sym (integer_low _ (rw (to_z-of_z c.ranges.s) at w.if-s-lt-WIDE_LEAST.true))
      | then-s-lt-WIDE_LEAST-via-else-s-lt-WIDE_LEAST+then-s-gt-WIDE_GREATEST w ↦
          sym (integer_high _ (rw (to_z-of_z c.ranges.s) at w.if-s-gt-WIDE_GREATEST.true))
    ]

pub returns : goal.returns
returns c =
    let in_range : SFits w32 c.args.s =
    fits_range _ (rw (to_z-of_z c.ranges.s) at c.if-s-lt-WIDE_LEAST.false) (rw (to_z-of_z c.ranges.s) at c.if-s-gt-WIDE_GREATEST.false) in
    rw (to_z-of_z c.ranges.s, to_z-of_z in_range) (sym (integer_inside _ in_range))
