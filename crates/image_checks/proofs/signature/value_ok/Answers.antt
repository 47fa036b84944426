-- `image_checks::signature::value_ok` meets its contract: the byte that is read is the one at the position. Assumes nothing.
use mathlib.Core.Path.{ap, ◌∙◌}
use mir.Facts.{to_z-of_z}
use Rattle.base_signed.specs.Signed.{in_type_byte}
use Rattle.image_checks.proofs.signature.value_ok.Goals as goal

pub returns : goal.returns
returns c = (rw (to_z-of_z c.ranges.v) at c.in_type.ensures) ∙ ap (λ b. in_type_byte b c.args.v) c.byte.ensures
