-- `image_loader::signature::has_signature` meets its contract: its tests are those of refusal 12. Assumes nothing.
use Rattle.std.proofs.Common.{rules, arith}
use Rattle.std.proofs.lemmas.Grind.{common_steps}
use Rattle.image_loader.proofs.SignatureLaws.{signature_short, signature_counts}
use Rattle.image_loader.proofs.signature.has_signature.Goals as goal

pub returns-then-s-lt-COUNTS : goal.returns-then-s-lt-COUNTS
returns-then-s-lt-COUNTS c = signature_short c.args.s.now c.if-s-lt-COUNTS.true

pub returns-then-cells-2 : goal.returns-then-cells-2
returns-then-cells-2 c =
    signature_counts c.args.s.now c.if-s-lt-COUNTS.false c.count-inputs.ensures.value c.count-outputs.ensures.value c.count-variables.ensures.value (grind (arith, common_steps))

pub returns-else-cells-2 : goal.returns-else-cells-2
returns-else-cells-2 c =
    signature_counts c.args.s.now c.if-s-lt-COUNTS.false c.count-inputs.ensures.value c.count-outputs.ensures.value c.count-variables.ensures.value (search rules)
