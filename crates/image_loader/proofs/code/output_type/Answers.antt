-- `image_loader::code::output_type` meets its contract: the type byte stands where the signature has it. Assumes nothing.
use Rattle.std.proofs.Common.{Some, ap, ◌∙◌}
use Rattle.image_loader.proofs.NameTypes.{output_there, output_past}
use Rattle.image_loader.proofs.code.output_type.Goals as goal

pub returns-then-count-k : goal.returns-then-count-k
returns-then-count-k c = output_past c.args.signature.now c.type_inv.signature c.requires c.count.ensures.value c.if-count-k.true

pub returns : goal.returns
returns c = ap Some c.byte.ensures ∙ output_there c.args.signature.now c.type_inv.signature c.requires c.count-first.ensures.value c.count.ensures.value c.if-count-k.false
