-- `image_loader::code::input_type` meets its contract: the type byte stands where the signature has it. Assumes nothing.
use Rattle.std.proofs.Common.{Some, ap, ◌∙◌}
use Rattle.image_loader.proofs.NameTypes.{input_there, input_past}
use Rattle.image_loader.proofs.code.input_type.Goals as goal

pub returns-then-count-k : goal.returns-then-count-k
returns-then-count-k c = input_past c.args.signature.now c.type_inv.signature c.requires c.count.ensures.value c.if-count-k.true

pub returns : goal.returns
returns c = ap Some c.byte.ensures ∙ input_there c.args.signature.now c.type_inv.signature c.requires c.count.ensures.value c.if-count-k.false
