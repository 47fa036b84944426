-- `image_loader::code::variable_type` meets its contract: the type byte stands where the signature has it. Assumes nothing.
use Rattle.std.proofs.Common.{Some, ap, ◌∙◌}
use Rattle.image_loader.proofs.NameTypes.{variable_there, variable_past}
use Rattle.image_loader.proofs.code.variable_type.Goals as goal

pub returns-then-count-k : goal.returns-then-count-k
returns-then-count-k c = variable_past c.args.signature.now c.type_inv.signature c.requires c.count.ensures.value c.if-count-k.true

pub returns : goal.returns
returns c = ap Some c.byte.ensures ∙ variable_there c.args.signature.now c.type_inv.signature c.requires c.count-2.ensures.value c.count-3.ensures.value c.count.ensures.value c.if-count-k.false
