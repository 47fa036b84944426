-- `image_batch::due` meets its contract, by quotient and remainder. Assumes nothing.
use mathlib.Core.Path.{◌∙◌}
use borrow.Author.Tests.{ne_eqb}
use Prim.Native.Nat.{◌%◌}
use Rattle.image_batch.proofs.DueLaws.{due_rest}
use Rattle.image_batch.proofs.due.Goals as goal

pub returns-else-len-width-eq0 : goal.returns-else-len-width-eq0
returns-else-len-width-eq0 c =
    let a = c.args in
    ne_eqb (a.len % a.width) 0 c.if-len-width-eq0.false ∙ due_rest a.len a.count a.width c.if-len-width-eq0.false
