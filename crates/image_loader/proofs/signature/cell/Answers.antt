-- `image_loader::signature::cell` meets its contract: five bytes, and the value is one of the type. Assumes nothing.
use mathlib.Core.Path.{refl, ◌∙◌}
use mir.Syntax.{w32}
use mir.Val.{SFits}
use Rattle.image_loader.proofs.SignatureLaws.{cell_short, cell_answer}
use borrow.Author.Rules.{rules}
use borrow.Author.Tests.{lt-leb}
use lib.ListN.{length}
use Prim.Native.Nat.{◌+◌}
use Rattle.image_loader.proofs.signature.cell.Goals as goal

pub returns-then-at-s : goal.returns-then-at-s
returns-then-at-s c =
    let f : SFits w32 c.from_bits.result = search rules in
    c.in_type.ensures ∙ cell_answer c.args.at c.args.s.now c.if-at-s.true refl c.word4.ensures c.from_bits.ensures f

pub returns-else-at-s : goal.returns-else-at-s
returns-else-at-s c = lt-leb (c.args.at + 5) (length c.args.s.now) c.if-at-s.false ∙ cell_short c.args.at c.args.s.now c.if-at-s.false
