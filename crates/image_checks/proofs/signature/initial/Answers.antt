-- `image_checks::signature::initial` meets its contract: the four bytes are read as an integer. Assumes nothing.
use mathlib.Core.Path.{ap, ◌∙◌}
use borrow.Author.Rules.{rules}
use mir.Syntax.{w32}
use mir.Val.{SFits}
use mir.Facts.{to_z-of_z}
use Rattle.spec_semantics.specs.Twos.{signed32}
use Rattle.image_checks.proofs.signature.initial.Goals as goal

pub returns-then-used : goal.returns-then-used
returns-then-used c =
    let h : SFits w32 c.from_bits.result = search rules in
    rw (to_z-of_z h, c.if-used.true) (c.from_bits.ensures ∙ ap signed32 c.word4.ensures)

pub returns-else-used : goal.returns-else-used
returns-else-used c = rw c.if-used.false
