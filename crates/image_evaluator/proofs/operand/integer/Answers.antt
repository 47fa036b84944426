-- `image_evaluator::operand::integer` meets its contract: four bytes after the operation are an integer. Assumes nothing.
use mathlib.Core.Path.{◌≡◌, ap, ◌∙◌}
use mir.Syntax.{w32}
use mir.Val.{SFits}
use mir.Facts.{to_z-of_z}
use Rattle.spec_semantics.specs.Twos.{signed32}
use Rattle.base_codes.specs.Operation.{width_of}
use Rattle.image_evaluator.proofs.OperandLaws.{int_found, int_short}
use borrow.Author.Rules.{rules}
use Rattle.image_evaluator.proofs.operand.integer.Goals as goal

pub returns-then-at-width : goal.returns-then-at-width
unfolding width_of
returns-then-at-width c =
    let w : c.width.result ≡ 5 = c.width.ensures.value in
    let fit : SFits w32 c.from_bits-v.result = search rules in
    rw (to_z-of_z fit)
    (int_found c.args.code.now c.args.at c.from_bits-v.result
    (rw w at c.if-at-width.true) fit (c.from_bits-v.ensures ∙ ap signed32 c.word4.ensures))

pub returns-else-at-width : goal.returns-else-at-width
unfolding width_of
returns-else-at-width c =
    let w : c.width.result ≡ 5 = c.width.ensures.value in
    int_short c.args.code.now c.args.at (rw w at c.if-at-width.false)
