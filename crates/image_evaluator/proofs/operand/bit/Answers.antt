-- `image_evaluator::operand::bit` meets its contract: the byte after the operation is 0 or 1. Assumes nothing.
use mathlib.Core.Path.{◌≡◌}
use native.Mathlib.Omega.{arith}
use Rattle.base_codes.specs.Operation.{width_of}
use Rattle.image_evaluator.proofs.OperandLaws.{bit_short, bit_zero, bit_one, bit_other}
use Rattle.image_evaluator.proofs.operand.bit.Goals as goal

pub returns-then-code-at : goal.returns-then-code-at
unfolding width_of
returns-then-code-at c =
    let w : c.width.result ≡ 2 = c.width.ensures.value in
    bit_short c.args.code.now c.args.at (rw w at c.if-code-at.true)

pub bounds-code-at : goal.bounds-code-at
unfolding width_of
bounds-code-at c =
    let w : c.width.result ≡ 2 = c.width.ensures.value in
    let h = c.if-code-at.false in
    omega arith

pub returns-then-b-eq0 : goal.returns-then-b-eq0
unfolding width_of
returns-then-b-eq0 c =
    let w : c.width.result ≡ 2 = c.width.ensures.value in
    bit_zero c.args.code.now c.args.at
    (rw w at c.if-code-at.false) c.if-b-eq0.true

pub returns-then-b-eq1 : goal.returns-then-b-eq1
unfolding width_of
returns-then-b-eq1 c =
    let w : c.width.result ≡ 2 = c.width.ensures.value in
    bit_one c.args.code.now c.args.at
    (rw w at c.if-code-at.false) c.if-b-eq1.true

pub returns : goal.returns
unfolding width_of
returns c =
    let w : c.width.result ≡ 2 = c.width.ensures.value in
    bit_other c.args.code.now c.args.at
    (rw w at c.if-code-at.false) c.if-b-eq0.false c.if-b-eq1.false
