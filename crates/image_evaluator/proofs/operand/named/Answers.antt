-- `image_evaluator::operand::named` meets its contract: the byte after the operation is the index of a type and of a number. Assumes nothing.
use mathlib.Core.Path.{◌≡◌}
use native.Mathlib.Omega.{arith}
use mir.Syntax.{w32}
use mir.Val.{SFits}
use mir.Facts.{to_z-of_z}
use Rattle.base_codes.specs.Operation.{width_of}
use Rattle.image_evaluator.proofs.OperandLaws.{name_short, name_unknown, name_found}
use borrow.Author.Rules.{rules}
use Rattle.image_evaluator.proofs.operand.named.Goals as goal

pub returns-then-code-at : goal.returns-then-code-at
unfolding width_of
returns-then-code-at c =
    let w : c.width.result ≡ 2 = c.width.ensures.value in
    name_short c.args.code.now c.args.at
    c.args.row.now.kinds.now c.args.row.now.values.now (rw w at c.if-code-at.true)

pub bounds-code-at : goal.bounds-code-at
unfolding width_of
bounds-code-at c =
    let w : c.width.result ≡ 2 = c.width.ensures.value in
    let h = c.if-code-at.false in
    omega arith

pub returns-then-row-k : goal.returns-then-row-k
unfolding width_of
returns-then-row-k c =
    let w : c.width.result ≡ 2 = c.width.ensures.value in
    name_unknown c.args.code.now
    c.args.at c.args.row.now.kinds.now
    c.args.row.now.values.now (rw w at c.if-code-at.false)
    (rw c.from-k.ensures at c.if-row-k.true)

pub returns : goal.returns
unfolding width_of
returns c =
    let w : c.width.result ≡ 2 =
    c.width.ensures.value in
    let k = c.from-k.ensures in
    let fit : SFits w32 c.number-v.result = search rules in
    rw (to_z-of_z fit, c.number-v.ensures, c.tag-t.ensures, k)
    (name_found c.args.code.now
    c.args.at
    c.args.row.now.kinds.now
    c.args.row.now.values.now
    (rw w at c.if-code-at.false) (rw k at c.if-row-k.false))
