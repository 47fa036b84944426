-- `image_loader::code::run` meets its contract. The invariant: the rest of the code answers what the whole answers; the measure is the number of operations
-- left. Assumes nothing.
use native.Mathlib.Omega.{arith}
use borrow.Author.Tests.{eq-eqb, ne_eqb}
use Prim.Native.Nat.{◌-◌}
use mathlib.Core.Path.{◌∙◌}
use Rattle.image_loader.proofs.CodeLoop.{left_first, left_again, left_stop, left_spent, left_end}
use Rattle.image_loader.proofs.code.run.Goals as goal

pub loop-at-init : goal.loop-at-init
loop-at-init c = left_first c.args.signature.now c.args.s.now c.args.stack.now c.requires.stack_len

pub returns-then-left-eq0 : goal.returns-then-left-eq0
returns-then-left-eq0 c =
    let l = c.loop-at in
    left_spent c.args.signature.now c.args.s.now l.at l.depth l.left l.invariant c.loop-at-test.true c.if-left-eq0.true

pub returns-in_err-depth : goal.returns-in_err-depth
returns-in_err-depth c =
    let l = c.loop-at in
    let n = c.if-left-eq0.false in
    c.from_residual.ensures ∙ left_stop c.args.signature.now c.args.s.now c.type_inv.s l.at l.depth (c.loop-at.left - 1) l.invariant c.loop-at-test.true
    (omega arith) c.in_err-depth.ensures

pub loop-at-preserved : goal.loop-at-preserved
loop-at-preserved c =
    let l = c.loop-at in
    let n = c.if-left-eq0.false in
    left_again c.args.signature.now c.args.s.now c.type_inv.s l.at l.depth (c.loop-at.left - 1) l.invariant c.loop-at-test.true
    (omega arith) c.in_ok-depth.ensures c.width.ensures.value

pub returns-then-depth-ne1 : goal.returns-then-depth-ne1
returns-then-depth-ne1 c =
    let l = c.loop-at in
    let e = left_end c.args.signature.now c.args.s.now l.at l.depth l.left l.invariant c.loop-at-test.false in
    rw (ne_eqb l.depth 1 c.if-depth-ne1.true) at e

pub returns : goal.returns
returns c =
    let l = c.loop-at in
    let e = left_end c.args.signature.now c.args.s.now l.at l.depth l.left l.invariant c.loop-at-test.false in
    rw (eq-eqb l.depth 1 c.if-depth-ne1.false) at e
