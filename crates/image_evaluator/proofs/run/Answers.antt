-- `image_evaluator::run` meets its contract. The invariant: the rest of the run answers what the whole answers. The measure: the operations left. Assumes
-- nothing.
use mathlib.Core.Path.{◌≡◌}
use Rattle.std.proofs.Common.{rules}
use Rattle.std.specs.Prelude.{Err}
use lib.ListN.{get_or}
use lib.IntN.{pos}
use mir.Syntax.{w32}
use mir.Val.{SFits}
use mir.Facts.{to_z-of_z}
use Rattle.image_evaluator.specs.Value.{machine_for}
use Rattle.image_evaluator.proofs.LoopLaws.{left_first, left_again, left_stop, left_spent, left_one, left_other}
use borrow.Author.Rules.{rules}
use Rattle.image_evaluator.proofs.run.Goals as goal

pub loop-at-init : goal.loop-at-init
loop-at-init c =
    let s = c.args in
    let M = machine_for s.inputs.now.kinds.now s.variables.now.kinds.now s.inputs.now.values.now s.variables.now.values.now in
    left_first M s.code.now s.stack.now.values s.stack.now.tags c.requires

pub returns-then-left-eq0-clause-value : goal.returns-then-left-eq0-clause-value
returns-then-left-eq0-clause-value c =
    let s = c.args in
    let m = c.loop-at in
    let M = machine_for s.inputs.now.kinds.now s.variables.now.kinds.now s.inputs.now.values.now s.variables.now.values.now in
    left_spent M s.code.now m.stack.values m.stack.tags m.depth m.at m.left m.invariant c.if-left-eq0.true c.loop-at-test.true

pub loop-at-preserved : goal.loop-at-preserved
loop-at-preserved c =
    let s = c.args in
    let m = c.loop-at in
    let M = machine_for s.inputs.now.kinds.now s.variables.now.kinds.now s.inputs.now.values.now s.variables.now.values.now in
    left_again M s.code.now m.stack.values m.stack.tags m.depth m.at m.left _ _ c.step.result c.in_ok-next.next m.invariant c.if-left-eq0.false
    c.loop-at-test.true c.step.ensures c.in_ok-next.was

pub returns-in_err-next-clause-value : goal.returns-in_err-next-clause-value
returns-in_err-next-clause-value c =
    let s = c.args in
    let m = c.loop-at in
    let M = machine_for s.inputs.now.kinds.now s.variables.now.kinds.now s.inputs.now.values.now s.variables.now.values.now in
    let e : c.from_residual.result ≡ Err c.in_err-next.field-0.0 = search rules in
    rw e (left_stop M s.code.now m.stack.values m.stack.tags m.depth m.at m.left _ _ c.step.result c.in_err-next.field-0.0 m.invariant c.if-left-eq0.false
    c.loop-at-test.true c.step.ensures c.in_err-next.was)

pub returns-then-depth-eq1-clause-value : goal.returns-then-depth-eq1-clause-value
returns-then-depth-eq1-clause-value c =
    let s = c.args in
    let m = c.loop-at in
    let M = machine_for s.inputs.now.kinds.now s.variables.now.kinds.now s.inputs.now.values.now s.variables.now.values.now in
    let fit : SFits w32 (get_or m.stack.values 0 (pos 0)) = search rules in
    rw (to_z-of_z fit) (left_one M s.code.now m.stack.values m.stack.tags m.depth m.at m.left m.invariant c.loop-at-test.false c.if-depth-eq1.true)

pub returns-clause-value : goal.returns-clause-value
returns-clause-value c =
    let s = c.args in
    let m = c.loop-at in
    let M = machine_for s.inputs.now.kinds.now s.variables.now.kinds.now s.inputs.now.values.now s.variables.now.values.now in
    left_other M s.code.now m.stack.values m.stack.tags m.depth m.at m.left m.invariant c.loop-at-test.false c.if-depth-eq1.false
