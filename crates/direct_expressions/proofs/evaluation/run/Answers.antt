-- `direct_expressions::evaluation::run` meets its contract: the rest of the operations leaves what all leave; the measure is the operations left. Assumes
-- nothing.
use Rattle.std.proofs.Common.{rules, ◌≡◌}
use Rattle.std.specs.Prelude.{Err}
use mir.Syntax.{w32}
use mir.Val.{SFits}
use borrow.Author.Rules.{rules}
use mir.Facts.{to_z-of_z}
use Rattle.direct_expressions.proofs.StackLaws.{left_first, left_again, left_stop, left_end}
use Rattle.direct_expressions.proofs.evaluation.run.Goals as goal

pub loop-at-init : goal.loop-at-init
loop-at-init c =
    left_first c.args.codes.now c.args.args.now c.args.from c.args.to
    c.args.inputs.now c.args.variables.now c.args.stack.now c.requires

pub step-requires : goal.step-requires
step-requires c = c.loop-at.invariant.room

pub loop-at-preserved : goal.loop-at-preserved
loop-at-preserved c =
    let fit : SFits w32 c.number.result = search rules in
    left_again c.args.codes.now
    c.args.args.now
    c.args.from
    c.args.to
    c.args.inputs.now
    c.args.variables.now
    c.loop-at.depth
    c.loop-at.at
    c.loop-at.stack _ c.step.result
    c.in_ok-depth.depth c.loop-at.invariant
    c.loop-at-test.true
    (rw (c.code_at.ensures, c.number.ensures)
    at (rw (to_z-of_z fit) at c.step.ensures)) c.in_ok-depth.was

pub returns-in_err-depth : goal.returns-in_err-depth
returns-in_err-depth c =
    let fit : SFits w32 c.number.result = search rules in
    let e : c.from_residual.result ≡ Err c.in_err-depth.field-0.0 = search rules in
    rw e (left_stop c.args.codes.now
    c.args.args.now
    c.args.from
    c.args.to
    c.args.inputs.now
    c.args.variables.now
    c.loop-at.depth
    c.loop-at.at
    c.loop-at.stack _ c.step.result
    c.in_err-depth.field-0.0 c.loop-at.invariant
    c.loop-at-test.true
    (rw (c.code_at.ensures, c.number.ensures)
    at (rw (to_z-of_z fit) at c.step.ensures)) c.in_err-depth.was)

pub top-requires : goal.top-requires
top-requires c = c.loop-at.invariant.room

pub returns : goal.returns
returns c =
    left_end c.args.codes.now c.args.args.now
    c.args.from c.args.to
    c.args.inputs.now c.args.variables.now
    c.loop-at.depth c.loop-at.at c.loop-at.stack _
    c.loop-at.invariant c.loop-at-test.false c.top.ensures
