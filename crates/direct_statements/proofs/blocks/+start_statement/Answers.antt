-- Blocks and the statements in them, each of which calls the other. Assumes nothing.
use mathlib.Core.Path.{ap, ◌∙◌}
use Rattle.spec_design.specs.Expression.{fine}
use Rattle.base_codes.specs.Fault.{outcome}
use Rattle.std.proofs.Common.{refl, arith, rules}
use Rattle.direct_statements.specs.Holding.{start_rest}
use Rattle.direct_statements.specs.Standing.{run}
use Rattle.direct_statements.specs.declared.Progress.TheVariants.{Passed}
use Rattle.direct_statements.proofs.BlockLaws.{going_end, going_inside, going_again, going_reached, going_refused}
use Rattle.direct_statements.proofs.StatementLaws.{nested_true, waits_stand, refuses_stand, enters_stand, never_outside}
use Rattle.direct_statements.proofs.blocks.+start_statement.Goals as goal

pub start-loop-at-init : goal.start-loop-at-init
start-loop-at-init t c =
    record {
      low = omega arith;
      high = omega arith;
      few = omega arith;
      going = λ q w h l. record { block = q; way = w; held = h; count = l; same = refl };
      outputs = refl;
      variables = refl;
    }

pub start-returns-then-next-at-clause-result_bound :
    goal.start-returns-then-next-at-clause-result_bound
start-returns-then-next-at-clause-result_bound t c = let k = c.loop-at.invariant in omega arith

pub start-returns-then-next-at-clause-starts : goal.start-returns-then-next-at-clause-starts
start-returns-then-next-at-clause-starts t c =
    λ q w h l. let p = going_inside c.args.codes.now c.args.args.now c.args.rows.now c.args.inputs.now c.args.end
    (start_rest q c.args.first c.args.inputs.now (run w c.args.outputs.now c.args.variables.now)) c.loop-at.at c.loop-at.n
    c.entry-next.result c.loop-at.outputs c.loop-at.variables c.loop-at.outputs c.loop-at.variables (Passed 0)
    (c.loop-at.invariant.going q w h l) c.loop-at-test.true c.entry-next.ensures.value in
    let g = c.if-next-at.true in absurd (omega arith)

pub start-returns-then-end-next-clause-result_bound :
    goal.start-returns-then-end-next-clause-result_bound
start-returns-then-end-next-clause-result_bound t c = let k = c.loop-at.invariant in omega arith

pub start-returns-then-end-next-clause-starts : goal.start-returns-then-end-next-clause-starts
start-returns-then-end-next-clause-starts t c =
    λ q w h l. let p = going_inside c.args.codes.now c.args.args.now c.args.rows.now c.args.inputs.now c.args.end
    (start_rest q c.args.first c.args.inputs.now (run w c.args.outputs.now c.args.variables.now)) c.loop-at.at c.loop-at.n
    c.entry-next.result c.loop-at.outputs c.loop-at.variables c.loop-at.outputs c.loop-at.variables (Passed 0)
    (c.loop-at.invariant.going q w h l) c.loop-at-test.true c.entry-next.ensures.value in
    let g = c.if-end-next.true in absurd (omega arith)

pub start-statement-r-requires : goal.start-statement-r-requires
start-statement-r-requires t c =
    let k = c.loop-at.invariant in
    let x = c.if-next-at.false in
    let y = c.if-end-next.false in
    (omega arith, (record { order = omega arith; few = omega arith; room = omega arith }, omega arith))

pub start-loop-at-preserved : goal.start-loop-at-preserved
start-loop-at-preserved t c =
    let k = c.loop-at.invariant in
    let x = c.if-next-at.false in
    let y = c.if-end-next.false in
    let u = rw c.in-Passed.is at c.statement-r.ensures.result_bound in
    record {
      low = omega arith;
      high = omega arith;
      few = omega arith;
      going = λ q w h l. going_again c.args.codes.now c.args.args.now c.args.rows.now c.args.inputs.now c.args.end
          (start_rest q c.args.first c.args.inputs.now (run w c.args.outputs.now c.args.variables.now)) c.loop-at.at c.loop-at.n
          c.entry-next.result c.loop-at.outputs c.loop-at.variables _ _ c.statement-r.result c.in-Passed.k
          (c.loop-at.invariant.going q w h l) c.loop-at-test.true c.entry-next.ensures.value c.statement-r.ensures.starts_one
          c.in-Passed.is;
      outputs = search rules;
      variables = search rules;
    }

pub start-returns-in-Reached-clause-result_bound :
    goal.start-returns-in-Reached-clause-result_bound
start-returns-in-Reached-clause-result_bound t c =
    let k = c.loop-at.invariant in
    let x = c.if-next-at.false in
    let y = c.if-end-next.false in
    let u = rw c.in-Reached.is at c.statement-r.ensures.result_bound in
    omega arith

pub start-returns-in-Reached-clause-starts : goal.start-returns-in-Reached-clause-starts
start-returns-in-Reached-clause-starts t c =
    λ q w h l. going_reached c.args.codes.now c.args.args.now c.args.rows.now c.args.inputs.now c.args.end
    (start_rest q c.args.first c.args.inputs.now (run w c.args.outputs.now c.args.variables.now)) c.loop-at.at c.loop-at.n
    c.entry-next.result c.loop-at.outputs c.loop-at.variables _ _ c.statement-r.result c.in-Reached.p c.in-Reached.k
    (c.loop-at.invariant.going q w h l) c.loop-at-test.true c.entry-next.ensures.value c.statement-r.ensures.starts_one
    c.in-Reached.is

pub start-returns-in-Refused-clause-starts : goal.start-returns-in-Refused-clause-starts
start-returns-in-Refused-clause-starts t c =
    λ q w h l. going_refused c.args.codes.now c.args.args.now c.args.rows.now c.args.inputs.now c.args.end
    (start_rest q c.args.first c.args.inputs.now (run w c.args.outputs.now c.args.variables.now)) c.loop-at.at c.loop-at.n
    c.entry-next.result c.loop-at.outputs c.loop-at.variables _ _ c.statement-r.result c.in-Refused.q c.in-Refused.x
    (c.loop-at.invariant.going q w h l) c.loop-at-test.true c.entry-next.ensures.value c.statement-r.ensures.starts_one
    c.in-Refused.is

pub start-returns-clause-result_bound : goal.start-returns-clause-result_bound
start-returns-clause-result_bound t c = let k = c.loop-at.invariant in omega arith

pub start-returns-clause-starts : goal.start-returns-clause-starts
start-returns-clause-starts t c =
    λ q w h l. going_end c.args.codes.now c.args.args.now c.args.rows.now c.args.inputs.now c.args.end
    (start_rest q c.args.first c.args.inputs.now (run w c.args.outputs.now c.args.variables.now)) c.loop-at.at c.loop-at.n
    c.loop-at.outputs c.loop-at.variables (c.loop-at.invariant.going q w h l) c.loop-at-test.false

pub statement-start-requires : goal.statement-start-requires
statement-start-requires t c =
    let f = nested_true c.nested-right.result c.args.at c.in-Performed.a c.in-Performed.b c.args.next c.nested-right.ensures
    c.if-right.true in
    (omega arith, record { order = omega arith; few = omega arith; room = omega arith })

pub statement-returns-then-right-clause-starts_one :
    goal.statement-returns-then-right-clause-starts_one
statement-returns-then-right-clause-starts_one t c =
    λ f w s h l. enters_stand _ _ _ _ _ _ _ _ _ _ _ (outcome c.perform-m.result) c.in-Performed.a c.in-Performed.b c.start.result _ _ w
    c.perform-m.ensures (ap outcome c.in-Ok.is ∙ ap fine c.in-Performed.is) c.start.ensures.starts s h l

pub statement-returns-in-Waits-clause-starts_one :
    goal.statement-returns-in-Waits-clause-starts_one
statement-returns-in-Waits-clause-starts_one t c =
    λ f w s h l. waits_stand c.args.codes.now c.args.args.now c.args.rows.now c.args.inputs.now c.args.at c.args.next c.args.count
    c.args.outputs.now c.args.variables.now _ _ (outcome c.perform-m.result) w c.perform-m.ensures (ap outcome c.in-Ok.is ∙ ap fine c.in-Waits.is) s h l

pub statement-returns-in-Err-clause-starts_one :
    goal.statement-returns-in-Err-clause-starts_one
statement-returns-in-Err-clause-starts_one t c =
    λ f w s h l. refuses_stand c.args.codes.now c.args.args.now c.args.rows.now c.args.inputs.now c.args.at c.args.next c.args.count
    c.args.outputs.now c.args.variables.now _ _ (outcome c.perform-m.result) w c.in-Err.q c.perform-m.ensures (ap outcome c.in-Err.is) s h

pub statement-returns-else-right-clause-starts_one :
    goal.statement-returns-else-right-clause-starts_one
statement-returns-else-right-clause-starts_one t c =
    λ f w s h l. absurd (never_outside c.args.codes.now c.args.args.now c.args.rows.now c.args.inputs.now c.args.at c.args.next
    c.args.count c.args.outputs.now c.args.variables.now _ _ (outcome c.perform-m.result) w c.in-Performed.a c.in-Performed.b
    c.nested-right.result c.perform-m.ensures (ap outcome c.in-Ok.is ∙ ap fine c.in-Performed.is) c.nested-right.ensures c.if-right.false s h)
