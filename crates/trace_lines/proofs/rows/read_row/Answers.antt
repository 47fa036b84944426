-- `trace_lines::rows::read_row` meets its contract. The invariant: the values stored and the parts from here on make the row. Assumes nothing.
use native.Mathlib.Omega.{arith}
use Rattle.trace_lines.proofs.RowLaws.{row_empty, row_first, row_long, row_unreadable, row_again, row_end, end_inside}
use mir.Syntax.{w32}
use mir.Val.{SFits}
use mir.Facts.{to_z-of_z}
use borrow.Author.Rules.{rules}
use Rattle.trace_lines.proofs.rows.read_row.Goals as goal

pub returns-then-is_empty : goal.returns-then-is_empty
returns-then-is_empty c = row_empty _ _ (search rules)

pub loop-i-init : goal.loop-i-init
loop-i-init c = row_first _ _ (search rules)

pub returns-then-n-ge-INPUTS : goal.returns-then-n-ge-INPUTS
returns-then-n-ge-INPUTS c = row_long _ _ _ _ _ c.loop-i.invariant c.loop-i-test.true c.if-n-ge-INPUTS.true

pub returns-in_err-v : goal.returns-in_err-v
returns-in_err-v c =
    rw c.from_residual.ensures
    (row_unreadable _ _ _ _ _ c.loop-i.invariant _ _ _ c.loop-i-test.true c.part_end-end.ensures c.part_of.ensures
    c.read_decimal.ensures c.in_err-v.was)

pub overflow_add-i : goal.overflow_add-i
overflow_add-i c =
    let z = end_inside _ _ _ _ _ c.loop-i.invariant _
    c.loop-i-test.true
    c.part_end-end.ensures in omega arith

pub loop-i-preserved : goal.loop-i-preserved
loop-i-preserved c =
    let fit : SFits w32 c.in_ok-v.v = search rules in
    row_again _ _ _ _ _ c.loop-i.invariant _ _ _ _ _ _ c.loop-i-test.true c.if-n-ge-INPUTS.false c.part_end-end.ensures
    c.part_of.ensures c.read_decimal.ensures c.in_ok-v.was c.store.ensures (to_z-of_z fit)

pub returns : goal.returns
returns c = row_end _ _ _ _ _ c.loop-i.invariant c.loop-i-test.false
